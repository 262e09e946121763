use Rattle.std.proofs.Common.{suc, sym, ap, ◌∙◌}
use Rattle.std.specs.Prelude.{slice_get}
use Rattle.std.proofs.lemmas.Option.{same_Some}
use Rattle.sn_view.specs.View as view
use Rattle.sn_node.specs.Seen.{node_of}
use Rattle.sn_graph.proofs.Here.{here}
use Rattle.sn_graph.proofs.arena.Arena.list_children.Goals as goal

pub returns-clause-listed : goal.returns-clause-listed
returns-clause-listed c = λ n i child there at.
    let same = same_Some (node_of c.index.result.now) n (sym (here c.args.self.now c.args.i c.index.result.now c.requires c.index.ensures) ∙ there) in
    c.list_entries.ensures.listed i child (ap (λ (m : view.Node). slice_get m.children (suc i)) same ∙ at)
