use Rattle.std.proofs.Common.{IsTrue, subst, ap, sym, ◌∙◌, []}
use Rattle.std.specs.Prelude.{IfSome}
use Rattle.std.specs.List.{list_all}
use Rattle.sn_view.specs.Routed.{is_going}
use Rattle.sn_view.specs.View.{first_of}
use Rattle.sn_view.specs.Next.{keeps}
use Rattle.sn_node.specs.Local.{cell_step}
use Rattle.sn_node.specs.Entry.{entry_of}
use Rattle.sn_node.specs.Seen.{state_of, node_of}
use Rattle.sn_node.proofs.Cells.{local_is_cell}
use Rattle.sn_node.proofs.node.Node.pass_cell.Goals as goal

pub cell_gives-requires-clause-routed : goal.cell_gives-requires-clause-routed
cell_gives-requires-clause-routed c = λ place.
    let old = node_of c.args.self.now in
    subst (λ step. IfSome step (λ s. IsTrue (list_all is_going s.entries)))
    (local_is_cell c.args.self.now.made.run.value place [] old.state (first_of old.waiting) (entry_of c.in-Some.entry) c.in-Some.ensures.taken.0
    ∙ ap (λ n. cell_step place n.state (entry_of c.in-Some.entry)) (sym c.in-Some.ensures.taken.1))
    (c.requires.routed place [])

pub returns-in-Ok-clause-ok : goal.returns-in-Ok-clause-ok
returns-in-Ok-clause-ok c = λ place own.
    let old = node_of c.args.self.now in
    record {
      step = local_is_cell c.args.self.now.made.run.value place own old.state (first_of old.waiting) (entry_of c.in-Some.entry) c.in-Some.ensures.taken.0
          ∙ ap (λ n. cell_step place n.state (entry_of c.in-Some.entry)) (sym c.in-Some.ensures.taken.1) ∙ c.in-Ok.ensures.given place;
      kept = ap (keeps (state_of c.cell_gives.new.state)) c.in-Some.ensures.taken.1;
    }
