use Rattle.std.proofs.Common.{sym, ap, ◌∙◌}
use Rattle.sn_model.specs.Run.{net_of}
use Rattle.sn_view.specs.Parts.{part_at}
use Rattle.sn_node.specs.Answered.{form_at}
use Rattle.sn_node.specs.Seen.{node_of}
use Rattle.sn_node.proofs.Passable.{box_at, box_may}
use Rattle.sn_node.proofs.node.Node.may_pass.Goals as goal

pub returns-then-is_alone : goal.returns-then-is_alone
returns-then-is_alone c =
    let path = c.args.self.now.made.path in
    box_may c.args.run.now (form_at (net_of c.args.run.now) path) c.in-Box.place c.in-Box.number (node_of c.args.self.now) c.is_first_done.result
    (box_at (net_of c.args.run.now) path c.in-Some.part.now c.in-Box.place c.in-Box.number
    (sym (c.in-Some.ensures ∙ ap (part_at c.net.result.now) c.as_slice.ensures ∙ ap (λ net. part_at net path) c.net.ensures.net)) c.in-Box.is)
    c.if-is_alone.ensures c.is_first_done.ensures
