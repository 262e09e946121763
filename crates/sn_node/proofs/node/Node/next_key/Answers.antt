use Rattle.std.proofs.Common.{sym, ap, ◌∙◌}
use Rattle.sn_model.specs.Run.{boxes_of}
use Rattle.sn_view.specs.Parts.{part_at}
use Rattle.sn_node.proofs.Routers.{part_dispatches}
use Rattle.sn_node.proofs.node.Node.next_key.Goals as goal

pub entry_key-requires : goal.entry_key-requires
entry_key-requires c =
    part_dispatches (boxes_of c.args.run.now) c.net.result.now c.args.self.now.made.path c.in-Some.part.now c.net.ensures.formed
    (c.in-Some.ensures ∙ ap (λ path. part_at c.net.result.now path) c.as_slice.ensures) (sym c.is_dispatching.ensures ∙ c.if-not-is_dispatching.false)
