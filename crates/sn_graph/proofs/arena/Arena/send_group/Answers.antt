use Rattle.std.proofs.Common.{ap, ◌∙◌, [], ◌∷◌}
use Rattle.sn_net.specs.Item.{modelled}
use Rattle.sn_view.specs.View.{It, Mark, ToNode}
use Rattle.sn_view.specs.Next.{send}
use Rattle.sn_graph.specs.Arena.{view_of}
use Rattle.sn_graph.proofs.Sending.{send-append}
use Rattle.sn_graph.proofs.arena.Arena.send_group.Goals as goal

pub returns-clause-view : goal.returns-clause-view
returns-clause-view c =
    c.send-2.ensures.view ∙ ap (send (ToNode c.args.entry) (Mark ∷ [])) c.send.ensures.view
    ∙ send-append (ToNode c.args.entry) (It (modelled c.args.item) ∷ []) (Mark ∷ []) (view_of c.args.self.now)
