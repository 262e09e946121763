use Rattle.std.proofs.Common.{ap, true, false}
use Rattle.sn_links.specs.Queues.{IsLinkDone}
use Rattle.sn_links.proofs.Links.{link_done}
use Rattle.sn_ruled.proofs.Agrees.{moment, pushes}
use Rattle.sn_links.proofs.ends.DoneLink.answer.Goals as goal

pub push_as-requires-clause-rule : goal.push_as-requires-clause-rule
push_as-requires-clause-rule g c =
    let of_run = rw (← c.self.view_is) at c.requires.of_run in
    (pushes IsLinkDone false true _ _ _ _ _ (ap (λ v. v.role) c.self.invariant.1) (link_done _ _ c.args.done c.in-Ok.ensures of_run), moment IsLinkDone false true _ _)
