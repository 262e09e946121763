use Rattle.std.proofs.Common.{ap, refl, true, false}
use Rattle.sn_links.specs.Queues.{IsLinkJob}
use Rattle.sn_links.proofs.Links.{link_job}
use Rattle.sn_ruled.proofs.Agrees.{last_of, pushes}
use Rattle.sn_links.proofs.ends.JobLink.send.Goals as goal

pub push_as-requires-clause-rule : goal.push_as-requires-clause-rule
push_as-requires-clause-rule g c =
    let is = ap (λ v. v.role) c.self.invariant.0.1 in
    let of_run = rw (← c.self.view_is) at c.requires.of_run in
    let leads = rw (← c.self.view_is) at c.requires.leads in
    (pushes IsLinkJob true false _ _ _ _ _ is (link_job _ _ c.args.job c.args.steps.now c.in-Ok.ensures of_run leads), last_of IsLinkJob true false _ _ _ is refl)
