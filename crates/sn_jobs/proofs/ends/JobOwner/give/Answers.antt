use Rattle.std.proofs.Common.{ap, refl, true, false}
use Rattle.sn_boxrun.specs.Job.{IsJobOf}
use Rattle.sn_ruled.proofs.Agrees.{last_of, pushes}
use Rattle.sn_jobs.proofs.ends.JobOwner.give.Goals as goal

pub push_as-requires-clause-rule : goal.push_as-requires-clause-rule
push_as-requires-clause-rule g c =
    let is = ap (λ v. v.role) c.self.invariant.1 in
    (pushes IsJobOf true false _ _ _ _ _ is (rw (← c.self.view_is) at c.requires), last_of IsJobOf true false _ _ _ is refl)
