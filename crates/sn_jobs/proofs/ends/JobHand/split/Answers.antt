use Rattle.std.proofs.Common.{ap, refl, sym, subst, true, false}
use Rattle.sn_boxrun.specs.Job.{IsJobOf}
use Rattle.sn_jobs.specs.Queues.{IsDoneOf}
use Rattle.sn_ruled.proofs.Agrees.{IsShared, shares}
use Rattle.sn_jobs.proofs.ends.JobHand.split.Goals as goal

pub another-job_pass-requires-clause-rule : goal.another-job_pass-requires-clause-rule
another-job_pass-requires-clause-rule c = shares IsJobOf true false _ _ (subst (IsShared IsJobOf true false) (sym (ap (λ v. v.role) c.self.invariant.1)) refl)

pub another-done_pass-requires-clause-rule : goal.another-done_pass-requires-clause-rule
another-done_pass-requires-clause-rule c = shares IsDoneOf false true _ _ (subst (IsShared IsDoneOf false true) (sym (ap (λ v. v.role) c.self.invariant.2)) refl)
