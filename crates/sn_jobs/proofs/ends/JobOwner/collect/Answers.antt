use Rattle.std.proofs.Common.{ap, true, false}
use Rattle.sn_jobs.specs.Queues.{IsDoneOf}
use Rattle.sn_ruled.proofs.Agrees.{moment, pops}
use Rattle.sn_jobs.proofs.ends.JobOwner.collect.Goals as goal

pub pop_as-requires-clause-rule : goal.pop_as-requires-clause-rule
pop_as-requires-clause-rule g c = (pops IsDoneOf false true _ _ _ (ap (λ v. v.role) c.self.invariant.2), moment IsDoneOf false true _ _)
