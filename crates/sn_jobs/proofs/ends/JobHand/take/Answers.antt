use Rattle.std.proofs.Common.{ap, true, false}
use Rattle.sn_boxrun.specs.Job.{IsJobOf}
use Rattle.sn_ruled.proofs.Agrees.{moment, pops}
use Rattle.sn_jobs.proofs.ends.JobHand.take.Goals as goal

pub pop_as-requires-clause-rule : goal.pop_as-requires-clause-rule
pop_as-requires-clause-rule g c = (pops IsJobOf true false _ _ _ (ap (λ v. v.role) c.self.invariant.1), moment IsJobOf true false _ _)
