use Rattle.std.proofs.Common.{ap, true, false}
use Rattle.sn_jobs.specs.Queues.{IsDoneOf}
use Rattle.sn_ruled.proofs.Agrees.{moment, pushes}
use Rattle.sn_jobs.proofs.ends.JobHand.answer.Goals as goal

pub push_as-requires-clause-rule : goal.push_as-requires-clause-rule
push_as-requires-clause-rule g c = (pushes IsDoneOf false true _ _ _ _ _ (ap (λ v. v.role) c.self.invariant.2) (rw (← c.self.view_is) at c.requires), moment IsDoneOf false true _ _)
