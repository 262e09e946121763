use Rattle.std.proofs.Common.{ap, refl, sym, subst, true, false}
use Rattle.sn_boxrun.specs.Job.{IsJobOf}
use Rattle.sn_jobs.specs.Queues.{IsDoneOf}
use Rattle.sn_ruled.proofs.Agrees.{IsShared, joins}
use Rattle.sn_jobs.proofs.ends.JobHand.join.Goals as goal

pub absorb-requires-clause-rule : goal.absorb-requires-clause-rule
absorb-requires-clause-rule c = joins IsJobOf true false _ _ _ _ (subst (IsShared IsJobOf true false) (sym (ap (λ v. v.role) c.self.invariant.1)) refl)

pub absorb-requires-2-clause-rule : goal.absorb-requires-2-clause-rule
absorb-requires-2-clause-rule c = joins IsDoneOf false true _ _ _ _ (subst (IsShared IsDoneOf false true) (sym (ap (λ v. v.role) c.self.invariant.2)) refl)
