use Rattle.sn_planned.proofs.Unique.{one_plan}
use Rattle.sn_planned.proofs.laws.a_claim_has_one_plan.Goals as goal

pub returns : goal.returns
returns c = λ boxes claim one other first second. one_plan boxes claim one other first second
