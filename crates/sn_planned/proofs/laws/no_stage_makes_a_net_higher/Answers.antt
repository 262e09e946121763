use Rattle.sn_planned.proofs.Heights.{flat_lower, plan_lower, slim_lower, trimmed_lower}
use Rattle.sn_planned.proofs.laws.no_stage_makes_a_net_higher.Goals as goal

pub returns-clause-flat : goal.returns-clause-flat
returns-clause-flat c = λ boxes net. flat_lower boxes net

pub returns-clause-trimmed : goal.returns-clause-trimmed
returns-clause-trimmed c = λ boxes root input way net trimmed trims. trimmed_lower boxes root input way net trimmed trims

pub returns-clause-slim : goal.returns-clause-slim
returns-clause-slim c = λ net. slim_lower net

pub returns-clause-plan : goal.returns-clause-plan
returns-clause-plan c = λ boxes claim planned plan. plan_lower boxes claim planned plan
