use Rattle.sn_routed.proofs.Onward.{on_branch, on_inside, on_left, on_replica, on_right}
use Rattle.sn_routed.proofs.laws.steps_lead_on.Goals as goal

pub returns-clause-left : goal.returns-clause-left
returns-clause-left c = on_left

pub returns-clause-right : goal.returns-clause-right
returns-clause-right c = on_right

pub returns-clause-branch : goal.returns-clause-branch
returns-clause-branch c = on_branch

pub returns-clause-inside : goal.returns-clause-inside
returns-clause-inside c = on_inside

pub returns-clause-replica : goal.returns-clause-replica
returns-clause-replica c = on_replica
