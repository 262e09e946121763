use Rattle.sn_filter_parser.proofs.FilterSteps.{guard_more, guard_refused, guard_ended}
use Rattle.sn_filter_parser.proofs.filter.in_guard.Goals as goal

pub returns-in-Ok : goal.returns-in-Ok
returns-in-Ok c = guard_more _ _ _ _ _ c.in-Ok.ensures

pub returns-in-Err-Refused : goal.returns-in-Err-Refused
returns-in-Err-Refused c = guard_refused _ _ _ _ (rw c.in-Err-Refused.field-0-is at c.in-Err-Refused.ensures)

pub returns-in-Err-Ended : goal.returns-in-Err-Ended
returns-in-Err-Ended c = guard_ended _ _ _ _ _ _ _ (rw c.in-Err-Ended.field-0-is at c.in-Err-Ended.ensures) _ c.guarded.ensures
