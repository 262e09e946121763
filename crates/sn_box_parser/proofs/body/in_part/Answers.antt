use Rattle.sn_box_parser.proofs.Embedded.{expr_ended, through_more, through_refused}
use Rattle.sn_box_parser.proofs.body.in_part.Goals as goal

pub returns-in-Ok : goal.returns-in-Ok
returns-in-Ok c = through_more _ _ _ _ c.in-Ok.ensures

pub returns-in-Err-Refused : goal.returns-in-Err-Refused
returns-in-Err-Refused c = through_refused _ _ _ (rw c.in-Err-Refused.field-0-is at c.in-Err-Refused.ensures)

pub returns-in-Err-Ended : goal.returns-in-Err-Ended
returns-in-Err-Ended c = expr_ended _ c.args.part _ _ _ _ (rw c.in-Err-Ended.field-0-is at c.in-Err-Ended.ensures) _ c.after_part.ensures
