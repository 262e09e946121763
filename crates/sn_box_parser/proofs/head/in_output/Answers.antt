use Rattle.sn_box_parser.proofs.Embedded.{through_done, through_more, through_refused}
use Rattle.sn_box_parser.proofs.head.in_output.Goals as goal

pub returns-in-Ok-More : goal.returns-in-Ok-More
returns-in-Ok-More c = through_more _ _ _ _ (rw c.in-Ok-More.field-0-is at c.in-Ok-More.ensures)

pub returns-in-Ok-Done : goal.returns-in-Ok-Done
returns-in-Ok-Done c = rw c.in_ok-head-in-Ok-Done.ensures (through_done _ _ _ _ (rw c.in-Ok-Done.field-0-is at c.in-Ok-Done.ensures))

pub returns : goal.returns
returns c = through_refused _ _ _ (rw c.in-Err-Refused.field-0-is at c.in-Err-Refused.ensures)
