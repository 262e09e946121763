use Rattle.sn_net_parser.proofs.Embedded.{exit_more, exit_done, exit_refused}
use Rattle.sn_net_parser.proofs.post.in_exit.Goals as goal

pub returns-in-Ok-More : goal.returns-in-Ok-More
returns-in-Ok-More c = exit_more _ _ _ _ _ _ _ (rw c.in-Ok-More.field-0-is at c.in-Ok-More.ensures)

pub returns-in-Ok-Done : goal.returns-in-Ok-Done
returns-in-Ok-Done c = exit_done _ _ _ _ _ _ _ (rw c.in-Ok-Done.field-0-is at c.in-Ok-Done.ensures)

pub returns : goal.returns
returns c = exit_refused _ _ _ _ _ _ (rw c.in-Err-Refused.field-0-is at c.in-Err-Refused.ensures)
