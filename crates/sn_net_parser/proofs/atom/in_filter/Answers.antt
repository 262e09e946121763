use Rattle.sn_net_parser.proofs.Embedded.{filter_more, filter_done, filter_refused}
use Rattle.sn_net_parser.proofs.atom.in_filter.Goals as goal

pub returns-in-Ok-More : goal.returns-in-Ok-More
returns-in-Ok-More c = filter_more _ _ _ _ _ (rw c.in-Ok-More.field-0-is at c.in-Ok-More.ensures)

pub returns-in-Ok-Done : goal.returns-in-Ok-Done
returns-in-Ok-Done c = filter_done _ _ _ _ _ (rw c.in-Ok-Done.field-0-is at c.in-Ok-Done.ensures)

pub returns : goal.returns
returns c = filter_refused _ _ _ _ (rw c.in-Err-Refused.field-0-is at c.in-Err-Refused.ensures)
