use Rattle.std.proofs.Common.{refl}
use Rattle.sn_net_parser.proofs.Embedded.{pattern_more, pattern_done, pattern_refused}
use Rattle.sn_net_parser.proofs.atom.in_pattern.Goals as goal

pub returns-in-Ok-More : goal.returns-in-Ok-More
returns-in-Ok-More c = pattern_more _ _ _ _ _ _ _ _ (rw c.in-Ok-More.field-0-is at c.in-Ok-More.ensures)

pub returns-in-Ok-Done : goal.returns-in-Ok-Done
returns-in-Ok-Done c = rw c.in_ok-cell-in-Ok-Done.ensures (pattern_done _ _ _ _ _ _ _ _ _ (rw c.in-Ok-Done.field-0-is at c.in-Ok-Done.ensures) refl)

pub returns : goal.returns
returns c = pattern_refused _ _ _ _ _ _ _ (rw c.in-Err-Refused.field-0-is at c.in-Err-Refused.ensures)
