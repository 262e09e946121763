use Rattle.sn_parser.proofs.Reaching.{goes_more, goes_nowhere}
use Rattle.sn_parser.proofs.parsing.next.Goals as goal

pub returns-in-Ok : goal.returns-in-Ok
returns-in-Ok c = goes_more _ _ _ _ _ c.in_ok-said.ensures c.in-Ok.ensures

pub returns-in-Err-Refused : goal.returns-in-Err-Refused
returns-in-Err-Refused c = goes_nowhere _ _ _ _ c.in_ok-said.ensures (rw c.in-Err-Refused.field-0-is at c.in-Err-Refused.ensures)
