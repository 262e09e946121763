use Rattle.sn_box_parser.proofs.Steps.{no_after_part}
use Rattle.sn_box_parser.proofs.body.after_part.Goals as goal

pub returns-in_default : goal.returns-in_default
returns-in_default c = λ at w t. no_after_part _ c.in_default.not-Semicolon c.in_default.not-CloseBrace

pub returns-in-Semicolon : goal.returns-in-Semicolon
returns-in-Semicolon c = λ at. rw c.in-Semicolon.is (c.next_part.ensures at)

pub returns-in-CloseBrace : goal.returns-in-CloseBrace
returns-in-CloseBrace c = λ at. rw c.in-CloseBrace.is (c.close.ensures at)
