use Rattle.sn_expr_parser.proofs.BoxSteps.{middle_from, middle_to, no_middle}
use Rattle.sn_expr_parser.proofs.box_after.in_middle.Goals as goal

pub returns-in_default : goal.returns-in_default
returns-in_default c = λ at w t. no_middle c.in_default.ensures

pub returns : goal.returns
returns c = λ at w t. rw c.in_ok-within.ensures (middle_from c.in-Some.ensures, middle_to c.in-Some.ensures)
