use Rattle.sn_expr_parser.proofs.BoxSteps.{assign_from, assign_to, no_assign}
use Rattle.sn_expr_parser.proofs.box_operand.let_assign.Goals as goal

pub returns-in_default : goal.returns-in_default
returns-in_default c = λ w t. no_assign c.in_default.ensures

pub returns : goal.returns
returns c = λ w t. rw (c.in-Some.ensures, c.in_ok-within.ensures) (assign_from, assign_to)
