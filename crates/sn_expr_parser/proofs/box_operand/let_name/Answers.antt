use Rattle.sn_expr_parser.proofs.BoxSteps.{name_from, name_to, no_name}
use Rattle.sn_expr_parser.proofs.box_operand.let_name.Goals as goal

pub returns-in_default : goal.returns-in_default
returns-in_default c = λ w t. no_name c.in_default.not-Name

pub returns : goal.returns
returns c = λ w t. rw c.in-Name.is (name_from, name_to)
