use Rattle.sn_expr_parser.proofs.BoxSteps.{out_from, out_to, no_out}
use Rattle.sn_expr_parser.proofs.box_operand.word.Goals as goal

pub returns-in_default : goal.returns-in_default
returns-in_default c = λ w t. no_out c.in_default.not-Out

pub returns : goal.returns
returns c = λ w t. rw c.in-Out.is (out_from, out_to)
