use Rattle.sn_box_parser.proofs.Steps.{function_from, function_to, no_function}
use Rattle.sn_box_parser.proofs.function.name.Goals as goal

pub returns-in_default : goal.returns-in_default
returns-in_default c = λ w t. no_function _ c.in_default.ensures

pub returns : goal.returns
returns c = λ w t. rw c.in-Some.ensures (function_from, function_to)
