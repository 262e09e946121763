use Rattle.sn_box_parser.proofs.Steps.{no_params_here, params_from, params_to}
use Rattle.sn_box_parser.proofs.function.opening.Goals as goal

pub returns-in_default : goal.returns-in_default
returns-in_default c = λ w t. no_params_here _ c.in_default.ensures

pub returns : goal.returns
returns c = λ w t. rw c.in-Some.ensures (params_from, params_to)
