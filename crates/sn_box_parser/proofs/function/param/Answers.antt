use Rattle.sn_box_parser.proofs.Steps.{no_param, param_from, param_to}
use Rattle.sn_box_parser.proofs.function.param.Goals as goal

pub returns-in_default : goal.returns-in_default
returns-in_default c = λ w t. no_param _ c.in_default.ensures

pub returns : goal.returns
returns c = λ w t. rw (c.in-Some.ensures, c.in_ok-function.ensures) (param_from, param_to)
