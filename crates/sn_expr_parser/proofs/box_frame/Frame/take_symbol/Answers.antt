use Rattle.sn_expr_parser.proofs.BoxSteps.{frame_symbol}
use Rattle.sn_expr_parser.proofs.box_frame.Frame.take_symbol.Goals as goal

pub returns-in-Parens : goal.returns-in-Parens
returns-in-Parens c = rw c.in-Parens.is c.in_parens.ensures

pub returns-in-Arguments : goal.returns-in-Arguments
returns-in-Arguments c = rw c.in-Arguments.is c.in_arguments.ensures

pub returns-in_default : goal.returns-in_default
returns-in_default c = λ place w t. frame_symbol c.args.self c.in_default.not-Parens c.in_default.not-Arguments c.requires
