use Rattle.sn_expr_parser.proofs.BoxSteps.{frame_keyword}
use Rattle.sn_expr_parser.proofs.box_frame.Frame.take_keyword.Goals as goal

pub returns-in-Middle : goal.returns-in-Middle
returns-in-Middle c = rw c.in-Middle.is c.in_middle.ensures

pub returns-in_default : goal.returns-in_default
returns-in_default c = λ at w t. frame_keyword c.args.self c.in_default.not-Middle c.requires
