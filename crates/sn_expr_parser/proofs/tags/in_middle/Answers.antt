use Rattle.sn_expr_parser.proofs.TagSteps.{colon_from, colon_to, no_colon}
use Rattle.sn_expr_parser.proofs.tags.in_middle.Goals as goal

pub returns-in_default : goal.returns-in_default
returns-in_default c = λ at w t. no_colon c.in_default.not-Colon

pub returns : goal.returns
returns c = λ at w t. rw (c.in-Colon.is, c.in_ok-within.ensures) (colon_from, colon_to)
