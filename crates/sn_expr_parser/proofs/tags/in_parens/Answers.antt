use Rattle.sn_expr_parser.proofs.TagSteps.{close_from, close_to, no_close}
use Rattle.sn_expr_parser.proofs.tags.in_parens.Goals as goal

pub returns-in_default : goal.returns-in_default
returns-in_default c = λ at w t. no_close c.in_default.not-CloseParen

pub returns : goal.returns
returns c = λ at w t. rw (c.in-CloseParen.is, c.parens-part.ensures) (close_from, close_to)
