use Rattle.std.proofs.Common.{sym}
use Rattle.sn_expr_parser.proofs.TagSteps.{sign_from, sign_to, open_from, open_to, no_opening}
use Rattle.sn_expr_parser.proofs.tags.opening.Goals as goal

pub returns-in-Some : goal.returns-in-Some
returns-in-Some c = λ w t. rw c.in_ok-level.ensures (sign_from (sym c.in-Some.ensures), sign_to (sym c.in-Some.ensures))

pub returns-in_default-symbol : goal.returns-in_default-symbol
returns-in_default-symbol c = λ w t. no_opening (sym c.in_default.ensures) c.in_default-symbol.not-OpenParen

pub returns : goal.returns
returns c = λ w t. rw (c.in-OpenParen.is, c.in_ok-within.ensures) (open_from, open_to)
