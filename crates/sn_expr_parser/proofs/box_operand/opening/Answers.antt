use Rattle.std.proofs.Common.{sym}
use Rattle.sn_expr_parser.proofs.BoxSteps.{sign_from, sign_to, open_from, open_to, list_from, list_to, no_opening}
use Rattle.sn_expr_parser.proofs.box_operand.opening.Goals as goal

pub returns-in-Some : goal.returns-in-Some
returns-in-Some c = λ w t. rw c.in_ok-level.ensures (sign_from (sym c.in-Some.ensures), sign_to (sym c.in-Some.ensures))

pub returns-in-OpenParen : goal.returns-in-OpenParen
returns-in-OpenParen c = λ w t. rw c.in-OpenParen.is (open_from, open_to)

pub returns-in-OpenBracket : goal.returns-in-OpenBracket
returns-in-OpenBracket c = λ w t. rw c.in-OpenBracket.is (list_from, list_to)

pub returns-in_default-symbol : goal.returns-in_default-symbol
returns-in_default-symbol c = λ w t. no_opening (sym c.in_default.ensures) c.in_default-symbol.not-OpenParen c.in_default-symbol.not-OpenBracket
