use Rattle.std.proofs.Common.{sym, ◌∙◌}
use Rattle.sn_lexer.proofs.Tokens.{number_token, number_wrong}
use Rattle.sn_lexer.proofs.number.read_number.Goals as goal

pub returns-then-value-gt-LARGEST : goal.returns-then-value-gt-LARGEST
returns-then-value-gt-LARGEST c =
    rw c.place.ensures
    (number_wrong _ _ _ _ _ _ c.in-Some.ensures (sym c.is_ascii_digit.ensures.value ∙ c.if-not-is_ascii_digit.false) c.read_digits-value.ensures c.if-value-gt-LARGEST.true)

pub returns : goal.returns
returns c = number_token _ _ _ _ _ c.in-Some.ensures (sym c.is_ascii_digit.ensures.value ∙ c.if-not-is_ascii_digit.false) c.read_digits-value.ensures c.if-value-gt-LARGEST.false
