use Rattle.std.proofs.Common.{rules, sym, ◌∙◌, refl}
use Rattle.sn_lexer.proofs.Numbers.{no_digits, digits_more, digits_end, stops_at_end, stops_at}
use Rattle.sn_lexer.proofs.number.read_digits.Goals as goal
use Rattle.sn_lexer.proofs.number.read_digits.Goals.{in-Some+then-not-is_ascii_digit, in_default}

pub loop-c-init : goal.loop-c-init
loop-c-init c = (search rules, no_digits _)

pub loop-c-preserved : goal.loop-c-preserved
loop-c-preserved c = (search rules, digits_more _ _ _ _ _ _ _ _ c.loop-c.invariant.1 c.in-Some.ensures (sym c.is_ascii_digit.ensures.value ∙ c.if-not-is_ascii_digit.false) refl c.saturating_mul.ensures c.saturating_add-value.ensures)

pub returns : goal.returns
returns c = digits_end _ _ _ c.loop-c.invariant.1 (elim c.match-split_first.branch [
  | in-Some+then-not-is_ascii_digit w ↦ stops_at _ _ _ _ w.in-Some.ensures (sym w.is_ascii_digit.ensures.value ∙ w.if-not-is_ascii_digit.true)
  | in_default w ↦ stops_at_end _ _ w.in_default.ensures
])
