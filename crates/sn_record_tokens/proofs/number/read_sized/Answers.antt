use Rattle.std.proofs.Common.{sym, ◌∙◌, subst}
use Rattle.std.specs.Prelude.{FitsSigned}
use Rattle.std.specs.Int.{w64}
use Rattle.std.proofs.lemmas.Int.{to_z-of_z}
use Rattle.sn_record_tokens.proofs.Numbers.{no_size_at_end, no_size_at, no_size_past, sized}
use Rattle.sn_record_tokens.proofs.number.read_sized.Goals as goal

pub returns-in_err-first : goal.returns-in_err-first
returns-in_err-first c = rw c.from_residual.ensures (no_size_at_end _ _ c.in_err-first.ensures)

pub returns-then-not-is_ascii_digit : goal.returns-then-not-is_ascii_digit
returns-then-not-is_ascii_digit c = no_size_at _ _ _ _ c.in_ok-first.ensures (sym c.is_ascii_digit.ensures.value ∙ c.if-not-is_ascii_digit.true)

pub returns-in_err-number : goal.returns-in_err-number
returns-in_err-number c = rw c.from_residual-in_err-number.ensures (no_size_past _ _ _ _ c.read_digits-size.ensures c.in_err-number.ensures)

pub returns : goal.returns
returns c =
    let fits : FitsSigned w64 c.in_ok-number.number = subst (FitsSigned w64) (sym c.in_ok-number.ensures.1) c.in_ok-number.ensures.0 in
    sized _ _ _ _ _ _ _ c.in_ok-first.ensures (sym c.is_ascii_digit.ensures.value ∙ c.if-not-is_ascii_digit.false) c.read_digits-size.ensures c.in_ok-number.ensures.0 (to_z-of_z w64 _ fits ∙ c.in_ok-number.ensures.1)
