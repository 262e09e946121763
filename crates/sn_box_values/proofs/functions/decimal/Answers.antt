use Rattle.std.proofs.Common.{◌≤◌, sym, subst, length, rules, ◌≡◌, ◌∙◌}
use Rattle.std.specs.Prelude.{FitsSigned}
use Rattle.std.specs.Int.{w64}
use Rattle.std.specs.Fmt.{signed_decimal}
use Rattle.std.proofs.lemmas.Int.{to_z-of_z}
use Rattle.sn_record.specs.Value.{IsSound}
use Rattle.sn_record.specs.declared.value.Value.TheVariants.{«Text»}
use Rattle.sn_box_values.proofs.Sound.{sound_decimal}
use Rattle.sn_box_values.proofs.functions.decimal.Goals as goal

-- src/functions.rt:49:8
pub new-requires : goal.new-requires
new-requires c =
    let fits : FitsSigned w64 c.in_ok-n.n = search rules in
    let text : c.format.result.now ≡ signed_decimal c.in_ok-n.n = rw (to_z-of_z w64 c.in_ok-n.n fits) at c.format.ensures.text in
    let short : length (signed_decimal c.in_ok-n.n) ≤ 40 = subst (λ t. length t ≤ 40) text c.format.ensures.short in
    subst (λ t. IsSound («Text» t)) (sym (c.in_ok-digits.ensures ∙ c.as_bytes.ensures.value ∙ text)) (sound_decimal c.in_ok-n.n fits short)
