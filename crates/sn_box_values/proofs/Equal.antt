-- Lists of different lengths aren't equal.
use Rattle.std.proofs.Common.{◌≡◌, Bool, true, false, ◌&&◌, List, [], ◌∷◌, length, refl, arith}
use Rattle.sn_record.specs.declared.value.Value.{Value}
use Rattle.sn_net.specs.BoxValues.{all_equal}

pub unequal_lengths : (tests : List (Value → Bool)) (vs : List Value) → (length tests ≡ length vs → ⊥) → all_equal tests vs ≡ false
unequal_lengths [] [] differ = absurd (differ refl)
unequal_lengths [] (v ∷ vs) differ = refl
unequal_lengths (is_one ∷ more) [] differ = refl
unequal_lengths (is_one ∷ more) (v ∷ vs) differ =
    let rest : all_equal more vs ≡ false = unequal_lengths more vs (λ same. differ (omega arith)) in
    rw rest (elim (is_one v) as (λ b. b && false ≡ false) [ true ↦ refl | false ↦ refl ])
