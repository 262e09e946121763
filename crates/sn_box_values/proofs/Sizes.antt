-- The size of what is put together, which is printable where its parts are.
use Rattle.std.proofs.Common.{◌≡◌, ◌+◌, ◌-◌, ℕ, true, ◌&&◌, List, [], ◌∷◌, ◌++◌, length, length-append, map, max, sum, refl, sym, ◌∙◌, arith}
use Rattle.std.specs.Prelude.{nat_le}
use Rattle.std.proofs.lemmas.Bool.{and_parts, and_from}
use Rattle.std.proofs.lemmas.List.Sums.{sum_by-cons}
use Rattle.sn_record.specs.declared.value.Value.{Value}
use Rattle.sn_record.specs.declared.value.Value.TheVariants.{«Text», «List» as ListOf}
use Rattle.sn_record.specs.Value.{IsSound, nesting, weight, is_printable, is_printable_text, greatest, every}
use Rattle.sn_record.proofs.Values.{nesting-Text, nesting-List, weight-Text, weight-List, is_printable-Text, is_printable-List}
use Rattle.sn_box_values.specs.Size.{IsSizeOf}
use Rattle.sn_box_values.specs.declared.size.Size.{Size}

sum_cons : (n : ℕ) (ns : List ℕ) → sum (n ∷ ns) ≡ n + sum ns
sum_cons n ns = sum_by-cons (λ k. k) n ns

greatest_append : (vs ws : List Value) → greatest (map nesting (vs ++ ws)) ≡ max (greatest (map nesting vs)) (greatest (map nesting ws))
greatest_append [] ws = omega arith
greatest_append (v ∷ vs) ws = omega (arith, greatest_append vs ws)

sum_append : (vs ws : List Value) → sum (map weight (vs ++ ws)) ≡ sum (map weight vs) + sum (map weight ws)
sum_append [] ws = omega arith
sum_append (v ∷ vs) ws = omega (arith, sum_append vs ws, sum_cons (weight v) (map weight (vs ++ ws)), sum_cons (weight v) (map weight vs))

every_append : (vs ws : List Value) → every (map is_printable vs) ≡ true → every (map is_printable ws) ≡ true → every (map is_printable (vs ++ ws)) ≡ true
every_append [] ws first rest = rest
every_append (v ∷ vs) ws first rest =
    let parts = and_parts (is_printable v) (every (map is_printable vs)) first in
    and_from _ _ parts.0 (every_append vs ws parts.1 rest)

text_append : (s t : List ℕ) → is_printable_text s ≡ true → is_printable_text t ≡ true → is_printable_text (s ++ t) ≡ true
text_append [] t first rest = rest
text_append (c ∷ s) t first rest =
    let parts = and_parts (nat_le 32 c && nat_le c 126) (is_printable_text s) first in
    and_from _ _ parts.0 (text_append s t parts.1 rest)

-- two Texts
pub sized_texts : (s t : List ℕ) (size : Size) → IsSizeOf («Text» s) size → IsSizeOf («Text» (s ++ t)) (record { levels = 0; weight = size.weight + length t })
sized_texts s t size sized = record {
  levels = nesting-Text (s ++ t);
  weighs = omega (arith, weight-Text (s ++ t), weight-Text s, length-append s t, sized.weighs);
}

pub printable_texts : (s t : List ℕ) → IsSound («Text» s) → IsSound («Text» t) → is_printable («Text» (s ++ t)) ≡ true
printable_texts s t first rest = is_printable-Text (s ++ t) ∙ text_append s t (sym (is_printable-Text s) ∙ first.printable) (sym (is_printable-Text t) ∙ rest.printable)

-- two Lists
pub sized_lists : (vs ws : List Value) (size added : Size) (levels : ℕ) → levels ≡ max size.levels added.levels → IsSizeOf (ListOf vs) size → IsSizeOf (ListOf ws) added → IsSizeOf (ListOf (vs ++ ws)) (record { levels = levels; weight = size.weight + added.weight - 1 })
sized_lists vs ws size added levels greater sized more = record {
  levels = omega (arith, nesting-List (vs ++ ws), nesting-List vs, nesting-List ws, greatest_append vs ws, sized.levels, more.levels);
  weighs = omega (arith, weight-List (vs ++ ws), weight-List vs, weight-List ws, sum_append vs ws, sized.weighs, more.weighs);
}

pub printable_lists : (vs ws : List Value) → IsSound (ListOf vs) → IsSound (ListOf ws) → is_printable (ListOf (vs ++ ws)) ≡ true
printable_lists vs ws first rest = is_printable-List (vs ++ ws) ∙ every_append vs ws (sym (is_printable-List vs) ∙ first.printable) (sym (is_printable-List ws) ∙ rest.printable)

-- a List with one more element
pub sized_more : (vs : List Value) (v : Value) (size added : Size) (levels : ℕ) → levels ≡ max size.levels (added.levels + 1) → IsSizeOf (ListOf vs) size → IsSizeOf v added → IsSizeOf (ListOf (vs ++ v ∷ [])) (record { levels = levels; weight = size.weight + added.weight })
sized_more vs v size added levels greater sized one = record {
  levels = omega (arith, nesting-List (vs ++ v ∷ []), nesting-List vs, greatest_append vs (v ∷ []), sized.levels, one.levels);
  weighs = omega (arith, weight-List (vs ++ v ∷ []), weight-List vs, sum_append vs (v ∷ []), sum_cons (weight v) [], sized.weighs, one.weighs);
}

pub printable_more : (vs : List Value) (v : Value) → IsSound (ListOf vs) → IsSound v → is_printable (ListOf (vs ++ v ∷ [])) ≡ true
printable_more vs v first one = is_printable-List (vs ++ v ∷ []) ∙ every_append vs (v ∷ []) (sym (is_printable-List vs) ∙ first.printable) (and_from _ _ one.printable refl)
