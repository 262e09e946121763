-- What is taken out of a sound value is sound, and so are the digits of a number.
use Rattle.std.proofs.Common.{◌≡◌, ◌≤◌, ◌<◌, ◌^◌, ◌+◌, ℕ, zero, suc, ℤ, pos, negsuc, true, false, ◌&&◌, List, [], ◌∷◌, length, map, sum, take, drop, None, Some, refl, sym, ◌∙◌, subst, arith}
use Rattle.std.specs.Prelude.{FitsSigned, nat_le, slice_get, if◌then◌else◌}
use Rattle.std.specs.Char.{digit_value}
use Rattle.std.specs.Fmt.{decimal, signed_decimal}
use Rattle.std.specs.Int.{w64}
use Rattle.std.specs.Str.Parse.{AllDigits}
use Rattle.std.proofs.lemmas.Bool.{and_parts, and_from}
use Rattle.std.proofs.lemmas.Bool.Decides.{nat_tests}
use Rattle.std.proofs.lemmas.Fmt.{decimal_is_IsNumeral}
use Rattle.std.specs.List.{All}
use Rattle.std.proofs.lemmas.List.Elements.{All-cons, All-nil}
use Rattle.std.proofs.lemmas.List.{length-drop, length-take}
use Rattle.std.proofs.lemmas.List.Sums.{sum_by-cons}
use Rattle.sn_record.specs.declared.value.Value.{Value}
use Rattle.sn_record.specs.declared.value.Value.TheVariants.{«Text», «List» as ListOf}
use Rattle.sn_record.specs.Value.{IsSound, nesting, weight, is_printable, is_printable_text, greatest, every}
use Rattle.sn_record.proofs.Values.{nesting-Text, nesting-List, weight-Text, weight-List, is_printable-Text, is_printable-List}
use Rattle.sn_net.specs.BoxValues.{element, section}

-- the elements of a List that is sound
record AreSound (vs : List Value) : Type 0 where
  shallow : greatest (map nesting vs) ≤ 31
  light : sum (map weight vs) ≤ 65535
  printable : every (map is_printable vs) ≡ true

sum_cons : (n : ℕ) (ns : List ℕ) → sum (n ∷ ns) ≡ n + sum ns
sum_cons n ns = sum_by-cons (λ k. k) n ns

sound_elements : (vs : List Value) → IsSound (ListOf vs) → AreSound vs
sound_elements vs sound = record {
  shallow = omega (arith, nesting-List vs, sound.shallow);
  light = omega (arith, weight-List vs, sound.light);
  printable = sym (is_printable-List vs) ∙ sound.printable;
}

sound_list : (vs : List Value) → AreSound vs → IsSound (ListOf vs)
sound_list vs sound = record {
  shallow = omega (arith, nesting-List vs, sound.shallow);
  light = omega (arith, weight-List vs, sound.light);
  printable = is_printable-List vs ∙ sound.printable;
}

sound_first : (v : Value) (vs : List Value) → AreSound (v ∷ vs) → IsSound v
sound_first v vs sound = record {
  shallow = omega (arith, sound.shallow);
  light = omega (arith, sound.light, sum_cons (weight v) (map weight vs));
  printable = (and_parts (is_printable v) (every (map is_printable vs)) sound.printable).0;
}

sound_rest : (v : Value) (vs : List Value) → AreSound (v ∷ vs) → AreSound vs
sound_rest v vs sound = record {
  shallow = omega (arith, sound.shallow);
  light = omega (arith, sound.light, sum_cons (weight v) (map weight vs));
  printable = (and_parts (is_printable v) (every (map is_printable vs)) sound.printable).1;
}

sound_at : (vs : List Value) (i : ℕ) (v : Value) → AreSound vs → slice_get vs i ≡ Some v → IsSound v
sound_at [] i v sound is = absurd cc
sound_at (w ∷ vs) zero v sound is = let same : w ≡ v = cc in subst IsSound same (sound_first w vs sound)
sound_at (w ∷ vs) (suc i) v sound is = sound_at vs i v (sound_rest w vs sound) is

-- each element of a sound List
all_sound : (vs : List Value) → AreSound vs → All IsSound vs
all_sound [] sound = All-nil IsSound
all_sound (v ∷ vs) sound = All-cons IsSound v vs (sound_first v vs sound) (all_sound vs (sound_rest v vs sound))

pub each_sound : (vs : List Value) → IsSound (ListOf vs) → All IsSound vs
each_sound vs sound = all_sound vs (sound_elements vs sound)

-- the element at a place in a sound List
pub sound_element : (vs : List Value) (i : ℤ) (v : Value) → IsSound (ListOf vs) → Some v ≡ element vs i → IsSound v
sound_element vs (pos i) v sound is = sound_at vs i v (sound_elements vs sound) (sym is)
sound_element vs (negsuc i) v sound is = absurd cc

sound_drop : (i : ℕ) (vs : List Value) → AreSound vs → AreSound (drop i vs)
sound_drop zero vs sound = sound
sound_drop (suc i) [] sound = sound
sound_drop (suc i) (v ∷ vs) sound = sound_drop i vs (sound_rest v vs sound)

none_sound : AreSound []
none_sound = record { shallow = omega arith; light = omega arith; printable = refl }

lighter : (i : ℕ) (vs : List Value) → sum (map weight (take i vs)) ≤ sum (map weight vs)
lighter zero vs = omega arith
lighter (suc i) [] = omega arith
lighter (suc i) (v ∷ vs) = omega (arith, lighter i vs, sum_cons (weight v) (map weight (take i vs)), sum_cons (weight v) (map weight vs))

sound_take : (i : ℕ) (vs : List Value) → AreSound vs → AreSound (take i vs)
sound_take zero vs sound = none_sound
sound_take (suc i) [] sound = none_sound
sound_take (suc i) (v ∷ vs) sound =
    let rest = sound_take i vs (sound_rest v vs sound) in
    let first = sound_first v vs sound in
    let shallow : nesting v ≤ 31 = omega (arith, sound.shallow) in
    record {
      shallow = omega (arith, shallow, rest.shallow);
      light = omega (arith, lighter (suc i) (v ∷ vs), sound.light);
      printable = and_from _ _ first.printable rest.printable;
    }

-- some elements of a list, which stand side by side
record IsPart {A : Type 0} (xs part : List A) : Type 0 where
  first : ℕ
  end : ℕ
  is : part ≡ drop first (take end xs)

part_of : {A : Type 0} (xs part : List A) (i j : ℤ) → Some part ≡ section xs i j → IsPart xs part
part_of xs part (pos i) (pos j) is =
    (elim (nat_le i j && nat_le j (length xs)) as (λ b. Some part ≡ (if b then Some (drop i (take j xs)) else None) → IsPart xs part) [
      | true ↦ λ found. record { first = i; end = j; is = cc }
      | false ↦ λ none. absurd cc
    ]) is
part_of xs part (pos i) (negsuc j) is = absurd cc
part_of xs part (negsuc i) (pos j) is = absurd cc
part_of xs part (negsuc i) (negsuc j) is = absurd cc

-- a section of a sound List
pub sound_section : (vs part : List Value) (i j : ℤ) → IsSound (ListOf vs) → Some part ≡ section vs i j → IsSound (ListOf part)
sound_section vs part i j sound is =
    let p = part_of vs part i j is in
    subst (λ ws. IsSound (ListOf ws)) (sym p.is) (sound_list _ (sound_drop p.first (take p.end vs) (sound_take p.end vs (sound_elements vs sound))))

printable_drop : (i : ℕ) (t : List ℕ) → is_printable_text t ≡ true → is_printable_text (drop i t) ≡ true
printable_drop zero t h = h
printable_drop (suc i) [] h = refl
printable_drop (suc i) (c ∷ t) h = printable_drop i t (and_parts (nat_le 32 c && nat_le c 126) (is_printable_text t) h).1

printable_take : (i : ℕ) (t : List ℕ) → is_printable_text t ≡ true → is_printable_text (take i t) ≡ true
printable_take zero t h = refl
printable_take (suc i) [] h = refl
printable_take (suc i) (c ∷ t) h =
    let parts = and_parts (nat_le 32 c && nat_le c 126) (is_printable_text t) h in
    and_from _ _ parts.0 (printable_take i t parts.1)

sound_text : (t : List ℕ) → length t ≤ 65535 → is_printable_text t ≡ true → IsSound («Text» t)
sound_text t short printable = record {
  shallow = omega (arith, nesting-Text t);
  light = omega (arith, weight-Text t, short);
  printable = is_printable-Text t ∙ printable;
}

-- a section of a sound Text
pub sound_text_section : (t part : List ℕ) (i j : ℤ) → IsSound («Text» t) → Some part ≡ section t i j → IsSound («Text» part)
sound_text_section t part i j sound is =
    let p = part_of t part i j is in
    let short : length (drop p.first (take p.end t)) ≤ 65535 = omega (arith, weight-Text t, sound.light, length-drop p.first (take p.end t), length-take p.end t) in
    subst (λ s. IsSound («Text» s)) (sym p.is) (sound_text _ short (printable_drop p.first (take p.end t) (printable_take p.end t (sym (is_printable-Text t) ∙ sound.printable))))

digit_printable : (c : ℕ) → digit_value c < 10 → (nat_le 32 c && nat_le c 126) ≡ true
digit_printable c h = grind (arith, nat_tests)

digits_printable : (ds : List ℕ) → AllDigits 10 ds → is_printable_text ds ≡ true
digits_printable [] h = refl
digits_printable (c ∷ cs) h = and_from _ _ (digit_printable c h.0) (digits_printable cs h.1)

below : (n : ℕ) → n < 2 ^ 63 → n < 2 ^ 64
below n h = omega arith

above : (n : ℕ) → n < 2 ^ 63 → suc n < 2 ^ 64
above n h = omega arith

number_printable : (n : ℤ) → FitsSigned w64 n → is_printable_text (signed_decimal n) ≡ true
number_printable (pos n) fits = digits_printable (decimal n) (decimal_is_IsNumeral n (below n fits.sfits)).0.1
number_printable (negsuc n) fits = digits_printable (decimal (suc n)) (decimal_is_IsNumeral (suc n) (above n fits.sfits)).0.1

-- the text of a number
pub sound_decimal : (n : ℤ) → FitsSigned w64 n → length (signed_decimal n) ≤ 40 → IsSound («Text» (signed_decimal n))
sound_decimal n fits short = sound_text (signed_decimal n) (omega arith) (number_printable n fits)
