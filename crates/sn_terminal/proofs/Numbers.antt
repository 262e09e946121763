-- The value of decimal digits, one digit after another.
use Rattle.std.proofs.Common.{◌≡◌, ℕ, zero, suc, ◌+◌, ◌-◌, ◌*◌, ◌<◌, ◌≤◌, true, List, [], ◌∷◌, ◌++◌, length, get_or, take, drop, refl, sym, ap, ◌∙◌, subst, arith}
use Rattle.std.specs.Char.{is_ascii_digit, digit_value}
use Rattle.std.specs.List.{list_all}
use Rattle.std.specs.Str.Parse.{digits_value, digits_value_after}
use Rattle.std.proofs.lemmas.Bool.{and_parts}
use Rattle.std.proofs.lemmas.Bool.Decides.{nat_tests}
use Rattle.std.proofs.lemmas.Int.Digits.{digits_value_more}
use Rattle.std.proofs.lemmas.List.{take-append-drop}
use Rattle.std.proofs.lemmas.Str.{digit_value_digit}

digit_at : (ds : List ℕ) (i : ℕ) → list_all is_ascii_digit ds ≡ true → i < length ds → is_ascii_digit (get_or ds i 0) ≡ true
digit_at [] i all below = absurd (omega arith)
digit_at (d ∷ ds) zero all below = (and_parts (is_ascii_digit d) (list_all is_ascii_digit ds) all).0
digit_at (d ∷ ds) (suc i) all below = digit_at ds i (and_parts (is_ascii_digit d) (list_all is_ascii_digit ds) all).1 (omega arith)

digit_above : (c : ℕ) → is_ascii_digit c ≡ true → 48 ≤ c
digit_above c h = grind (arith, nat_tests)

digit_below : (c : ℕ) → is_ascii_digit c ≡ true → c ≤ 57
digit_below c h = grind (arith, nat_tests)

-- more digits make no smaller value
grows : (n : ℕ) (ds : List ℕ) → n ≤ digits_value_after 10 n ds
grows n [] = omega arith
grows n (d ∷ ds) = let more = grows (n * 10 + digit_value d) ds in omega arith

in_two : (n : ℕ) (xs ys : List ℕ) → digits_value_after 10 n (xs ++ ys) ≡ digits_value_after 10 (digits_value_after 10 n xs) ys
in_two n [] ys = refl
in_two n (x ∷ xs) ys = in_two (n * 10 + digit_value x) xs ys

front_below : (ds : List ℕ) (i : ℕ) → digits_value 10 (take i ds) ≤ digits_value 10 ds
front_below ds i =
    let parts = ap (digits_value 10) (sym (take-append-drop i ds)) ∙ in_two 0 (take i ds) (drop i ds) in
    let more = grows (digits_value 10 (take i ds)) (drop i ds) in
    subst (λ n. digits_value 10 (take i ds) ≤ n) (sym parts) more

-- the digits up to i have the value
pub record HasValue (ds : List ℕ) (i value : ℕ) : Type 0 where
  pub is : value ≡ digits_value 10 (take i ds)

-- one more digit
pub record IsNext (ds : List ℕ) (i value digit : ℕ) : Type 0 where
  pub above : 48 ≤ digit
  pub small : value * 10 + (digit - 48) ≤ digits_value 10 ds
  pub longer : HasValue ds (i + 1) (value * 10 + (digit - 48))

pub next_digit : (ds : List ℕ) (i value : ℕ) → list_all is_ascii_digit ds ≡ true → i < length ds → HasValue ds i value → IsNext ds i value (get_or ds i 0)
next_digit ds i value all below h =
    let test = digit_at ds i all below in
    let low = digit_above (get_or ds i 0) test in
    let high = digit_below (get_or ds i 0) test in
    let this = digit_value_digit (get_or ds i 0) (low, high) in
    let before = h.is in
    let more = digits_value_more 10 ds i below in
    let least = front_below ds (i + 1) in
    let same : value * 10 + (get_or ds i 0 - 48) ≡ digits_value 10 (take (i + 1) ds) = omega arith in
    record { above = low; small = omega arith; longer = record { is = same } }
