-- Numbers in front.
use Rattle.std.proofs.Common.{◌≡◌, ◌≢◌, ℕ, ◌-◌, ◌^◌, min, ◌&&◌, ◌==◌, Bool, true, false, List, [], ◌∷◌, ◌++◌, zero, suc, ◌≤◌, refl, sym, ap, ◌∙◌, subst, inl, inr, arith}
use Rattle.std.specs.Prelude.{ℤ, pos, neg_ℤ, ◌⊎◌, FitsSigned}
use Rattle.std.specs.Int.{w64}
use Rattle.std.specs.List.{list_all}
use Rattle.std.specs.Char.{is_ascii_digit}
use Rattle.std.specs.Str.Parse.{AllDigits, IsNumeral, digits_value, without_leading_sign, signed_digits_value}
use Rattle.std.proofs.lemmas.Bool.{false≢true, and_parts, eqb-true, ne_eqb}
use Rattle.std.proofs.lemmas.Bool.Decides.{nat_tests}
use Rattle.std.proofs.lemmas.Str.{digit_value_digit}
use Rattle.std.proofs.lemmas.Str.Parse.{digit_from_value}
use Rattle.sn_lexer.specs.Spelling.{is_numeral}
use Rattle.sn_lexer.specs.Fronts.{Stops, BeginsNot, IsNumeralUpTo}
use Rattle.sn_lexer.proofs.Runs.{run_once}
use Rattle.sn_lexer.proofs.WordKinds.{digit_above, digit_below, digit_is}
use Rattle.sn_record_tokens.specs.declared.token.Token.TheVariants.{Number}
use Rattle.sn_record_tokens.specs.Tokens.{SpellsNumber, IsToken}
use Rattle.sn_record_tokens.specs.Reading.{BeginsNo, IsSized, with_sign}

digit_tested : (c : ℕ) → 48 ≤ c → c ≤ 57 → is_ascii_digit c ≡ true
digit_tested c low high = grind (arith, nat_tests)

all_tested : (ds : List ℕ) → AllDigits 10 ds → list_all is_ascii_digit ds ≡ true
all_tested [] h = refl
all_tested (c ∷ ds) h =
    let range = digit_from_value c h.0 in
    λ i. digit_tested c range.0 range.1 i && all_tested ds h.1 i

all_digits : (ds : List ℕ) → list_all is_ascii_digit ds ≡ true → AllDigits 10 ds
all_digits [] h = tt
all_digits (c ∷ ds) h =
    let parts = and_parts (is_ascii_digit c) (list_all is_ascii_digit ds) h in
    let low = digit_above c parts.0 in
    let high = digit_below c parts.0 in
    let this = digit_value_digit c (low, high) in
    (omega arith, all_digits ds parts.1)

numeral_tested : (ds : List ℕ) → IsNumeral 10 ds → is_numeral ds ≡ true
numeral_tested [] h = let filled = h.0 in absurd (omega arith)
numeral_tested (c ∷ ds) h = all_tested (c ∷ ds) h.1

numeral_of : (ds : List ℕ) → is_numeral ds ≡ true → IsNumeral 10 ds
numeral_of [] h = absurd (false≢true h)
numeral_of (c ∷ ds) h = (omega arith, all_digits (c ∷ ds) h)

-- digits and what they say with a sign
record IsSize (negative : Bool) (n : ℤ) (digits : List ℕ) : Type 0 where
  pub numeral : is_numeral digits ≡ true
  pub value : n ≡ with_sign negative (digits_value 10 digits)

no_sign : (c : ℕ) (cs : List ℕ) → (c == 45) ≡ false → c ≢ 43 → without_leading_sign (c ∷ cs) ≡ c ∷ cs
no_sign c cs minus plus = let other = ne_eqb c 43 plus in rw (minus, other) refl

no_sign_value : (c : ℕ) (cs : List ℕ) → (c == 45) ≡ false → signed_digits_value 10 (c ∷ cs) ≡ pos (digits_value 10 (without_leading_sign (c ∷ cs)))
no_sign_value c cs minus = rw minus refl

spelled_size : (word : List ℕ) (n : ℤ) → SpellsNumber word n → ((digits : List ℕ) × (word ≡ 45 ∷ digits) × IsSize true n digits) ⊎ IsSize false n word
spelled_size [] n s = let filled = s.digits.0 in absurd (omega arith)
spelled_size (c ∷ cs) n s =
    elim (c == 45) as (λ b. (c == 45) ≡ b → ((digits : List ℕ) × (c ∷ cs ≡ 45 ∷ digits) × IsSize true n digits) ⊎ IsSize false n (c ∷ cs)) [
      | true ↦ λ minus.
          let behind : without_leading_sign (c ∷ cs) ≡ cs = rw minus refl in
          let value : signed_digits_value 10 (c ∷ cs) ≡ neg_ℤ (pos (digits_value 10 cs)) = rw minus refl in
          inl (cs, ap (λ x. x ∷ cs) (eqb-true c 45 minus), record { numeral = numeral_tested cs (subst (IsNumeral 10) behind s.digits); value = s.value ∙ value })
      | false ↦ λ minus.
          let whole = no_sign c cs minus s.no_plus in
          inr record {
            numeral = numeral_tested (c ∷ cs) (subst (IsNumeral 10) whole s.digits);
            value = s.value ∙ no_sign_value c cs minus ∙ ap (λ ds. pos (digits_value 10 ds)) whole;
          }
    ] refl

minus_spelled : (digits : List ℕ) (n : ℤ) → is_numeral digits ≡ true → n ≡ with_sign true (digits_value 10 digits) → FitsSigned w64 n → SpellsNumber (45 ∷ digits) n
minus_spelled digits n numeral value fits = record { no_plus = λ e. absurd (omega arith); digits = numeral_of digits numeral; value = value; fits = fits }

plain_spelled : (digits : List ℕ) (n : ℤ) → is_numeral digits ≡ true → n ≡ with_sign false (digits_value 10 digits) → FitsSigned w64 n → SpellsNumber digits n
plain_spelled [] n numeral value fits = absurd (false≢true numeral)
plain_spelled (c ∷ cs) n numeral value fits =
    let low = digit_above c (digit_is c cs numeral) in
    let minus = ne_eqb c 45 (λ e. omega arith) in
    let plus : c ≢ 43 = λ e. omega arith in
    let whole = no_sign c cs minus plus in
    record {
      no_plus = plus;
      digits = subst (IsNumeral 10) (sym whole) (numeral_of (c ∷ cs) numeral);
      value = value ∙ sym (no_sign_value c cs minus ∙ ap (λ ds. pos (digits_value 10 ds)) whole);
      fits = fits;
    }

-- a number is digits in front, or a minus sign and digits
pub minus_token : (n : ℤ) (cs inside rest : List ℕ) → cs ≡ 45 ∷ inside → IsSized true n inside rest → IsToken (Number n) cs rest
minus_token n cs inside rest is s = record {
  word = 45 ∷ s.digits;
  spelled = minus_spelled s.digits n s.numeral s.value s.fits;
  front = is ∙ ap (λ xs. 45 ∷ xs) s.front;
  whole = s.stops;
}

pub plain_token : (n : ℤ) (cs rest : List ℕ) → IsSized false n cs rest → IsToken (Number n) cs rest
plain_token n cs rest s = record {
  word = s.digits;
  spelled = plain_spelled s.digits n s.numeral s.value s.fits;
  front = s.front;
  whole = s.stops;
}

pub number_sized : (n : ℤ) (cs rest : List ℕ) → IsToken (Number n) cs rest → ((inside : List ℕ) × (cs ≡ 45 ∷ inside) × IsSized true n inside rest) ⊎ IsSized false n cs rest
number_sized n cs rest t = elim (spelled_size t.word n t.spelled) [
  | inl m ↦ inl (m.0 ++ rest, t.front ∙ ap (λ xs. xs ++ rest) m.1, record { digits = m.0; numeral = m.2.numeral; front = refl; value = m.2.value; fits = t.spelled.fits; stops = t.whole })
  | inr s ↦ inr record { digits = t.word; numeral = s.numeral; front = t.front; value = s.value; fits = t.spelled.fits; stops = t.whole }
]

numeral_digits : (ds : List ℕ) → is_numeral ds ≡ true → list_all is_ascii_digit ds ≡ true
numeral_digits [] h = refl
numeral_digits (c ∷ ds) h = h

-- digits in front say one number with a sign
pub sized_once : (negative : Bool) (n m : ℤ) (cs rest more : List ℕ) → IsSized negative n cs rest → IsSized negative m cs more → (n ≡ m) × (rest ≡ more)
sized_once negative n m cs rest more s t =
    let parts = run_once is_ascii_digit s.digits rest t.digits more (numeral_digits s.digits s.numeral) (numeral_digits t.digits t.numeral) s.stops t.stops (sym s.front ∙ t.front) in
    (s.value ∙ ap (λ ds. with_sign negative (digits_value 10 ds)) parts.0 ∙ sym t.value, parts.1)

filled_digit : (ds : List ℕ) (c : ℕ) (cs rest : List ℕ) → is_numeral ds ≡ true → c ∷ cs ≡ ds ++ rest → is_ascii_digit c ≡ true
filled_digit [] c cs rest numeral is = absurd (false≢true numeral)
filled_digit (d ∷ ds) c cs rest numeral is = let head : c ≡ d = cc in ap is_ascii_digit head ∙ digit_is d ds numeral

pub sized_digit : (negative : Bool) (n : ℤ) (c : ℕ) (cs rest : List ℕ) → IsSized negative n (c ∷ cs) rest → is_ascii_digit c ≡ true
sized_digit negative n c cs rest s = filled_digit s.digits c cs rest s.numeral s.front

filled_front : (ds rest : List ℕ) → is_numeral ds ≡ true → [] ≡ ds ++ rest → ⊥
filled_front [] rest numeral is = false≢true numeral
filled_front (d ∷ ds) rest numeral is = cc

pub no_size_at_end : (negative : Bool) (cs : List ℕ) → cs ≡ [] → (n : ℤ) (rest : List ℕ) → IsSized negative n cs rest → ⊥
no_size_at_end negative cs ends n rest s = filled_front s.digits rest s.numeral (sym ends ∙ s.front)

pub no_size_at : (negative : Bool) (c : ℕ) (cs inside : List ℕ) → cs ≡ c ∷ inside → is_ascii_digit c ≡ false → (n : ℤ) (rest : List ℕ) → IsSized negative n cs rest → ⊥
no_size_at negative c cs inside is other n rest s = false≢true (sym other ∙ filled_digit s.digits c inside rest s.numeral (sym is ∙ s.front))

-- what has 64 bits with a sign is no largest `u64`
sized_small : (negative : Bool) (size : ℕ) → FitsSigned w64 (with_sign negative size) → size ≤ 2 ^ 63
sized_small true zero fits = omega arith
sized_small true (suc size) fits = let small = fits.sfits in omega arith
sized_small false size fits = let small = fits.sfits in omega arith

pub no_size_past : (negative : Bool) (cs rest : List ℕ) (size : ℕ) → IsNumeralUpTo cs size rest → (FitsSigned w64 (with_sign negative size) → ⊥) → (n : ℤ) (more : List ℕ) → IsSized negative n cs more → ⊥
no_size_past negative cs rest size u past n more s =
    let parts = run_once is_ascii_digit u.digits rest s.digits more u.all_digits (numeral_digits s.digits s.numeral) u.stops s.stops (sym u.front ∙ s.front) in
    let fits = subst (FitsSigned w64) s.value s.fits in
    let small = sized_small negative (digits_value 10 s.digits) fits in
    let value = u.value_is ∙ ap (λ ds. min (digits_value 10 ds) (2 ^ 64 - 1)) parts.0 in
    let same : size ≡ digits_value 10 s.digits = omega arith in
    past (subst (λ m. FitsSigned w64 (with_sign negative m)) (sym same) fits)

pub sized : (negative : Bool) (c : ℕ) (cs inside rest : List ℕ) (size : ℕ) (n : ℤ) → cs ≡ c ∷ inside → is_ascii_digit c ≡ true → IsNumeralUpTo cs size rest → FitsSigned w64 (with_sign negative size) → n ≡ with_sign negative size → IsSized negative n cs rest
sized negative c cs inside rest size n is digit u fits n_is =
    let small = sized_small negative size fits in
    let value = u.value_is in
    let same : size ≡ digits_value 10 u.digits = omega arith in
    record {
      digits = u.digits;
      numeral = numeral_filled c inside u.digits rest (sym is ∙ u.front) digit u.all_digits u.stops;
      front = u.front;
      value = n_is ∙ ap (with_sign negative) same;
      fits = subst (FitsSigned w64) (sym n_is) fits;
      stops = u.stops;
    }
  where
    numeral_filled : (c : ℕ) (cs digits rest : List ℕ) → c ∷ cs ≡ digits ++ rest → is_ascii_digit c ≡ true → list_all is_ascii_digit digits ≡ true → Stops is_ascii_digit rest → is_numeral digits ≡ true
    numeral_filled c cs [] [] is digit all stops = cc
    numeral_filled c cs [] (d ∷ rest) is digit all stops = let head : c ≡ d = cc in absurd (false≢true (sym stops ∙ ap is_ascii_digit (sym head) ∙ digit))
    numeral_filled c cs (d ∷ digits) rest is digit all stops = all

pub no_number_minus : (cs inside : List ℕ) → cs ≡ 45 ∷ inside → ((n : ℤ) (rest : List ℕ) → IsSized true n inside rest → ⊥) → BeginsNo Number cs
no_number_minus cs inside is none n rest t = elim (number_sized n cs rest t) [
  | inl m ↦ let same : m.0 ≡ inside = let e = sym m.1 ∙ is in cc in none n rest (subst (λ xs. IsSized true n xs rest) same m.2)
  | inr s ↦
      let low = digit_above 45 (sized_digit false n 45 inside rest (subst (λ xs. IsSized false n xs rest) is s)) in
      omega arith
]

pub no_number_plain : (cs : List ℕ) → BeginsNot 45 cs → ((n : ℤ) (rest : List ℕ) → IsSized false n cs rest → ⊥) → BeginsNo Number cs
no_number_plain cs other none n rest t = elim (number_sized n cs rest t) [
  | inl m ↦ let minus = subst (BeginsNot 45) m.1 other in false≢true (sym minus)
  | inr s ↦ none n rest s
]

-- a number in front is one
pub number_once : (n m : ℤ) (cs rest more : List ℕ) → IsToken (Number n) cs rest → IsToken (Number m) cs more → (n ≡ m) × (rest ≡ more)
number_once n m cs rest more t u = elim (number_sized n cs rest t) [
  | inl a ↦ elim (number_sized m cs more u) [
    | inl b ↦
        let same : b.0 ≡ a.0 = let e = sym b.1 ∙ a.1 in cc in
        sized_once true n m a.0 rest more a.2 (subst (λ xs. IsSized true m xs more) same b.2)
    | inr b ↦ let low = digit_above 45 (sized_digit false m 45 a.0 more (subst (λ xs. IsSized false m xs more) a.1 b)) in absurd (omega arith)
  ]
  | inr a ↦ elim (number_sized m cs more u) [
    | inl b ↦ let low = digit_above 45 (sized_digit false n 45 b.0 rest (subst (λ xs. IsSized false n xs rest) b.1 a)) in absurd (omega arith)
    | inr b ↦ sized_once false n m cs rest more a b
  ]
]
