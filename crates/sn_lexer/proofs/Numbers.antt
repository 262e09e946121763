-- The digits in front and their value.
use Rattle.std.proofs.Common.{◌≡◌, ℕ, ◌+◌, ◌-◌, ◌*◌, ◌^◌, min, Bool, true, false, List, [], ◌∷◌, ◌++◌, append_assoc, refl, sym, ap, ◌∙◌, arith}
use Rattle.std.specs.List.{list_all}
use Rattle.std.specs.Char.{is_ascii_digit}
use Rattle.std.specs.Str.Parse.{digits_value}
use Rattle.std.proofs.lemmas.Str.{digit_value_digit}
use Rattle.std.proofs.lemmas.Int.Digits.{digits_value_push}
use Rattle.sn_lexer.specs.Fronts.{Stops, IsNumeralUpTo}
use Rattle.sn_lexer.proofs.WordKinds.{digit_below, digit_above}
use Rattle.sn_lexer.proofs.Contents.{all_push}

-- digits in front, and their value where it fits in 64 bits
pub record HasDigits (cs : List ℕ) (value : ℕ) (rest : List ℕ) : Type 0 where
  pub digits : List ℕ
  pub all_digits : list_all is_ascii_digit digits ≡ true
  pub front : cs ≡ digits ++ rest
  pub value_is : value ≡ min (digits_value 10 digits) (2 ^ 64 - 1)

pub no_digits : (cs : List ℕ) → HasDigits cs 0 cs
no_digits cs = record { digits = []; all_digits = refl; front = refl; value_is = refl }

pub digits_more : (cs : List ℕ) (value c : ℕ) (rest next : List ℕ) (digit product more : ℕ) → HasDigits cs value rest → rest ≡ c ∷ next → is_ascii_digit c ≡ true → digit ≡ c - 48 → product ≡ min (value * 10) (2 ^ 64 - 1) → more ≡ min (product + digit) (2 ^ 64 - 1) → HasDigits cs more next
digits_more cs value c rest next digit product more h is one digit_is product_is more_is =
    let value_is = h.value_is in
    let whole = digits_value_push 10 h.digits c in
    let low = digit_above c one in
    let high = digit_below c one in
    let this = digit_value_digit c (low, high) in
    record {
      digits = h.digits ++ c ∷ [];
      all_digits = all_push is_ascii_digit h.digits c h.all_digits one;
      front = h.front ∙ ap (λ xs. h.digits ++ xs) is ∙ sym (append_assoc h.digits (c ∷ []) next);
      value_is = omega arith;
    }

pub digits_end : (cs : List ℕ) (value : ℕ) (rest : List ℕ) → HasDigits cs value rest → Stops is_ascii_digit rest → IsNumeralUpTo cs value rest
digits_end cs value rest h stops = record { digits = h.digits; all_digits = h.all_digits; front = h.front; value_is = h.value_is; stops = stops }

pub stops_at_end : (test : ℕ → Bool) (rest : List ℕ) → rest ≡ [] → Stops test rest
stops_at_end test [] is = tt
stops_at_end test (c ∷ rest) is = cc

pub stops_at : (test : ℕ → Bool) (c : ℕ) (rest next : List ℕ) → rest ≡ c ∷ next → test c ≡ false → Stops test rest
stops_at test c [] next is fails = tt
stops_at test c (d ∷ rest) next is fails = let head : d ≡ c = cc in ap test head ∙ fails
