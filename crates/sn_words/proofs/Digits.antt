-- What digits write.
use Rattle.std.proofs.Common.{◌≡◌, ◌≢◌, ℕ, ◌<◌, ◌≤◌, ◌^◌, Bool, true, false, List, [], ◌∷◌, length, get_or, refl, arith}
use Rattle.std.specs.Prelude.{None, Result, Ok, Err}
use Rattle.std.specs.Result.{OkIff, result_ok}
use Rattle.std.specs.Str.{all_ascii_digits}
use Rattle.std.specs.Str.Parse.{digits_value, ParsesUnsigned}
use Rattle.std.proofs.lemmas.Bool.Decides.{nat_tests}
use Rattle.std.proofs.lemmas.Str.Parse.{IsNumeralModel, numerals_by_value, tells_all_ascii_digits, parse_plain, digits_value_short}
use Rattle.sn_words.specs.Words.{number_of}

pub numerals : IsNumeralModel (λ ds. all_ascii_digits ds ≡ true) (digits_value 10)
numerals = numerals_by_value _ tells_all_ascii_digits

abbrev IsRead : {E : Type 0} → List ℕ → Result ℕ E → Type 0
IsRead word r = OkIff r ((all_ascii_digits word ≡ true) × (0 < length word) × (digits_value 10 word < 2 ^ 64)) (digits_value 10 word)

unread : (word : List ℕ) (b : Bool) → all_ascii_digits word ≡ b → length word ≤ 10 → ¬ ((all_ascii_digits word ≡ true) × (0 < length word) × (digits_value 10 word < 2 ^ 64)) → None ≡ number_of word
unread word false e short h = rw e refl
unread [] true e short h = refl
unread (c ∷ cs) true e short h = absurd (h (e, omega arith, omega (arith, digits_value_short numerals (c ∷ cs) 10 e short)))

read : {E : Type 0} (word : List ℕ) (r : Result ℕ E) → length word ≤ 10 → IsRead word r → result_ok r ≡ number_of word
read word (Ok n) short h = grind (arith, nat_tests)
read word (Err e) short h = unread word _ refl short h

-- what `parse` makes of a short word without a plus
pub number_read : {E : Type 0} (word : List ℕ) (r : Result ℕ E) → length word ≤ 10 → get_or word 0 0 ≢ 43 → ParsesUnsigned 64 10 word r → result_ok r ≡ number_of word
number_read word r short plain h = read word r short (parse_plain numerals 64 word r h plain)
