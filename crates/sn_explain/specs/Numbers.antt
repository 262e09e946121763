-- Numbers that a text begins with.
use Rattle.std.specs.Prelude.{◌≡◌, ◌≤◌, ◌<◌, ◌+◌, ◌*◌, ◌-◌, ℕ, List, length, take, slice_index_or}
use Rattle.std.specs.List.{fold}

-- the number that digits write
abbrev pub number_of : List ℕ → ℕ
number_of digits = fold (λ n digit. n * 10 + (digit - 48)) 0 digits

abbrev pub AreDigits : List ℕ → ℕ → Type 0
AreDigits text count = (k : ℕ) → k < count → (48 ≤ slice_index_or text k 0) × (slice_index_or text k 0 ≤ 57)

-- so many digits in front write the number
pub record IsInFront (text : List ℕ) (number count : ℕ) : Type 0 where
  pub within : count ≤ length text
  pub digits : AreDigits text count
  pub value : number ≡ number_of (take count text)

-- some digits in front write the number; no digits write 0
abbrev pub BeginsWith : List ℕ → ℕ → Type 0
BeginsWith text number = (count : ℕ) × IsInFront text number count
