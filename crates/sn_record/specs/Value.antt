-- What a value is: how deep it is nested, what it weighs, and whether its texts are printable.
use Rattle.std.specs.Prelude.{ℕ, ◌+◌, ◌≤◌, max, Bool, true, IsTrue, ◌&&◌, nat_le, List, [], ◌∷◌, length, sum}
use Rattle.sn_record.specs.declared.value.Value.{Value, fold-Value}
use Rattle.sn_record.specs.declared.value.Value.TheOpen.{Value-F}

-- the greatest of a list, or 0
abbrev pub greatest : List ℕ → ℕ
greatest [] = 0
greatest (n ∷ ns) = max n (greatest ns)

-- all of a list are true
abbrev pub every : List Bool → Bool
every [] = true
every (b ∷ bs) = b && every bs

-- each byte is 0x20 to 0x7E
abbrev pub is_printable_text : List ℕ → Bool
is_printable_text [] = true
is_printable_text (b ∷ bs) = (nat_le 32 b && nat_le b 126) && is_printable_text bs

-- how deep one level is, with each element's nesting in its place
abbrev pub nesting_step : Value-F ℕ → ℕ
nesting_step (Value-F.Int n) = 0
nesting_step (Value-F.Text t) = 0
nesting_step (Value-F.List ns) = greatest ns + 1

-- what one level weighs, with each element's weight in its place
abbrev pub weight_step : Value-F ℕ → ℕ
weight_step (Value-F.Int n) = 1
weight_step (Value-F.Text t) = 1 + length t
weight_step (Value-F.List ns) = 1 + sum ns

abbrev pub printable_step : Value-F Bool → Bool
printable_step (Value-F.Int n) = true
printable_step (Value-F.Text t) = is_printable_text t
printable_step (Value-F.List bs) = every bs

abbrev pub nesting : Value → ℕ
nesting = fold-Value ℕ nesting_step

abbrev pub weight : Value → ℕ
weight = fold-Value ℕ weight_step

abbrev pub is_printable : Value → Bool
is_printable = fold-Value Bool printable_step

-- nested at most so deep, no heavier than the room, and printable
pub record FitsIn (levels room : ℕ) (v : Value) : Type 0 where
  pub shallow : nesting v ≤ levels
  pub light : weight v ≤ room
  pub printable : IsTrue (is_printable v)

-- what a record may hold
abbrev pub IsSound : Value → Type 0
IsSound v = FitsIn 32 65536 v
