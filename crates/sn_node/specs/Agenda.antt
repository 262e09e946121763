-- Numbers that are listed.
use Rattle.std.specs.Prelude.{◌≡◌, ◌==◌, ◌+◌, ℕ, Bool, true, false, List, [], ◌∷◌, Some, slice_get}
use Rattle.std.specs.List.{list_any}

-- whether the number is on the stack
abbrev pub is_listed : ℕ → List ℕ → Bool
is_listed i stack = list_any (λ j. i == j) stack

-- how many numbers are not marked as listed
abbrev pub unlisted : List Bool → ℕ
unlisted [] = 0
unlisted (true ∷ marks) = unlisted marks
unlisted (false ∷ marks) = unlisted marks + 1

-- each number that is marked as listed is on the stack
abbrev pub AreMarked : List ℕ → List Bool → Type 0
AreMarked stack marks = (i : ℕ) → slice_get marks i ≡ Some true → is_listed i stack ≡ true
