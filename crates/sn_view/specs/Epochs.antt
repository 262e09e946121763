-- The epochs of a free dispatcher.
use Rattle.std.specs.Prelude.{ℕ, zero, suc, ◌+◌, ◌==◌, Bool, false, ◌&&◌, List, [], ◌∷◌, ◌++◌, slice_get, unwrap_or, nat_lt}
use Rattle.std.specs.List.{list_all}
use Rattle.std.specs.Option.{option_map}

-- How many marks came in, how many went out, and how many each child gave, by its number. Child 0 is what passes the others by.
pub record Epochs : Type 0 where
  pub input : ℕ
  pub output : ℕ
  pub children : List ℕ

-- those of a new dispatcher, which has child 0 alone
abbrev pub new_epochs : Epochs
new_epochs = record { input = 0; output = 0; children = 0 ∷ [] }

-- a new child stands in the input's epoch
abbrev pub with_child : Epochs → Epochs
with_child e = record { input = e.input; output = e.output; children = e.children ++ e.input ∷ [] }

-- a mark came in
abbrev pub closed : Epochs → Epochs
closed e = record { input = e.input + 1; output = e.output; children = e.children }

-- the list with its i-th number one greater
abbrev pub counted_at : ℕ → List ℕ → List ℕ
counted_at i [] = []
counted_at zero (n ∷ ns) = (n + 1) ∷ ns
counted_at (suc i) (n ∷ ns) = n ∷ counted_at i ns

-- a child gave a mark
abbrev pub marked : ℕ → Epochs → Epochs
marked child e = record { input = e.input; output = e.output; children = counted_at child e.children }

-- the child stands in the output's epoch
abbrev pub stands_at_output : Epochs → ℕ → Bool
stands_at_output e child = unwrap_or (option_map (λ epoch. epoch == e.output) (slice_get e.children child)) false

-- the input has closed the output's epoch, and every child has passed it
abbrev pub is_passed : Epochs → Bool
is_passed e = nat_lt e.output e.input && list_all (λ epoch. nat_lt e.output epoch) e.children

-- the output is an epoch on
abbrev pub moved_on : Epochs → Epochs
moved_on e = record { input = e.input; output = e.output + 1; children = e.children }
