-- The ranges of numbers that a run has.
use Rattle.std.specs.Prelude.{ℕ, ◌≤◌}

-- n is at least 1 and at most the limit
pub record IsWithin (n limit : ℕ) : Type 0 where
  pub some : 1 ≤ n
  pub few : n ≤ limit
