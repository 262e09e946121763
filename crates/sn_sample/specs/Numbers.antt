-- The numbers that a first one leads to.
use Rattle.std.specs.Prelude.{ℕ, zero, suc, ◌+◌, ◌*◌, ◌%◌}

-- the number behind another
abbrev pub next : ℕ → ℕ
next x = (1103515245 * x + 12345) % 2147483648

-- the i-th number; the first one itself stands before all, at 0
abbrev pub number_at : ℕ → ℕ → ℕ
number_at first zero = first
number_at first (suc i) = next (number_at first i)
