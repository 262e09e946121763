-- A fork that shows what merges allow.
use Rattle.std.specs.Prelude.{ℕ}
use Rattle.sn_streams.specs.Forks.{Merge, Router}
use Rattle.sn_streams.specs.Keys.{Branch}
use Rattle.sn_streams.specs.Trees.{Tree, Fork, passing}

-- the key of a number is the branch of that place
abbrev pub by_number : Router ℕ
by_number = record { key = λ n. Branch n; own = λ n. n }

-- each number goes to its branch, which answers it as it is
abbrev pub by_branches : Merge → Tree ℕ ℕ
by_branches merge = Fork merge by_number (λ k. passing by_number 0)
