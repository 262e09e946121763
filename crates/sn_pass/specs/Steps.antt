-- What a tree gives and keeps for an item, or for some: where states that it cannot tell apart count as the same.
use Rattle.std.specs.Prelude.{◌≡◌, List}
use Rattle.sn_streams.specs.Machines.{emitted, after}
use Rattle.sn_streams.specs.Trees.{Tree}
use Rattle.sn_pass.specs.Keeping.{Keeping, keeping, Same}

-- For the item x the tree gives ys, and it keeps what `later` stands for.
pub record Steps {A S : Type 0} (t : Tree A S) (q : Keeping S) (x : A) (ys : List A) (later : Keeping S) : Type 0 where
  pub gives : (keeping t).emits q x ≡ ys
  pub keeps : Same t later ((keeping t).next q x)

-- The same for the items xs, one behind the other.
pub record Runs {A S : Type 0} (t : Tree A S) (q : Keeping S) (xs ys : List A) (later : Keeping S) : Type 0 where
  pub gives : emitted (keeping t) q xs ≡ ys
  pub keeps : Same t later (after (keeping t) q xs)
