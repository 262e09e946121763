-- A star, worked off from a list: the states of its bodies stand in a row, one a level, and items wait in a stack.
use Rattle.std.specs.Prelude.{ℕ, zero, suc, ◌+◌, ◌-◌, ◌==◌, Bool, true, false, if◌then◌else◌, List, [], ◌∷◌, ◌++◌, map, Option}
use Rattle.sn_record.specs.LabelSet.{Labels}
use Rattle.sn_streams.specs.Machines.{Machine, emitted, after}
use Rattle.sn_tagexpr.specs.declared.expr.TagExpr.{TagExpr}
use Rattle.sn_net.specs.declared.net.Merge.{Merge}
use Rattle.sn_net.specs.declared.routing.Key.{Key}
use Rattle.sn_net.specs.declared.routing.Key.TheVariants as key
use Rattle.sn_net.specs.Cell.{CellState}
use Rattle.sn_net.specs.Dispatchers.{Network, passed_by, level, level_key}
use Rattle.sn_net.specs.Item.{ModelItem}
use Rattle.sn_net.specs.Route.{of_record}
use Rattle.sn_pass.specs.Keeping.{Keeping, keeping}

-- What a star is made of: its place, its merge, its exit with a guard, and its body.
pub record StarParts : Type 0 where
  pub place : ℕ
  pub merge : Merge
  pub exit : Labels
  pub guard : Option TagExpr
  pub body : Network

-- the star, or a level of it, which has so many replicas left
abbrev pub star_tree : StarParts → ℕ → Network
star_tree star left = level star.place star.merge star.exit star.guard star.body left

-- the key of an item there
abbrev pub key_here : StarParts → ℕ → ModelItem → Key
key_here star left = of_record (level_key star.place star.exit star.guard left)

-- an item of this key goes into the body of the level; any other is given out
abbrev pub goes_inside : Key → Bool
goes_inside key.Inside = true
goes_inside other = false

-- what the body of each level keeps
abbrev pub Levels : Type 0
Levels = ℕ → Keeping CellState

-- the same, with something else at one level
abbrev pub with_level : Levels → ℕ → Keeping CellState → Levels
with_level states i state j = if j == i then state else states j

-- a star from level i on, which has so many replicas left, as a machine over what the bodies of all levels keep
abbrev pub levels : StarParts → (left i : ℕ) → Machine ModelItem Levels
levels star zero i = record {
  next = λ states x. states;
  emits = λ states x. passed_by star.place (key_here star zero x) x ∷ [];
}
levels star (suc left) i = record {
  next = λ states x.
      if goes_inside (key_here star (suc left) x)
      then after (levels star left (i + 1)) (with_level states i ((keeping star.body).next (states i) x)) ((keeping star.body).emits (states i) x)
      else states;
  emits = λ states x.
      if goes_inside (key_here star (suc left) x)
      then emitted (levels star left (i + 1)) (with_level states i ((keeping star.body).next (states i) x)) ((keeping star.body).emits (states i) x)
      else passed_by star.place (key_here star (suc left) x) x ∷ [];
}

-- the same of a star that may have so many replicas in all
abbrev pub from_level : StarParts → (depth i : ℕ) → Machine ModelItem Levels
from_level star depth i = levels star (depth - i) i

-- An item that waits, behind the number of the level that it comes to.
abbrev pub Entry : Type 0
Entry = ℕ × ModelItem

-- items that come to one level
abbrev pub entries : ℕ → List ModelItem → List Entry
entries i xs = map (λ x. (i, x)) xs

-- what a stack of entries still gives, the topmost first
abbrev pub stack_gives : StarParts → (depth : ℕ) → Levels → List Entry → List ModelItem
stack_gives star depth states [] = []
stack_gives star depth states (e ∷ rest) =
    (from_level star depth e.0).emits states e.1 ++ stack_gives star depth ((from_level star depth e.0).next states e.1) rest

-- what the bodies keep when it is worked off
abbrev pub stack_keeps : StarParts → (depth : ℕ) → Levels → List Entry → Levels
stack_keeps star depth states [] = states
stack_keeps star depth states (e ∷ rest) = stack_keeps star depth ((from_level star depth e.0).next states e.1) rest

-- the sum of a count of each item, with the states that each one finds
abbrev pub counted : (Levels → ModelItem → ℕ) → Machine ModelItem Levels → Levels → List ModelItem → ℕ
counted count m states [] = 0
counted count m states (x ∷ xs) = count states x + counted count m (m.next states x) xs

-- how many taps an item comes to, from level i on: one, and those of all that the body answers
abbrev pub taps_of : StarParts → (left i : ℕ) → Levels → ModelItem → ℕ
taps_of star zero i states x = 1
taps_of star (suc left) i states x =
    if goes_inside (key_here star (suc left) x)
    then 1 + counted (taps_of star left (i + 1)) (levels star left (i + 1)) (with_level states i ((keeping star.body).next (states i) x)) ((keeping star.body).emits (states i) x)
    else 1

-- how many turns a stack of entries still takes
abbrev pub taps : StarParts → (depth : ℕ) → Levels → List Entry → ℕ
taps star depth states [] = 0
taps star depth states (e ∷ rest) =
    taps_of star (depth - e.0) e.0 states e.1 + taps star depth ((from_level star depth e.0).next states e.1) rest
