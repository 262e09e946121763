-- What is known of the items in a tree at work: what is known at each place of the tree holds of all that waits there.
use Rattle.std.specs.Prelude.{List, [], ◌∷◌}
use Rattle.std.specs.List.{AllByRecursion}
use Rattle.sn_streams.specs.Keys.{Key}
use Rattle.sn_streams.specs.Trees.{Tree, Component, Series, Fork}
use Rattle.sn_sound.specs.Conveyed.{Conveys}
use Rattle.sn_live.specs.Entries.{Entry, It, Mark}
use Rattle.sn_live.specs.Live.{Left, Right, At, Live, sub}
use Rattle.sn_live.specs.Runs.{Running}

-- of each item among the entries
abbrev pub EachEntry : {A : Type 0} → (A → Type 0) → List (Entry A) → Type 0
EachEntry P [] = Unit {0}
EachEntry P (It x ∷ w) = P x × EachEntry P w
EachEntry P (Mark ∷ w) = EachEntry P w

-- of what waits in the tree, and of the states of its components
abbrev pub IsKnown : {A S : Type 0} (sort : A → Type 0) (t : Tree A S) (P Q : A → Type 0) → Conveys sort t P Q → Live A S → Type 0
IsKnown sort (Component m s) P Q conveys f = EachEntry P ((f []).waiting) × conveys.0 ((f []).state)
IsKnown sort (Series a b) P Q conveys f = IsKnown sort a P conveys.0 conveys.1 (sub f Left) × IsKnown sort b conveys.0 Q conveys.2 (sub f Right)
IsKnown sort (Fork merge r child) P Q conveys f =
    EachEntry P ((f []).waiting) × ((k : Key) → EachEntry Q ((f []).kept k)) × ((k : Key) → IsKnown sort (child k) (conveys.0 k) Q (conveys.4 k) (sub f (At k)))

-- of what is still to come, of what is in the tree, and of what came out
pub record RunKnown {A S : Type 0} (sort : A → Type 0) (t : Tree A S) (P Q : A → Type 0) (conveys : Conveys sort t P Q) (g : Running A S) : Type 0 where
  pub todo : AllByRecursion P g.todo
  pub live : IsKnown sort t P Q conveys g.live
  pub ready : EachEntry Q g.ready
  pub out : AllByRecursion Q g.out

-- what is known at one place of a tree
pub record KnownThere {A S : Type 0} (sort : A → Type 0) (t : Tree A S) (f : Live A S) : Type 1 where
  pub P : A → Type 0
  pub Q : A → Type 0
  pub conveys : Conveys sort t P Q
  pub known : IsKnown sort t P Q conveys f
