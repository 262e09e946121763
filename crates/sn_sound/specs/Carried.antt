-- What holds of each item of a stream, and of each item of what is answered to it.
use Rattle.std.specs.Prelude.{Bool, IsTrue}
use Rattle.std.specs.List.{AllByRecursion}
use Rattle.sn_streams.specs.Forks.{Relation}
use Rattle.sn_streams.specs.Keys.{Key}
use Rattle.sn_streams.specs.Segments.{Segments}
use Rattle.sn_streams.specs.Trees.{Tree, Component, Series, Fork}

-- each item of each segment has P
abbrev pub EachItem : {A : Type 0} → (A → Type 0) → Segments A → Type 0
EachItem P xss = AllByRecursion (AllByRecursion P) xss

-- where each item that comes in has P, each item that is answered has Q
abbrev pub Carries : {A : Type 0} → Relation A → (A → Type 0) → (A → Type 0) → Type 0
Carries {A} allowed P Q = (xss yss : Segments A) → EachItem P xss → allowed xss yss → EachItem Q yss

-- the item passes the test
abbrev pub Passes : {A : Type 0} → (A → Bool) → A → Type 0
Passes test x = IsTrue (test x)

-- each component of the tree, from any state, answers an item that passes the test by items that pass it
abbrev pub IsKept : {A S : Type 0} → (A → Bool) → Tree A S → Type 0
IsKept {A} {S} test (Component m s) = (state : S) (x : A) → Passes test x → AllByRecursion (Passes test) (m.emits state x)
IsKept test (Series a b) = IsKept test a × IsKept test b
IsKept test (Fork merge r child) = (k : Key) → IsKept test (child k)
