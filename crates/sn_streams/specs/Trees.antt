-- Networks as trees, with all replicas that a star or a split may ever have, and their streams.
use Rattle.std.specs.Prelude.{[], ◌∷◌}
use Rattle.sn_streams.specs.Forks.{Relation, exactly, InSeries, Router, by_item, in_turn, Merge, Free, Deterministic, Forked}
use Rattle.sn_streams.specs.Keys.{Key, Own}
use Rattle.sn_streams.specs.Machines.{Machine, transduced}
use Rattle.sn_streams.specs.Segments.{Segments}

-- A component alone, two networks in series, or a fork with a child for each key. Items are of A, and the states of all
-- components of S.
pub data Tree (A S : Type 0) : Type 0 where
  Component : (machine : Machine A S) → (state : S) → Tree A S
  Series : (left : Tree A S) → (right : Tree A S) → Tree A S
  Fork : (merge : Merge) → (router : Router A) → (child : Key → Tree A S) → Tree A S

-- each item becomes what the router makes of it, whatever the state
abbrev pub passing : {A S : Type 0} → Router A → S → Tree A S
passing r s = Component (record { next = λ q x. q; emits = λ q x. r.own x ∷ [] }) s

-- the children of a fork, with what passes them by at the key Own
abbrev pub with_own : {A S : Type 0} → Router A → S → (Key → Tree A S) → Key → Tree A S
with_own r s child Own = passing r s
with_own r s child k = child k

-- which streams the tree may answer to a stream
abbrev pub Allows : {A S : Type 0} → Tree A S → Relation A
Allows (Component m s) = exactly (transduced m s)
Allows (Series a b) = InSeries (Allows a) (Allows b)
Allows (Fork merge r child) = Forked merge r (λ k. Allows (child k))

-- the one-thread meaning: what the tree answers where every fork takes the answers of its children in turn
abbrev pub one : {A S : Type 0} → Tree A S → Segments A → Segments A
one (Component m s) xss = transduced m s xss
one (Series a b) xss = one b (one a xss)
one (Fork merge r child) xss = transduced (in_turn r) (λ k. one (child k) (by_item r k xss)) xss

-- the merge takes answers in turn
abbrev pub IsDeterministic : Merge → Type 0
IsDeterministic Free = ⊥
IsDeterministic Deterministic = Unit {0}

-- every fork of the tree is deterministic
abbrev pub AllDeterministic : {A S : Type 0} → Tree A S → Type 0
AllDeterministic (Component m s) = Unit {0}
AllDeterministic (Series a b) = AllDeterministic a × AllDeterministic b
AllDeterministic (Fork merge r child) = IsDeterministic merge × ((k : Key) → AllDeterministic (child k))
