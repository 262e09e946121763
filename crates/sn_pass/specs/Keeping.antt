-- What a tree keeps between two items, as one type for all trees.
use Rattle.std.specs.Prelude.{◌≡◌, if◌then◌else◌, List}
use Rattle.sn_streams.specs.Keys.{Key, key_eq}
use Rattle.sn_streams.specs.Machines.{Machine, emitted, after}
use Rattle.sn_streams.specs.Trees.{Tree, Component, Series, Fork}

-- Nothing yet; the state of a component; what both parts of a series keep; or what each child of a fork keeps.
pub data Keeping (S : Type 0) : Type 0 where
  Fresh : Keeping S
  At : (state : S) → Keeping S
  Both : (left : Keeping S) → (right : Keeping S) → Keeping S
  Each : (child : Key → Keeping S) → Keeping S

-- the state of a component, which is the one that it starts with where nothing is kept
abbrev pub state_or : {S : Type 0} → S → Keeping S → S
state_or start (At state) = state
state_or start q = start

-- what the left part of a series keeps
abbrev pub left_of : {S : Type 0} → Keeping S → Keeping S
left_of (Both left right) = left
left_of q = Fresh

-- what the right part keeps
abbrev pub right_of : {S : Type 0} → Keeping S → Keeping S
right_of (Both left right) = right
right_of q = Fresh

-- what the child of a key keeps
abbrev pub child_of : {S : Type 0} → Keeping S → Key → Keeping S
child_of (Each child) k = child k
child_of q k = Fresh

-- the tree as one machine over what is kept: it runs each item through the components in order
abbrev pub keeping : {A S : Type 0} → Tree A S → Machine A (Keeping S)
keeping (Component m s) = record {
  next = λ q x. At (m.next (state_or s q) x);
  emits = λ q x. m.emits (state_or s q) x;
}
keeping (Series a b) = record {
  next = λ q x. Both ((keeping a).next (left_of q) x) (after (keeping b) (right_of q) ((keeping a).emits (left_of q) x));
  emits = λ q x. emitted (keeping b) (right_of q) ((keeping a).emits (left_of q) x);
}
keeping (Fork merge r child) = record {
  next = λ q x. Each (λ k. if key_eq k (r.key x) then (keeping (child k)).next (child_of q k) x else child_of q k);
  emits = λ q x. (keeping (child (r.key x))).emits (child_of q (r.key x)) x;
}

-- the tree cannot tell what is kept here from what is kept there: each component gives the same, whatever items come
abbrev pub Same : {A S : Type 0} → Tree A S → Keeping S → Keeping S → Type 0
Same {A} (Component m s) q p = (xs : List A) → emitted m (state_or s q) xs ≡ emitted m (state_or s p) xs
Same (Series a b) q p = Same a (left_of q) (left_of p) × Same b (right_of q) (right_of p)
Same (Fork merge r child) q p = (k : Key) → Same (child k) (child_of q k) (child_of p k)
