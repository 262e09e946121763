-- The one-thread meaning, one item at a time.
use Rattle.std.specs.Prelude.{List, if◌then◌else◌}
use Rattle.sn_streams.specs.Forks.{Router}
use Rattle.sn_streams.specs.Keys.{Key, key_eq}
use Rattle.sn_streams.specs.Machines.{Machine, emitted, after}
use Rattle.sn_streams.specs.Trees.{Tree, Component, Series, Fork}

-- what the first machine emits for an item goes through the second at once
abbrev pub in_series : {A S T : Type 0} → Machine A S → Machine A T → Machine A (S × T)
in_series m n = record {
  next = λ state x. (m.next state.0 x, after n state.1 (m.emits state.0 x));
  emits = λ state x. emitted n state.1 (m.emits state.0 x);
}

-- each item goes through the machine of its key
abbrev pub side_by_side : {A : Type 0} → Router A → (S : Key → Type 0) → ((k : Key) → Machine A (S k)) → Machine A ((k : Key) → S k)
side_by_side r S m = record {
  next = λ states x k. if key_eq k (r.key x) then (m k).next (states k) x else states k;
  emits = λ states x. (m (r.key x)).emits (states (r.key x)) x;
}

-- what a tree keeps between two items
abbrev pub State : {A S : Type 0} → Tree A S → Type 0
State {A} {S} (Component m s) = S
State (Series a b) = State a × State b
State (Fork merge r child) = (k : Key) → State (child k)

-- what it keeps before the first item
abbrev pub start : {A S : Type 0} → (t : Tree A S) → State t
start (Component m s) = s
start (Series a b) = (start a, start b)
start (Fork merge r child) = λ k. start (child k)

-- the tree as one machine, which runs each item through the components in order
abbrev pub one_by_one : {A S : Type 0} → (t : Tree A S) → Machine A (State t)
one_by_one (Component m s) = m
one_by_one (Series a b) = in_series (one_by_one a) (one_by_one b)
one_by_one (Fork merge r child) = side_by_side r (λ k. State (child k)) (λ k. one_by_one (child k))

-- what the tree gives for an item
abbrev pub gives : {A S : Type 0} → (t : Tree A S) → State t → A → List A
gives t state x = (one_by_one t).emits state x

-- what it keeps then
abbrev pub next : {A S : Type 0} → (t : Tree A S) → State t → A → State t
next t state x = (one_by_one t).next state x

-- what it still gives for items, from what it keeps
abbrev pub rest : {A S : Type 0} → (t : Tree A S) → State t → List A → List A
rest t state xs = emitted (one_by_one t) state xs

-- what it keeps after items
abbrev pub state_after : {A S : Type 0} → (t : Tree A S) → List A → State t
state_after t xs = after (one_by_one t) (start t) xs

-- what it gives for items from the start
abbrev pub answer : {A S : Type 0} → Tree A S → List A → List A
answer t xs = rest t (start t) xs
