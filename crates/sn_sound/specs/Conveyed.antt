-- What is known of the items at each place of a tree: of those that come in and of those that come out, and within it of those between
-- two parts in series, and of those that are sent to each child. All of them are of one sort, whatever else is known.
use Rattle.std.specs.List.{AllByRecursion}
use Rattle.sn_streams.specs.Keys.{Key}
use Rattle.sn_streams.specs.Trees.{Tree, Component, Series, Fork}

abbrev pub Conveys : {A S : Type 0} → (A → Type 0) → Tree A S → (A → Type 0) → (A → Type 0) → Type 1
-- a machine whose states keep something, and then answers items of Q to an item of P
Conveys {A} {S} sort (Component m s) P Q =
    (Keeps : S → Type 0) × Keeps s × ((x : A) → P x → sort x) × ((x : A) → Q x → sort x)
    × ((state : S) (x : A) → Keeps state → P x → Keeps (m.next state x) × AllByRecursion Q (m.emits state x))
Conveys {A} sort (Series a b) P Q = (Between : A → Type 0) × Conveys sort a P Between × Conveys sort b Between Q
Conveys {A} sort (Fork merge r child) P Q =
    (Sent : Key → A → Type 0) × ((x : A) → P x → sort x) × ((x : A) → Q x → sort x) × ((x : A) → P x → Sent (r.key x) x)
    × ((k : Key) → Conveys sort (child k) (Sent k) Q)
