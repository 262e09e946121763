-- The same state as a list of nodes with their steps.
use Rattle.std.specs.Prelude.{◌≡◌, ℕ, zero, suc, List, [], ◌∷◌, Bool, true, false, if◌then◌else◌, Option, Some, None, ◌&&◌}
use Rattle.sn_streams.specs.Keys.{Key, Own}
use Rattle.sn_streams.specs.Trees.{Tree, Component, Series, Fork}
use Rattle.sn_streams.specs.Forks.{Free, Deterministic}
use Rattle.sn_live.specs.Entries.{Entry, It, Mark}
use Rattle.sn_live.specs.Live.{Step, Left, Right, At, Node, Live, stands, step_eq, Target, Out, ToNode, ToKept, waits_more, keeps_more}

pub record Flat (A S : Type 0) : Type 0 where
  pub steps : List Step
  pub node : Node A S

abbrev pub steps_eq : List Step → List Step → Bool
steps_eq [] [] = true
steps_eq (s ∷ q) (t ∷ u) = step_eq s t && steps_eq q u
steps_eq _ _ = false

-- the node at these steps; where none is there, what base has
abbrev pub look : {A S : Type 0} → Live A S → List (Flat A S) → Live A S
look base [] q = base q
look base (n ∷ ns) q = if steps_eq q n.steps then n.node else look base ns q

abbrev pub node_at : {A S : Type 0} → List (Flat A S) → ℕ → Option (Flat A S)
node_at [] i = None
node_at (n ∷ ns) zero = Some n
node_at (n ∷ ns) (suc i) = node_at ns i

abbrev pub at_index : {A S : Type 0} → ℕ → (Node A S → Node A S) → List (Flat A S) → List (Flat A S)
at_index i h [] = []
at_index zero h (n ∷ ns) = record { steps = n.steps; node = h n.node } ∷ ns
at_index (suc i) h (n ∷ ns) = n ∷ at_index i h ns

abbrev pub NoneAt : {A S : Type 0} → List Step → List (Flat A S) → Type 0
NoneAt s [] = Unit {0}
NoneAt s (n ∷ ns) = (steps_eq s n.steps ≡ false) × NoneAt s ns

-- no two nodes have the same steps
abbrev pub Distinct : {A S : Type 0} → List (Flat A S) → Type 0
Distinct [] = Unit {0}
Distinct (n ∷ ns) = NoneAt n.steps ns × Distinct ns

-- the list with entries sent to the node at index j
abbrev pub sent_to : {A S : Type 0} → Target → ℕ → List (Entry A) → List (Flat A S) → List (Flat A S)
sent_to Out j o ns = ns
sent_to (ToNode s) j o ns = at_index j (waits_more o) ns
sent_to (ToKept s k) j o ns = at_index j (keeps_more k o) ns

-- the index j is that of a node with these steps
abbrev pub StepsAt : {A S : Type 0} → List (Flat A S) → ℕ → List Step → Type 0
StepsAt {A} {S} ns j s = (m : Flat A S) × (node_at ns j ≡ Some m) × (m.steps ≡ s)

-- the index j is that of the node that a target names
abbrev pub IsAt : {A S : Type 0} → List (Flat A S) → ℕ → Target → Type 0
IsAt ns j Out = Unit {0}
IsAt ns j (ToNode s) = StepsAt ns j s
IsAt ns j (ToKept s k) = StepsAt ns j s

-- the tree behind these steps
abbrev pub at_steps : {A S : Type 0} → Tree A S → List Step → Option (Tree A S)
at_steps t [] = Some t
at_steps (Series a b) (Left ∷ q) = at_steps a q
at_steps (Series a b) (Right ∷ q) = at_steps b q
at_steps (Fork merge r child) (At k ∷ q) = at_steps (child k) q
at_steps (Component m s) (x ∷ q) = None
at_steps (Series a b) (At k ∷ q) = None
at_steps (Fork merge r child) (Left ∷ q) = None
at_steps (Fork merge r child) (Right ∷ q) = None

-- a node that nothing came in at, of a tree that begins at it; other states are never looked at
abbrev pub new_node : {A S : Type 0} → S → Node A S
new_node s = record { waiting = []; state = s; decisions = []; ahead = 0; made = Own ∷ []; lead = λ k. 0; kept = λ k. [] }

-- the state of a tree that nothing came in at; idle fills the places of states that are no component's
abbrev pub base : {A S : Type 0} → S → Tree A S → Live A S
base idle (Component m s) q = new_node s
base idle (Series a b) [] = new_node idle
base idle (Series a b) (Left ∷ q) = base idle a q
base idle (Series a b) (Right ∷ q) = base idle b q
base idle (Series a b) (At k ∷ q) = new_node idle
base idle (Fork merge r child) [] = new_node idle
base idle (Fork merge r child) (At k ∷ q) = base idle (child k) q
base idle (Fork merge r child) (Left ∷ q) = new_node idle
base idle (Fork merge r child) (Right ∷ q) = new_node idle

-- nothing came in at this node of a fork
pub record FreshNode {A S : Type 0} (n : Node A S) : Type 0 where
  pub waits : n.waiting ≡ []
  pub decides : n.decisions ≡ []
  pub level : n.ahead ≡ 0
  pub leads : (k : Key) → n.lead k ≡ 0
  pub keeps : (k : Key) → n.kept k ≡ []

-- nothing came in at the node that stands at these steps of the tree
abbrev pub FreshAt : {A S : Type 0} → Tree A S → List Step → Node A S → Type 0
FreshAt (Component m s) [] n = (n.waiting ≡ []) × (n.state ≡ s)
FreshAt (Component m s) (x ∷ q) n = Unit {0}
FreshAt (Series a b) [] n = Unit {0}
FreshAt (Series a b) (Left ∷ q) n = FreshAt a q n
FreshAt (Series a b) (Right ∷ q) n = FreshAt b q n
FreshAt (Series a b) (At k ∷ q) n = Unit {0}
FreshAt (Fork merge r child) [] n = FreshNode n
FreshAt (Fork merge r child) (At k ∷ q) n = FreshAt (child k) q n
FreshAt (Fork merge r child) (Left ∷ q) n = Unit {0}
FreshAt (Fork merge r child) (Right ∷ q) n = Unit {0}

-- a node of a deterministic fork at which nothing can move
pub record QuietTurn {A S : Type 0} (n : Node A S) : Type 0 where
  pub waits : n.waiting ≡ []
  pub first_waits : (k : Key) (ds : List (Entry Key)) → n.decisions ≡ It k ∷ ds → n.kept k ≡ []
  pub no_mark : (ds : List (Entry Key)) → n.decisions ≡ Mark ∷ ds → ⊥

-- the same of a free one
pub record QuietFree {A S : Type 0} (n : Node A S) : Type 0 where
  pub waits : n.waiting ≡ []
  pub none_there : (k : Key) → stands n k ≡ 0 → n.kept k ≡ []
  pub not_past : ((k : Key) → (m : ℕ) × (stands n k ≡ suc m)) → ⊥

-- nothing can move at the node that stands at these steps of the tree
abbrev pub QuietAt : {A S : Type 0} → Tree A S → List Step → Node A S → Type 0
QuietAt (Component m s) [] n = n.waiting ≡ []
QuietAt (Component m s) (x ∷ q) n = Unit {0}
QuietAt (Series a b) [] n = Unit {0}
QuietAt (Series a b) (Left ∷ q) n = QuietAt a q n
QuietAt (Series a b) (Right ∷ q) n = QuietAt b q n
QuietAt (Series a b) (At k ∷ q) n = Unit {0}
QuietAt (Fork Free r child) [] n = QuietFree n
QuietAt (Fork Deterministic r child) [] n = QuietTurn n
QuietAt (Fork merge r child) (At k ∷ q) n = QuietAt (child k) q n
QuietAt (Fork merge r child) (Left ∷ q) n = Unit {0}
QuietAt (Fork merge r child) (Right ∷ q) n = Unit {0}
