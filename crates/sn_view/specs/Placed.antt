-- How the nodes of a graph stand in its network.
use Rattle.std.specs.Prelude.{◌≡◌, ℕ, suc, false, Bool, List, [], ◌∷◌, ◌++◌, map, slice_get, length, nat_lt, ◌≤◌, true, Some, ◌⊎◌}
use Rattle.std.specs.List.{list_all}
use Rattle.std.specs.Option.{option_map}
use Rattle.sn_record.specs.LabelSet.{Labels}
use Rattle.sn_streams.specs.Forks.{Router, Merge as StreamMerge, Free, Deterministic}
use Rattle.sn_streams.specs.Keys.{Key, key_eq, AreDistinct, is_among}
use Rattle.sn_streams.specs.Keys as key
use Rattle.sn_streams.specs.Trees.{Component, Fork}
use Rattle.sn_net.specs.declared.net.Net.{Net}
use Rattle.sn_net.specs.declared.net.Net.TheOpen.{Net-F}
use Rattle.sn_net.specs.declared.net.Net.TheViews.{out-Net}
use Rattle.sn_net.specs.Cell.{new_cell}
use Rattle.sn_net.specs.declared.net.Merge.{Merge as MergeKind}
use Rattle.sn_net.specs.Route.{of_record, choice_key}
use Rattle.sn_net.specs.Dispatchers.{Network, router, choice, level, split, merge_of}
use Rattle.sn_model.specs.declared.run.Run.{Run}
use Rattle.sn_model.specs.Components.{filter_item, box_item, alone, cell}
use Rattle.sn_model.specs.Meaning.{Setting, tree}
use Rattle.sn_model.specs.Run.{depth_of, net_of, setting_of}
use Rattle.sn_net.specs.Item.{ModelItem}
use Rattle.sn_view.specs.View.{Entry, It, Mark, End, Turn, To, Own, State, Alone, Cell, InTurn, Freely, Child, Target, Out, ToNode, ToChild, Node, View, Waiting, Plain, InFlight, Finished, Happening, Take, Start, Finish, Local, Route, Unfold, Merge, Emit}
use Rattle.sn_view.specs.Next.{form_of, router_of, new_nodes, enabled, is_box}
use Rattle.sn_view.specs.Parts.{part_at}
use Rattle.sn_live.specs.Live.{Step as LiveStep, At, Target as LiveTarget, Out as LiveOut, ToNode as LiveToNode, ToKept}
use Rattle.sn_live.specs.Flat.{steps_eq, at_steps, FreshAt}
use Rattle.sn_live.specs.Parts.{part}
use Rattle.sn_live.specs.Runs.{Move, RunSane}
use Rattle.sn_view.specs.Seen.{step_of, tree_of, seen_node, running}

-- what a node keeps, without what changes in it
pub data Kind : Type 0 where
  IsAlone : Kind
  IsCell : List Labels → Kind
  IsInTurn : Kind
  -- so many epochs of children, and whether the output is ahead of the input
  IsFreely : ℕ → Bool → Kind

abbrev pub kind_of : State → Kind
kind_of Alone = IsAlone
kind_of (Cell patterns cell) = IsCell patterns
kind_of (InTurn ds) = IsInTurn
kind_of (Freely e) = IsFreely (length e.children) (nat_lt e.input e.output)

-- a child's key, and the node where its items come in
pub record Door : Type 0 where
  pub key : Key
  pub entry : ℕ

abbrev pub door_of : Child → Door
door_of c = record { key = c.key; entry = c.entry }

-- a node without what flows through it
pub record Shape : Type 0 where
  pub steps : List LiveStep
  pub path : List ℕ
  pub left : ℕ
  pub goes : Target
  pub kind : Kind
  pub doors : List Door

abbrev pub shape_of : Node → Shape
shape_of n = record { steps = map step_of n.steps; path = n.path; left = n.left; goes = n.goes; kind = kind_of n.state; doors = map door_of n.children }

-- the tree of one form, with so many replicas left
abbrev pub fit : Setting → Net-F Net → ℕ → Network
fit s (Net-F.Box place number) left = alone (box_item s.boxes s.fuel place number)
fit s (Net-F.Filter filter) left = alone (filter_item filter)
fit s (Net-F.Sync place patterns) left = Component (cell place patterns) (new_cell patterns)
fit s (Net-F.Serial first second) left = tree s first
fit s (Net-F.Choice place merge branches faces) left = choice place merge faces (map (tree s) branches)
fit s (Net-F.Star place merge body exit guard) left = level place merge exit guard (tree s body) left
fit s (Net-F.Split place merge body id) left = split place merge id (tree s body)

-- that of a dispatcher with so many children
abbrev pub fork_kind : StreamMerge → ℕ → Kind
fork_kind Free children = IsFreely children false
fork_kind Deterministic children = IsInTurn

abbrev pub IsFork : Kind → Type 0
IsFork IsAlone = ⊥
IsFork (IsCell patterns) = ⊥
IsFork IsInTurn = Unit {0}
IsFork (IsFreely n b) = Unit {0}

-- the kind that a form has; two in series are no node
abbrev pub HasKind : Net-F Net → ℕ → Kind → Type 0
HasKind (Net-F.Box place number) n k = k ≡ IsAlone
HasKind (Net-F.Filter filter) n k = k ≡ IsAlone
HasKind (Net-F.Sync place patterns) n k = k ≡ IsCell patterns
HasKind (Net-F.Serial first second) n k = ⊥
HasKind (Net-F.Choice place merge branches faces) n k = k ≡ fork_kind (merge_of merge) n
HasKind (Net-F.Star place merge body exit guard) n k = k ≡ fork_kind (merge_of merge) n
HasKind (Net-F.Split place merge body id) n k = k ≡ fork_kind (merge_of merge) n

-- a choice has a child for each branch, by these keys
abbrev pub HasBranches : Net-F Net → List Key → Type 0
HasBranches (Net-F.Box place number) ks = Unit {0}
HasBranches (Net-F.Filter filter) ks = Unit {0}
HasBranches (Net-F.Sync place patterns) ks = Unit {0}
HasBranches (Net-F.Serial first second) ks = Unit {0}
HasBranches (Net-F.Choice place merge branches faces) ks = (i : ℕ) (branch : Net) → slice_get branches i ≡ Some branch → is_among (key.Branch i) ks ≡ true
HasBranches (Net-F.Star place merge body exit guard) ks = Unit {0}
HasBranches (Net-F.Split place merge body id) ks = Unit {0}

-- the node of this number has these steps
abbrev pub HasSteps : List Shape → ℕ → List LiveStep → Type 0
HasSteps shapes j s = (m : Shape) × (slice_get shapes j ≡ Some m) × (m.steps ≡ s)

-- the child of this number has this key
abbrev pub HasKey : List Door → ℕ → Key → Type 0
HasKey doors c k = (d : Door) × (slice_get doors c ≡ Some d) × (d.key ≡ k)

-- a node's target is the one that the tree has
abbrev pub Sends : List Shape → Target → LiveTarget → Type 0
Sends shapes Out LiveOut = Unit {0}
Sends shapes (ToNode j) (LiveToNode s) = HasSteps shapes j s
Sends shapes (ToChild j (suc c)) (ToKept s k) =
    (m : Shape) × (slice_get shapes j ≡ Some m) × (m.steps ≡ s) × HasKey m.doors (suc c) k × HasKey m.doors 0 key.Own × AreDistinct (map (λ (d : Door). d.key) m.doors)
Sends shapes other target = ⊥

-- one node
pub record Stands (t : Network) (run : Run) (shapes : List Shape) (m : Shape) : Type 0 where
  pub form : Net-F Net
  pub is_form : option_map out-Net (part_at (net_of run) m.path) ≡ Some form
  pub fits : at_steps t m.steps ≡ Some (fit (setting_of run) form m.left)
  pub has_kind : HasKind form (length m.doors) m.kind
  pub sends : Sends shapes m.goes ((part t).target m.steps)
  -- its children have different keys, and their first nodes are there
  pub keys : AreDistinct (map (λ (d : Door). d.key) m.doors)
  pub doors : (c : ℕ) (d : Door) → slice_get m.doors (suc c) ≡ Some d
      → (child : Network) × (at_steps t (m.steps ++ At d.key ∷ []) ≡ Some child) × HasSteps shapes d.entry (m.steps ++ At d.key ∷ (part child).entry)
  pub whole : HasBranches form (map (λ (d : Door). d.key) m.doors)
  -- child 0 of a dispatcher is what passes by
  pub own_first : IsFork m.kind → HasKey m.doors 0 key.Own

abbrev pub NoneAt : List LiveStep → List Shape → Type 0
NoneAt s [] = Unit {0}
NoneAt s (m ∷ ms) = (steps_eq s m.steps ≡ false) × NoneAt s ms

abbrev pub DistinctSteps : List Shape → Type 0
DistinctSteps [] = Unit {0}
DistinctSteps (m ∷ ms) = NoneAt m.steps ms × DistinctSteps ms

-- a node has these steps, and a child of this key
abbrev pub RootAt : List Shape → List LiveStep → Key → Type 0
RootAt shapes s k = (j : ℕ) × (m : Shape) × (slice_get shapes j ≡ Some m) × (m.steps ≡ s) × (is_among k (map (λ (d : Door). d.key) m.doors) ≡ true)

-- all nodes
pub record ArePlaced (t : Network) (run : Run) (shapes : List Shape) : Type 0 where
  pub distinct : DistinctSteps shapes
  pub all : (i : ℕ) (m : Shape) → slice_get shapes i ≡ Some m → Stands t run shapes m
  pub first : HasSteps shapes 0 (part t).entry
  -- a node stands below a key only where the dispatcher above has that child
  pub rooted : (i : ℕ) (m : Shape) (r q : List LiveStep) (k : Key) → slice_get shapes i ≡ Some m → m.steps ≡ r ++ At k ∷ q → RootAt shapes r k

abbrev pub WellPlaced : View → Type 0
WellPlaced g = ArePlaced (tree_of g) g.run (map shape_of g.nodes)

-- What an event makes of a graph: nothing that can come changes, or one move happens. The nodes stand as they stood.
pub record Follows (g g' : View) : Type 0 where
  pub moves : (running g' ≡ running g) ⊎ Move (part (tree_of g)) (running g) (running g')
  pub shapes : map shape_of g'.nodes ≡ map shape_of g.nodes
  pub run : g'.run ≡ g.run

-- Where the first item of a dispatcher needs a child that is not there: no node stands below its steps yet, and the nodes that are
-- made for it all do, and nothing came in at them.
abbrev pub UnfoldsWell : View → Type 0
UnfoldsWell g = (i : ℕ) (n : Node) (x : ModelItem) (merge : StreamMerge) (r : Router ModelItem) (child : Key → Network) → slice_get g.nodes i ≡ Some n
    → at_steps (tree_of g) (map step_of n.steps) ≡ Some (Fork merge r child) → router_of (form_of g n) n.left ≡ Some r → IsFork (kind_of n.state)
    → is_among (r.key x) (map (λ (c : Child). c.key) n.children) ≡ false
    → ((j : ℕ) (m : Node) (q : List LiveStep) → slice_get g.nodes j ≡ Some m → steps_eq (map step_of n.steps ++ At (r.key x) ∷ q) (map step_of m.steps) ≡ false)
    × ((j : ℕ) (m : Node) → slice_get (new_nodes (depth_of g.run) (form_of g n) (r.key x) i n (length g.nodes)) j ≡ Some m
    → (q : List LiveStep) × (map step_of m.steps ≡ map step_of n.steps ++ At (r.key x) ∷ q) × FreshAt (child (r.key x)) q (seen_node m))

-- what the state of the tree keeps
abbrev pub IsSane : View → Type 0
IsSane g = RunSane (part (tree_of g)) (running g)

-- nothing that can come changes, or one move happens
abbrev pub IsMove : View → View → Type 0
IsMove g g' = (running g' ≡ running g) ⊎ Move (part (tree_of g)) (running g) (running g')

abbrev pub IsUnfold : Happening → Type 0
IsUnfold Take = ⊥
IsUnfold (Start i) = ⊥
IsUnfold (Finish call number place given) = ⊥
IsUnfold (Local i) = ⊥
IsUnfold (Route i) = ⊥
IsUnfold (Unfold i) = Unit {0}
IsUnfold (Merge i c) = ⊥
IsUnfold Emit = ⊥

-- NO EVENT BUT FINISH IS LEFT, AND NO CALL IS IN FLIGHT

abbrev pub NoneInFlight : List Waiting → Type 0
NoneInFlight [] = Unit {0}
NoneInFlight (Plain e ∷ ws) = NoneInFlight ws
NoneInFlight (InFlight call given ∷ ws) = ⊥
NoneInFlight (Finished given ∷ ws) = NoneInFlight ws

pub record AtRest (g : View) : Type 0 where
  pub none_enabled : (e : Happening) → enabled g e ≡ false
  pub no_call : (i : ℕ) (n : Node) → slice_get g.nodes i ≡ Some n → NoneInFlight n.waiting

-- no call waits
abbrev pub AllPlain : List Waiting → Type 0
AllPlain [] = Unit {0}
AllPlain (Plain e ∷ ws) = AllPlain ws
AllPlain (InFlight call given ∷ ws) = ⊥
AllPlain (Finished given ∷ ws) = ⊥

-- no decision names the child that items pass by
abbrev pub NoneToOwn : List (Entry Turn) → Type 0
NoneToOwn [] = Unit {0}
NoneToOwn (It (To k) ∷ ds) = (key_eq k key.Own ≡ false) × NoneToOwn ds
NoneToOwn (It (Own y) ∷ ds) = NoneToOwn ds
NoneToOwn (Mark ∷ ds) = NoneToOwn ds
NoneToOwn (End ∷ ds) = NoneToOwn ds

abbrev pub AreBetween : ℕ → ℕ → List ℕ → Type 0
AreBetween low high [] = Unit {0}
AreBetween low high (m ∷ ms) = (low ≤ m) × (m ≤ high) × AreBetween low high ms

-- a child's epoch is between the output's and the input's, and not all have passed the output's
abbrev pub IsOrderlyState : State → Type 0
IsOrderlyState Alone = Unit {0}
IsOrderlyState (Cell patterns cell) = Unit {0}
IsOrderlyState (InTurn ds) = NoneToOwn ds
IsOrderlyState (Freely e) = AreBetween e.output e.input e.children × (list_all (λ epoch. nat_lt e.output epoch) e.children ≡ false)

-- calls are at boxes alone
pub record IsOrderlyNode (net : Net) (n : Node) : Type 0 where
  pub calls : is_box (option_map out-Net (part_at net n.path)) ≡ false → AllPlain n.waiting
  pub state : IsOrderlyState n.state

-- What every graph that is reached keeps of what flows, as far as rest needs it.
abbrev pub IsOrderly : View → Type 0
IsOrderly g = (i : ℕ) (n : Node) → slice_get g.nodes i ≡ Some n → IsOrderlyNode (net_of g.run) n

-- what waits of the output of child 0
abbrev pub own_kept : List Child → List (Entry ModelItem)
own_kept [] = []
own_kept (child ∷ children) = child.kept

-- a component has no children, and child 0 of a deterministic dispatcher keeps nothing
abbrev pub KeepsAside : State → List Child → Type 0
KeepsAside Alone children = children ≡ []
KeepsAside (Cell patterns cell) children = children ≡ []
KeepsAside (InTurn ds) children = own_kept children ≡ []
KeepsAside (Freely epochs) children = Unit {0}

-- so is each node
abbrev pub NothingIsAside : View → Type 0
NothingIsAside g = (i : ℕ) (n : Node) → slice_get g.nodes i ≡ Some n → KeepsAside n.state n.children

-- A choice has a child for each key that it sends an item by, so that Unfold never happens there.
abbrev pub ChoicesAreWhole : View → Type 0
ChoicesAreWhole g = (i : ℕ) (n : Node) (x : ModelItem) (place : ℕ) (merge : MergeKind) (branches : List Net) (faces : List (List Labels)) → slice_get g.nodes i ≡ Some n
    → form_of g n ≡ Some (Net-F.Choice place merge branches faces) → is_among ((router place (of_record (choice_key faces))).key x) (map (λ (c : Child). c.key) n.children) ≡ true
