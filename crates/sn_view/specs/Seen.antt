-- What a graph can still come to: its nodes as the state of the tree of its network.
use Rattle.std.specs.Prelude.{ℕ, ◌-◌, if◌then◌else◌, List, [], ◌∷◌, map, drop}
use Rattle.sn_streams.specs.Keys.{Key, key_eq}
use Rattle.sn_streams.specs.Keys as key
use Rattle.sn_net.specs.Cell.{CellState, Passing}
use Rattle.sn_net.specs.Dispatchers.{Network}
use Rattle.sn_net.specs.Item.{ModelItem, Rec}
use Rattle.sn_view.specs.Epochs.{Epochs}
use Rattle.sn_model.specs.Meaning.{tree}
use Rattle.sn_model.specs.Run.{input_of, net_of, setting_of}
use Rattle.sn_model.specs.declared.step.Step.{Step}
use Rattle.sn_model.specs.declared.step.Step.TheVariants as step
use Rattle.sn_view.specs.View.{Entry, It, Mark, End, Waiting, Plain, InFlight, Finished, Turn, To, Own, State, Alone, Cell, InTurn, Freely, Child, Node, View}
use Rattle.sn_live.specs.Entries.{Entry as LiveEntry, It as LiveIt, Mark as LiveMark}
use Rattle.sn_live.specs.Live.{Step as LiveStep, Left, Right, At, Node as LiveNode, Live}
use Rattle.sn_live.specs.Flat.{Flat, look, base}
use Rattle.sn_live.specs.Runs.{Running, Can as CanOfTree}

abbrev pub step_of : Step → LiveStep
step_of step.Left = Left
step_of step.Right = Right
step_of (step.Branch i) = At (key.Branch i)
step_of step.Inside = At key.Inside
step_of (step.Value v) = At (key.Value v)

-- ends are erased: they say nothing of what can come
abbrev pub erased : {X : Type 0} → List (Entry X) → List (LiveEntry X)
erased [] = []
erased (It x ∷ w) = LiveIt x ∷ erased w
erased (Mark ∷ w) = LiveMark ∷ erased w
erased (End ∷ w) = erased w

-- a record with a call is still to be answered
abbrev pub entry_of : Waiting → Entry ModelItem
entry_of (Plain e) = e
entry_of (InFlight call given) = It (Rec given)
entry_of (Finished given) = It (Rec given)

abbrev pub turn_key : Turn → Key
turn_key (To k) = k
turn_key (Own y) = key.Own

abbrev pub seen_turns : List (Entry Turn) → List (LiveEntry Key)
seen_turns [] = []
seen_turns (It d ∷ ds) = LiveIt (turn_key d) ∷ seen_turns ds
seen_turns (Mark ∷ ds) = LiveMark ∷ seen_turns ds
seen_turns (End ∷ ds) = seen_turns ds

-- what was decided to pass by, as what waits of the output of child 0: each in a group of its own
abbrev pub own_groups : List (Entry Turn) → List (LiveEntry ModelItem)
own_groups [] = []
own_groups (It (To k) ∷ ds) = own_groups ds
own_groups (It (Own y) ∷ ds) = LiveIt y ∷ LiveMark ∷ own_groups ds
own_groups (Mark ∷ ds) = own_groups ds
own_groups (End ∷ ds) = own_groups ds

abbrev pub kept_by_key : List Child → Key → List (LiveEntry ModelItem)
kept_by_key [] k = []
kept_by_key (c ∷ cs) k = if key_eq k c.key then erased c.kept else kept_by_key cs k

abbrev pub epoch_by_key : List Child → List ℕ → Key → ℕ
epoch_by_key [] ns k = 0
epoch_by_key (c ∷ cs) [] k = 0
epoch_by_key (c ∷ cs) (n ∷ ns) k = if key_eq k c.key then n else epoch_by_key cs ns k

-- What waits of a child's output. What a deterministic dispatcher decided to pass by waits in its decisions.
abbrev pub seen_kept : State → List Child → Key → List (LiveEntry ModelItem)
seen_kept Alone cs k = kept_by_key cs k
seen_kept (Cell patterns cell) cs k = kept_by_key cs k
seen_kept (InTurn ds) cs k = if key_eq k key.Own then own_groups ds else kept_by_key cs k
seen_kept (Freely e) cs k = kept_by_key cs k

abbrev pub cell_of : State → CellState
cell_of (Cell patterns cell) = cell
cell_of Alone = Passing
cell_of (InTurn ds) = Passing
cell_of (Freely e) = Passing

abbrev pub turns_of_state : State → List (Entry Turn)
turns_of_state (InTurn ds) = ds
turns_of_state Alone = []
turns_of_state (Cell patterns cell) = []
turns_of_state (Freely e) = []

abbrev pub epochs_of : State → Epochs
epochs_of (Freely e) = e
epochs_of Alone = record { input = 0; output = 0; children = [] }
epochs_of (Cell patterns cell) = record { input = 0; output = 0; children = [] }
epochs_of (InTurn ds) = record { input = 0; output = 0; children = [] }

abbrev pub seen_node : Node → LiveNode ModelItem CellState
seen_node n = record {
  waiting = erased (map entry_of n.waiting);
  state = cell_of n.state;
  decisions = seen_turns (turns_of_state n.state);
  ahead = (epochs_of n.state).input - (epochs_of n.state).output;
  made = map (λ (c : Child). c.key) n.children;
  lead = λ k. epoch_by_key n.children (epochs_of n.state).children k - (epochs_of n.state).output;
  kept = seen_kept n.state n.children;
}

abbrev pub seen : Node → Flat ModelItem CellState
seen n = record { steps = map step_of n.steps; node = seen_node n }

abbrev pub tree_of : View → Network
tree_of g = tree (setting_of g.run) (net_of g.run)

-- the state of the tree: where no node is made yet it is new
abbrev pub live_of : View → Live ModelItem CellState
live_of g = look (base Passing (tree_of g)) (map seen g.nodes)

abbrev pub running : View → Running ModelItem CellState
running g = record { todo = drop g.taken (input_of g.run); live = live_of g; ready = erased g.ready; out = g.out }

-- THE STREAMS THAT THE GRAPH CAN STILL COME TO
abbrev pub Can : View → List ModelItem → Type 0
Can g ys = CanOfTree (tree_of g) (running g) ys
