-- The labels of a graph that some list of events led to, where nothing is kept of these but that there are some.
use Rattle.std.proofs.Common.{◌≡◌, ℕ, Bool, Option, None, Some}
use Rattle.std.specs.Prelude.{slice_get}
use Rattle.std.specs.List.{AllByRecursion-prop}
use Rattle.std.specs.Coded.{Unit-prop}
use mathlib.Core.Bool.{Bool-set}
use mathlib.Core.HLevel.{Π_prop}
use mathlib.Core.Logic.{∥∥₁_elim}
use Rattle.sn_record.specs.declared.label.Label.{Label}
use Rattle.sn_record.specs.Record.{Entries}
use Rattle.sn_net.specs.Cell.{CellState, Waiting as WaitsFor, Passing}
use Rattle.sn_net.specs.Item.{ModelItem, Rec, Fault, Stuck}
use Rattle.sn_model.specs.declared.run.Run.{Run}
use Rattle.sn_view.specs.Calls.{FliesAt}
use Rattle.sn_view.specs.Chains.{Comes}
use Rattle.sn_view.specs.View.{Entry, It, Mark, End, Waiting, Plain, InFlight, Finished, Turn, To, Own, State, Alone, Cell, InTurn, Freely, Child, Node, View}
use Rattle.sn_labels.specs.Labels.{is_label_of}
use Rattle.sn_labels.specs.Flowing.{CellHasOnly, ChildHasOnly, EntryHasOnly, HasLabelsOf, HasOnly, HasRunLabels, ItemHasOnly, NodeHasOnly, SlotHasOnly, StateHasOnly, TurnHasOnly, ViewHasOnly, WaitingHasOnly}
use Rattle.sn_labels.proofs.Events.{has_run_labels}
use Rattle.sn_labels.proofs.Records.{each_at}

-- THAT IT HAS ONE PROOF ALONE
module _ (known : Label → Bool) where
  pub only_once : (r : Entries) → IsProp (HasOnly known r)
  only_once r = Π_prop (λ l. Π_prop (λ there. Bool-set _ _))

  item_once : (x : ModelItem) → IsProp (ItemHasOnly known x)
  item_once (Rec r) = only_once r
  item_once (Fault fault) = Unit-prop
  item_once (Stuck place) = Unit-prop

  entry_once : (e : Entry ModelItem) → IsProp (EntryHasOnly known e)
  entry_once (It x) = item_once x
  entry_once Mark = Unit-prop
  entry_once End = Unit-prop

  waiting_once : (w : Waiting) → IsProp (WaitingHasOnly known w)
  waiting_once (Plain e) = entry_once e
  waiting_once (InFlight call given) = only_once given
  waiting_once (Finished given) = only_once given

  turn_once : (d : Entry Turn) → IsProp (TurnHasOnly known d)
  turn_once (It (To k)) = Unit-prop
  turn_once (It (Own y)) = item_once y
  turn_once Mark = Unit-prop
  turn_once End = Unit-prop

  slot_once : (slot : Option Entries) → IsProp (SlotHasOnly known slot)
  slot_once None = Unit-prop
  slot_once (Some held) = only_once held

  cell_once : (cell : CellState) → IsProp (CellHasOnly known cell)
  cell_once (WaitsFor slots) = AllByRecursion-prop (SlotHasOnly known) slot_once slots
  cell_once Passing = Unit-prop

  state_once : (state : State) → IsProp (StateHasOnly known state)
  state_once Alone = Unit-prop
  state_once (Cell patterns cell) = cell_once cell
  state_once (InTurn decisions) = AllByRecursion-prop (TurnHasOnly known) turn_once decisions
  state_once (Freely epochs) = Unit-prop

  child_once : (child : Child) → IsProp (ChildHasOnly known child)
  child_once child = AllByRecursion-prop (EntryHasOnly known) entry_once child.kept

  node_once : (n : Node) → IsProp (NodeHasOnly known n)
  node_once n a b = λ i. record {
    waiting = AllByRecursion-prop (WaitingHasOnly known) waiting_once n.waiting a.waiting b.waiting i;
    state = state_once n.state a.state b.state i;
    children = AllByRecursion-prop (ChildHasOnly known) child_once n.children a.children b.children i;
  }

  pub view_once : (g : View) → IsProp (ViewHasOnly known g)
  view_once g a b = λ i. record {
    nodes = λ j n there. node_once n (a.nodes j n there) (b.nodes j n there) i;
    ready = AllByRecursion-prop (EntryHasOnly known) entry_once g.ready a.ready b.ready i;
    out = AllByRecursion-prop (ItemHasOnly known) item_once g.out a.out b.out i;
  }

-- OF RECORDS THAT WAIT AT NODES
module _ (run : Run) (g : View) (labels : HasRunLabels run g) where
  abbrev Known : Waiting → Type 0
  Known = WaitingHasOnly (is_label_of run)

  -- whose call is in flight
  pub called_known : (i p call : ℕ) (given : Entries) → FliesAt g i p call given → HasLabelsOf run given
  called_known i p call given flies = each_at Known flies.node.waiting p (InFlight call given) (labels.nodes i flies.node flies.there).waiting flies.flies

  -- without a call
  pub waiting_known : (i p : ℕ) (n : Node) (r : Entries) → slice_get g.nodes i ≡ Some n → slice_get n.waiting p ≡ Some (Plain (It (Rec r))) → HasLabelsOf run r
  waiting_known i p n r there waits = each_at Known n.waiting p (Plain (It (Rec r))) (labels.nodes i n there).waiting waits

-- OF A GRAPH THAT CAME
module _ (run : Run) (g : View) (came : ∥ Comes run g ∥₁) where
  pub came_labels : HasRunLabels run g
  came_labels = ∥∥₁_elim came (view_once (is_label_of run) g) (has_run_labels run g)

  pub came_known : (i p call : ℕ) (given : Entries) → FliesAt g i p call given → HasLabelsOf run given
  came_known = called_known run g came_labels

  pub came_waiting_known : (i p : ℕ) (n : Node) (r : Entries) → slice_get g.nodes i ≡ Some n → slice_get n.waiting p ≡ Some (Plain (It (Rec r))) → HasLabelsOf run r
  came_waiting_known = waiting_known run g came_labels
