-- That all that flows in a network has only labels which pass a test.
use Rattle.std.specs.Prelude.{◌≡◌, ℕ, Bool, IsTrue, Option, None, Some, slice_get}
use Rattle.std.specs.List.{AllByRecursion as Each}
use Rattle.std.specs.FinMap.{contains_key}
use Rattle.sn_record.specs.declared.label.Label.{Label}
use Rattle.sn_record.specs.Record.{Entries}
use Rattle.sn_net.specs.Cell.{CellState, Waiting as WaitsFor, Passing}
use Rattle.sn_net.specs.Item.{ModelItem, Rec, Fault, Stuck}
use Rattle.sn_model.specs.declared.run.Run.{Run}
use Rattle.sn_view.specs.View.{Entry, It, Mark, End, Waiting, Plain, InFlight, Finished, Turn, To, Own, State, Alone, Cell, InTurn, Freely, Child, Node, View}
use Rattle.sn_labels.specs.Labels.{is_label_of}

-- each label of the record passes
abbrev pub HasOnly : (Label → Bool) → Entries → Type 0
HasOnly known r = (l : Label) → IsTrue (contains_key r l) → IsTrue (known l)

-- so it is where the item is a record
abbrev pub ItemHasOnly : (Label → Bool) → ModelItem → Type 0
ItemHasOnly known (Rec r) = HasOnly known r
ItemHasOnly known (Fault fault) = Unit {0}
ItemHasOnly known (Stuck place) = Unit {0}

abbrev pub EntryHasOnly : (Label → Bool) → Entry ModelItem → Type 0
EntryHasOnly known (It x) = ItemHasOnly known x
EntryHasOnly known Mark = Unit {0}
EntryHasOnly known End = Unit {0}

-- what waits at a node, with a call or without
abbrev pub WaitingHasOnly : (Label → Bool) → Waiting → Type 0
WaitingHasOnly known (Plain e) = EntryHasOnly known e
WaitingHasOnly known (InFlight call given) = HasOnly known given
WaitingHasOnly known (Finished given) = HasOnly known given

-- a decision, which may keep an item
abbrev pub TurnHasOnly : (Label → Bool) → Entry Turn → Type 0
TurnHasOnly known (It (To k)) = Unit {0}
TurnHasOnly known (It (Own y)) = ItemHasOnly known y
TurnHasOnly known Mark = Unit {0}
TurnHasOnly known End = Unit {0}

-- what a synchrocell holds
abbrev pub SlotHasOnly : (Label → Bool) → Option Entries → Type 0
SlotHasOnly known None = Unit {0}
SlotHasOnly known (Some held) = HasOnly known held

abbrev pub CellHasOnly : (Label → Bool) → CellState → Type 0
CellHasOnly known (WaitsFor slots) = Each (SlotHasOnly known) slots
CellHasOnly known Passing = Unit {0}

abbrev pub StateHasOnly : (Label → Bool) → State → Type 0
StateHasOnly known Alone = Unit {0}
StateHasOnly known (Cell patterns cell) = CellHasOnly known cell
StateHasOnly known (InTurn decisions) = Each (TurnHasOnly known) decisions
StateHasOnly known (Freely epochs) = Unit {0}

-- what is kept of a child's output
abbrev pub ChildHasOnly : (Label → Bool) → Child → Type 0
ChildHasOnly known child = Each (EntryHasOnly known) child.kept

pub record NodeHasOnly (known : Label → Bool) (n : Node) : Type 0 where
  pub waiting : Each (WaitingHasOnly known) n.waiting
  pub state : StateHasOnly known n.state
  pub children : Each (ChildHasOnly known) n.children

-- all that waits anywhere in a graph, and all that came out
pub record ViewHasOnly (known : Label → Bool) (g : View) : Type 0 where
  pub nodes : (i : ℕ) (n : Node) → slice_get g.nodes i ≡ Some n → NodeHasOnly known n
  pub ready : Each (EntryHasOnly known) g.ready
  pub out : Each (ItemHasOnly known) g.out

-- EACH LABEL OF THE RECORD IS ONE OF THE RUN
abbrev pub HasLabelsOf : Run → Entries → Type 0
HasLabelsOf run r = HasOnly (is_label_of run) r

-- so it is with each record of the graph, wherever it is
abbrev pub HasRunLabels : Run → View → Type 0
HasRunLabels run g = ViewHasOnly (is_label_of run) g
