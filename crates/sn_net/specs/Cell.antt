-- Synchrocells: which records they hold, and what becomes of a record that comes.
use Rattle.std.specs.Prelude.{ℕ, if◌then◌else◌, List, [], ◌∷◌, map, Option, None, Some}
use Rattle.std.specs.List.{list_any}
use Rattle.std.specs.Option.{option_map}
use Rattle.std.specs.FinMap.{empty}
use Rattle.sn_record.specs.LabelSet.{Labels}
use Rattle.sn_record.specs.Record.{Entries, is_match, overlay}
use Rattle.sn_net.specs.Item.{ModelItem, Rec, Fault, Stuck}

-- A slot for each pattern, which holds a record or is empty.
abbrev pub Slots : Type 0
Slots = List (Option Entries)

-- A cell waits until all its slots are filled. Then it lets pass whatever comes.
pub data CellState : Type 0 where
  Waiting : (slots : Slots) → CellState
  Passing : CellState

-- a cell to which nothing came yet
abbrev pub new_cell : List Labels → CellState
new_cell patterns = Waiting (map (λ pattern. None) patterns)

-- the slots with the record in the leftmost empty one whose pattern it matches, if there is such a one
abbrev pub with_record : List Labels → Slots → Entries → Option Slots
with_record (pattern ∷ patterns) (None ∷ slots) r =
    if is_match r pattern then Some (Some r ∷ slots) else option_map (λ others. None ∷ others) (with_record patterns slots r)
with_record (pattern ∷ patterns) (Some held ∷ slots) r = option_map (λ others. Some held ∷ others) (with_record patterns slots r)
with_record patterns slots r = None

-- the records that are held, if no slot is empty
abbrev pub all_held : Slots → Option (List Entries)
all_held [] = Some []
all_held (None ∷ slots) = None
all_held (Some held ∷ slots) = option_map (λ records. held ∷ records) (all_held slots)

-- what the records have together: at a label that several have, the value of the leftmost of them
abbrev pub union : List Entries → Entries
union [] = empty
union (r ∷ records) = overlay r (union records)

-- What becomes of a record: a slot holds it; or it fills the last empty slot, and the records are joined to one; or it passes;
-- or it matches no pattern.
pub data Reception : Type 0 where
  Held : (slots : Slots) → Reception
  Joined : (both : Entries) → Reception
  Passed : Reception
  Unmatched : Reception

-- whether the slots that are filled now are all
abbrev pub held_or_joined : Slots → Option (List Entries) → Reception
held_or_joined slots None = Held slots
held_or_joined slots (Some records) = Joined (union records)

-- whether there was an empty slot for the record. If not, it passes where it matches a pattern
abbrev pub placed : List Labels → Entries → Option Slots → Reception
placed patterns r (Some slots) = held_or_joined slots (all_held slots)
placed patterns r None = if list_any (is_match r) patterns then Passed else Unmatched

-- what becomes of a record that comes to a cell with these patterns, in this state
abbrev pub reception : List Labels → CellState → Entries → Reception
reception patterns (Waiting slots) r = placed patterns r (with_record patterns slots r)
reception patterns Passing r = Passed

-- the state of the cell then
abbrev pub state_then : CellState → Reception → CellState
state_then state (Held slots) = Waiting slots
state_then state (Joined both) = Passing
state_then state Passed = state
state_then state Unmatched = state

-- what the cell, which stands at a place in the source, emits then for the record
abbrev pub emitted_then : ℕ → Entries → Reception → List ModelItem
emitted_then place r (Held slots) = []
emitted_then place r (Joined both) = Rec both ∷ []
emitted_then place r Passed = Rec r ∷ []
emitted_then place r Unmatched = Stuck place ∷ []

-- the step of a cell on an item. What is no record passes, and changes nothing
abbrev pub cell_next : List Labels → CellState → ModelItem → CellState
cell_next patterns state (Rec r) = state_then state (reception patterns state r)
cell_next patterns state (Fault fault) = state
cell_next patterns state (Stuck place) = state

abbrev pub cell_emits : ℕ → List Labels → CellState → ModelItem → List ModelItem
cell_emits place patterns state (Rec r) = emitted_then place r (reception patterns state r)
cell_emits place patterns state (Fault fault) = Fault fault ∷ []
cell_emits place patterns state (Stuck at) = Stuck at ∷ []
