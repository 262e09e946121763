-- How a cell keeps its state.
use Rattle.std.specs.Prelude.{List, [], ◌∷◌, None, Some}
use Rattle.sn_record.specs.Record.{Entries}
use Rattle.sn_net.specs.Cell.{CellState, Waiting, Passing, Slots}
use Rattle.sn_sync.specs.declared.cell.State.{State}
use Rattle.sn_sync.specs.declared.cell.State.TheVariants as kept

-- the state that a cell keeps, as its callers see it
abbrev pub state_of : State → CellState
state_of (kept.Waiting slots) = Waiting slots.items
state_of kept.Passing = Passing

-- the records that are held, from left to right
abbrev pub held_records : Slots → List Entries
held_records [] = []
held_records (None ∷ slots) = held_records slots
held_records (Some held ∷ slots) = held ∷ held_records slots
