-- By which a proof tells two synchrocells apart.
use Rattle.std.specs.Prelude.{◌≡◌, List, Option, None, Some, refl}
use Rattle.std.specs.Coded.{Coded, code_by, coded×, coded_list, coded_option}
use Rattle.sn_record.specs.LabelSet.{Labels}
use Rattle.sn_record.specs.contracts.label_set.LabelSet as labels
use Rattle.sn_record.specs.contracts.record.Record as entries
use Rattle.sn_net.specs.Cell.{CellState, Waiting, Passing, Slots}
use Rattle.sn_sync.specs.Synchrocell.{Synchrocell, cell_of}

-- the slots of a cell that waits
abbrev pub waiting_slots : CellState → Option Slots
waiting_slots (Waiting slots) = Some slots
waiting_slots Passing = None

-- the state with these slots, or that of a cell that has joined
abbrev pub state_with : Option Slots → CellState
state_with (Some slots) = Waiting slots
state_with None = Passing

-- a state has the slots that it gives
pub same_state : (state : CellState) → state_with (waiting_slots state) ≡ state
same_state (Waiting slots) = refl
same_state Passing = refl

-- a state is stored as its slots, if it has any
abbrev pub state_code : Coded CellState
state_code = code_by (Option Slots) (coded_option (coded_list (coded_option entries.the_row.coded))) waiting_slots state_with same_state

-- a cell is stored as its patterns and its state
abbrev pub synchrocell_code : Coded Synchrocell
synchrocell_code =
    code_by (List Labels × CellState) (coded× (coded_list labels.the_row.coded) state_code)
    (λ cell. (cell.patterns, cell.state)) (λ parts. cell_of parts.0 parts.1) (λ cell. refl)
