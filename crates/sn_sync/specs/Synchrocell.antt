-- A synchrocell as its callers see it.
use Rattle.std.specs.Prelude.{Bool, true, false, ◌||◌, List}
use Rattle.std.specs.List.{list_any}
use Rattle.sn_record.specs.LabelSet.{Labels}
use Rattle.sn_record.specs.Record.{Entries, is_match}
use Rattle.sn_net.specs.Cell.{CellState, Waiting, Passing, Reception, reception}

-- the patterns of a cell, and which records it holds
pub record Synchrocell : Type 0 where
  pub patterns : List Labels
  pub state : CellState

abbrev pub cell_of : List Labels → CellState → Synchrocell
cell_of patterns state = record { patterns = patterns; state = state }

-- whether a cell has joined its records
abbrev pub has_joined : CellState → Bool
has_joined (Waiting slots) = false
has_joined Passing = true

-- whether a record may be offered to the cell: it has joined, or the record matches one of its patterns
abbrev pub accepts : Synchrocell → Entries → Bool
accepts cell r = has_joined cell.state || list_any (is_match r) cell.patterns

-- what becomes of a record that is offered to the cell
abbrev pub received : Synchrocell → Entries → Reception
received cell r = reception cell.patterns cell.state r
