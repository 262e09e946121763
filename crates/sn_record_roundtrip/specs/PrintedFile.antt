-- The record file that printed records are, and what it gives.
use Rattle.std.specs.Prelude.{ℕ, List, length}
use Rattle.std.specs.List.{flat_map, range_with_len}
use Rattle.sn_record.specs.Record.{Entries}
use Rattle.sn_input.specs.declared.input.Input.{Input}
use Rattle.sn_output.specs.Line.{line}

-- the lines of the records, one after another
abbrev pub printed_file : List (List ℕ) → List Entries → List ℕ
printed_file names records = flat_map (line names) records

-- the records in order, on the lines 1, 2 and so on, and the names as they are
abbrev pub line_by_line : List (List ℕ) → List Entries → Input
line_by_line names records = record { records = records; lines = range_with_len 1 (length records); names = names }
