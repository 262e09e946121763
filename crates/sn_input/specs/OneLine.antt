-- What one line gives to names that are there, whatever else its file has.
use Rattle.std.specs.Prelude.{◌≡◌, ◌<◌, ◌≤◌, ℕ, false, IsTrue, List, length, Option, Some, None, Result, Ok, Err}
use Rattle.sn_record.specs.Record.{Entries}
use Rattle.sn_record_parser.specs.declared.entry.WrittenLabel.{WrittenLabel}
use Rattle.sn_record_parser.specs.declared.entry.Entry.{Entry}
use Rattle.sn_input.specs.declared.input.RecordFault.{RecordFault}
use Rattle.sn_input.specs.declared.input.RecordFault.TheVariants.{BadLine, Twice, TooManyNames}
use Rattle.sn_input.specs.Line.{is_blank_line, SpellsLine}
use Rattle.sn_input.specs.Numbered.{with_entries, record_of, repeated}
use Rattle.sn_input.specs.Reading.{most_names}

-- a record, or none, and the names behind the line
abbrev pub Found : Type 0
Found = Option Entries × List (List ℕ)

-- A blank line gives nothing, and another one a record whose new names stand behind the others; or it is refused.
pub data GivesLine (names : List (List ℕ)) (line : List ℕ) : Result Found RecordFault → Type 0 where
  blank : IsTrue (is_blank_line line) → GivesLine names line (Ok (None, names))
  taken : {entries : List Entry} → SpellsLine line entries → repeated entries ≡ None → length (with_entries names entries) ≤ most_names → GivesLine names line (Ok (Some (record_of (with_entries names entries) entries), with_entries names entries))
  bad_line : is_blank_line line ≡ false → ((entries : List Entry) → ¬ SpellsLine line entries) → GivesLine names line (Err BadLine)
  twice : {entries : List Entry} {label : WrittenLabel} → SpellsLine line entries → repeated entries ≡ Some label → GivesLine names line (Err (Twice label.kind label.name))
  too_many_names : {entries : List Entry} → SpellsLine line entries → repeated entries ≡ None → most_names < length (with_entries names entries) → GivesLine names line (Err TooManyNames)
