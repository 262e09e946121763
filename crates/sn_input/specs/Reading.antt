-- What a record file gives, line by line, or the first refusal.
use Rattle.std.specs.Prelude.{◌≡◌, ◌<◌, ◌≤◌, ℕ, ◌+◌, false, IsTrue, List, [], ◌∷◌, ◌++◌, length, Some, None, Result, Ok, Err}
use Rattle.sn_record_parser.specs.declared.entry.WrittenLabel.{WrittenLabel}
use Rattle.sn_record_parser.specs.declared.entry.Entry.{Entry}
use Rattle.sn_input.specs.declared.input.Input.{Input}
use Rattle.sn_input.specs.declared.input.InputFault.{InputFault}
use Rattle.sn_input.specs.declared.input.InputFault.TheVariants.{BadLine, Twice, TooMany, TooManyNames}
use Rattle.sn_input.specs.Line.{lines_of, is_blank_line, SpellsLine}
use Rattle.sn_input.specs.Numbered.{with_entries, record_of, repeated}

-- how many records and names there may be
abbrev pub most_records : ℕ
most_records = 1048576

abbrev pub most_names : ℕ
most_names = 4096

-- what was read, with the record of one more line
abbrev pub with_record : Input → ℕ → List Entry → Input
with_record input n entries = record {
  records = input.records ++ record_of (with_entries input.names entries) entries ∷ [];
  lines = input.lines ++ n ∷ [];
  names = with_entries input.names entries;
}

-- the n-th line is a record, for which there is room
pub record IsTaken (input : Input) (n : ℕ) (line : List ℕ) (entries : List Entry) : Type 0 where
  pub spelled : SpellsLine line entries
  pub once : repeated entries ≡ None
  pub few : length input.records < most_records
  pub few_names : length (with_entries input.names entries) ≤ most_names

-- the n-th line is refused: it is no record, or has a label twice, or one record or one name is too many
pub data IsRefused (input : Input) (n : ℕ) (line : List ℕ) : InputFault → Type 0 where
  bad_line : is_blank_line line ≡ false → ((entries : List Entry) → ¬ SpellsLine line entries) → IsRefused input n line (BadLine n)
  twice : {entries : List Entry} {label : WrittenLabel} → SpellsLine line entries → repeated entries ≡ Some label → IsRefused input n line (Twice n label.kind label.name)
  too_many : {entries : List Entry} → SpellsLine line entries → repeated entries ≡ None → length input.records ≡ most_records → IsRefused input n line (TooMany n)
  too_many_names : {entries : List Entry} → SpellsLine line entries → repeated entries ≡ None → length input.records < most_records → most_names < length (with_entries input.names entries) → IsRefused input n line TooManyNames

-- what the lines from the n-th on add to what was read, or the first refusal
pub data Reads : ℕ → Input → List (List ℕ) → Result Input InputFault → Type 0 where
  end : {n : ℕ} {input : Input} → Reads n input [] (Ok input)
  blank : {n : ℕ} {input : Input} {line : List ℕ} {lines : List (List ℕ)} {result : Result Input InputFault} → IsTrue (is_blank_line line) → Reads (n + 1) input lines result → Reads n input (line ∷ lines) result
  taken : {n : ℕ} {input : Input} {line : List ℕ} {entries : List Entry} {lines : List (List ℕ)} {result : Result Input InputFault} → IsTaken input n line entries → Reads (n + 1) (with_record input n entries) lines result → Reads n input (line ∷ lines) result
  refused : {n : ℕ} {input : Input} {line : List ℕ} {lines : List (List ℕ)} {fault : InputFault} → IsRefused input n line fault → Reads n input (line ∷ lines) (Err fault)

-- before any line was read
abbrev pub unread : List (List ℕ) → Input
unread names = record { records = []; lines = []; names = names }

-- what the file gives to names that are there
abbrev pub ReadsFile : List (List ℕ) → List ℕ → Result Input InputFault → Type 0
ReadsFile names bytes result = Reads 1 (unread names) (lines_of bytes) result
