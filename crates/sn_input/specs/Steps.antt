-- What one line does to what was read before it.
use Rattle.std.specs.Prelude.{◌≡◌, ◌<◌, ◌≤◌, ℕ, ◌+◌, ◌↔◌, ◌⊎◌, Bool, true, false, List, [], ◌∷◌, ◌++◌, length, Some, Result, Err}
use Rattle.sn_record.specs.Record.{Entries, FitsLabel}
use Rattle.sn_record_parser.specs.declared.entry.WrittenLabel.{WrittenLabel}
use Rattle.sn_record_parser.specs.declared.entry.Entry.{Entry}
use Rattle.sn_input.specs.declared.input.Input.{Input}
use Rattle.sn_input.specs.declared.input.InputFault.{InputFault}
use Rattle.sn_input.specs.declared.input.InputFault.TheVariants.{BadLine, Twice, TooMany, Memory, TooManyNames}
use Rattle.sn_input.specs.declared.input.RecordFault.{RecordFault}
use Rattle.sn_input.specs.declared.input.RecordFault.TheVariants as one
use Rattle.sn_input.specs.Line.{SpellsLine}
use Rattle.sn_input.specs.Numbered.{with_entries, repeated}
use Rattle.sn_input.specs.Reading.{most_records, most_names, Reads}

-- the line spells these entries, and no others
pub record SpellsOnly (line : List ℕ) (entries : List Entry) : Type 0 where
  pub spelled : SpellsLine line entries
  pub only : (others : List Entry) → SpellsLine line others → others ≡ entries

-- the value may stand at the label, whatever number its name has
abbrev pub Fits : Entry → Type 0
Fits e = (id : ℕ) → FitsLabel (record { kind = e.label.kind; id = id }) e.value

-- a label repeats an earlier one, which refuses the line
pub data Repeats (entries : List Entry) : RecordFault → Type 0 where
  repeats : {label : WrittenLabel} → repeated entries ≡ Some label → Repeats entries (one.Twice label.kind label.name)

-- so it refuses the n-th line of a file
pub data IsTwice (n : ℕ) (entries : List Entry) : InputFault → Type 0 where
  twice : {label : WrittenLabel} → repeated entries ≡ Some label → IsTwice n entries (Twice n label.kind label.name)

-- there is room for the record of the entries, and for their names
pub record HasRoom (input : Input) (entries : List Entry) : Type 0 where
  pub few : length input.records < most_records
  pub few_names : length (with_entries input.names entries) ≤ most_names

-- want of memory, or the names are too many
abbrev pub LacksNames : List (List ℕ) → InputFault → Type 0
LacksNames names fault = (fault ≡ Memory) ⊎ ((fault ≡ TooManyNames) × (most_names < length names))

-- one record or one name is too many
pub data LacksRoom (input : Input) (n : ℕ) (entries : List Entry) : InputFault → Type 0 where
  records : length input.records ≡ most_records → LacksRoom input n entries (TooMany n)
  names : length input.records < most_records → most_names < length (with_entries input.names entries) → LacksRoom input n entries TooManyNames

-- what is read from the line on is what is read after it
abbrev pub GoesOn : Input → ℕ → List ℕ → Input → Type 0
GoesOn input n line next = (lines : List (List ℕ)) (result : Result Input InputFault) → Reads n input (line ∷ lines) result ↔ Reads (n + 1) next lines result

-- what is read from the line on is the refusal
abbrev pub EndsWith : Input → ℕ → List ℕ → InputFault → Type 0
EndsWith input n line fault = (lines : List (List ℕ)) (result : Result Input InputFault) → Reads n input (line ∷ lines) result ↔ (result ≡ Err fault)

-- the n-th line added its record, for which there was room
pub record Adds (old : Input) (n : ℕ) (r : Entries) (new : Input) : Type 0 where
  pub few : length old.records < most_records
  pub records : new.records ≡ old.records ++ r ∷ []
  pub lines : new.lines ≡ old.lines ++ n ∷ []
  pub names : new.names ≡ old.names

-- the refusal of the n-th line, where it has this fault; a record too many comes before names too many
abbrev pub told : ℕ → RecordFault → Bool → InputFault
told n one.BadLine full = BadLine n
told n (one.Twice kind name) full = Twice n kind name
told n one.TooManyNames true = TooMany n
told n one.TooManyNames false = TooManyNames
told n one.Memory full = Memory
