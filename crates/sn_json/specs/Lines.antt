-- Lines of records and of JSON, and what each is as the other.
use Rattle.std.specs.Prelude.{◌≡◌, ◌<◌, ◌≤◌, ℕ, List, [], ◌++◌, codes, length, Some, None, Result, Ok, Err, IsUtf8}
use Rattle.sn_record.specs.Record.{Entries}
use Rattle.sn_record_parser.specs.declared.entry.Entry.{Entry}
use Rattle.sn_input.specs.Numbered.{record_of, with_entries}
use Rattle.sn_input.specs.Reading.{most_names}
use Rattle.sn_output.specs.Line.{line}
use Rattle.serde_json.specs.Data.{Data}
use Rattle.serde_json.specs.Read.{read}
use Rattle.serde_json.specs.Written.{compact_text}
use Rattle.sn_json.specs.declared.fault.JsonFault.{JsonFault}
use Rattle.sn_json.specs.declared.fault.JsonFault.TheVariants.{NoJson, TooManyNames}
use Rattle.sn_json.specs.Reading.{entries_of}
use Rattle.sn_json.specs.Writing.{json_of}

-- the line of JSON that a record is
abbrev pub json_line : List (List ℕ) → Entries → List ℕ
json_line names r = compact_text (json_of names r) ++ codes "\n"

-- the text of a record's JSON reads as that JSON
abbrev pub IsReadBack : List (List ℕ) → Entries → Type 0
IsReadBack names r = read (compact_text (json_of names r)) ≡ Some (json_of names r)

-- the printed line of the record that entries are
abbrev pub line_of_entries : List Entry → List ℕ
line_of_entries entries = line (with_entries [] entries) (record_of (with_entries [] entries) entries)

-- the printed line of the record that a text is as JSON, or why it is none
pub data Converts (text : List ℕ) : Result (List ℕ) JsonFault → Type 0 where
  no_text : ¬ IsUtf8 text → Converts text (Err NoJson)
  no_json : read text ≡ None → Converts text (Err NoJson)
  no_record : {d : Data} {fault : JsonFault} → read text ≡ Some d → entries_of d ≡ Err fault → Converts text (Err fault)
  many_names : {d : Data} {entries : List Entry} → read text ≡ Some d → entries_of d ≡ Ok entries → most_names < length (with_entries [] entries) → Converts text (Err TooManyNames)
  converted : {d : Data} {entries : List Entry} → read text ≡ Some d → entries_of d ≡ Ok entries → length (with_entries [] entries) ≤ most_names → Converts text (Ok (line_of_entries entries))
