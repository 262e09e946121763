-- The record that the entries of a line stand for, with names as numbers.
use Rattle.std.specs.Prelude.{ℕ, Bool, true, false, ◌&&◌, List, [], ◌∷◌, ◌++◌, map, Option, Some, None, if◌then◌else◌}
use Rattle.std.specs.List.{list_any}
use Rattle.std.specs.FinMap.{from_entries}
use Rattle.std.specs.Str.{bytes_eq}
use Rattle.sn_record.specs.declared.label.Kind.{Kind}
use Rattle.sn_record.specs.declared.label.Kind.TheVariants.{Field, Tag}
use Rattle.sn_record.specs.declared.label.Label.{Label}
use Rattle.sn_record.specs.declared.value.Value.{Value}
use Rattle.sn_record.specs.Record.{Entries}
use Rattle.sn_names.specs.Names.{all_entered, label_number}
use Rattle.sn_record_parser.specs.declared.entry.WrittenLabel.{WrittenLabel}
use Rattle.sn_record_parser.specs.declared.entry.Entry.{Entry}

-- the names with those of the entries, new ones in the order in which they stand
abbrev pub with_entries : List (List ℕ) → List Entry → List (List ℕ)
with_entries names entries = all_entered names (map (λ e. e.label.name) entries)

abbrev pub label_in : List (List ℕ) → WrittenLabel → Label
label_in names label = record { kind = label.kind; id = label_number names label.name }

abbrev pub entry_in : List (List ℕ) → Entry → Label × Value
entry_in names entry = (label_in names entry.label, entry.value)

-- the record of the entries, where the names have theirs
abbrev pub record_of : List (List ℕ) → List Entry → Entries
record_of names entries = from_entries (map (entry_in names) entries)

abbrev pub same_kind : Kind → Kind → Bool
same_kind Field Field = true
same_kind Field Tag = false
same_kind Tag Field = false
same_kind Tag Tag = true

abbrev pub same_label : WrittenLabel → WrittenLabel → Bool
same_label l m = same_kind l.kind m.kind && bytes_eq l.name m.name

-- the first of the labels that is also among those before it, or among the earlier ones
abbrev pub first_repeat : List WrittenLabel → List WrittenLabel → Option WrittenLabel
first_repeat earlier [] = None
first_repeat earlier (label ∷ labels) = if list_any (same_label label) earlier then Some label else first_repeat (earlier ++ label ∷ []) labels

-- the first label that repeats an earlier one of the line
abbrev pub repeated : List Entry → Option WrittenLabel
repeated entries = first_repeat [] (map (λ e. e.label) entries)
