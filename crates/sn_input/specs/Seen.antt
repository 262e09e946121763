-- The labels that have come, by the tables of their names.
use Rattle.std.specs.Prelude.{ℕ, Bool, List}
use Rattle.sn_record.specs.declared.label.Kind.{Kind}
use Rattle.sn_record.specs.declared.label.Kind.TheVariants.{Field, Tag}
use Rattle.sn_names.specs.Names.{is_held}
use Rattle.sn_record_parser.specs.declared.entry.WrittenLabel.{WrittenLabel}
use Rattle.sn_input.specs.declared.repeats.Seen.{Seen}

abbrev pub names_of : Seen → Kind → List (List ℕ)
names_of seen Field = seen.fields
names_of seen Tag = seen.tags

abbrev pub has_seen : Seen → WrittenLabel → Bool
has_seen seen label = is_held (names_of seen label.kind) label.name
