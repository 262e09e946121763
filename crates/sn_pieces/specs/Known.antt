-- Labels and records that names know.
use Rattle.std.specs.Prelude.{ℕ, Bool, ◌&&◌, ◌==◌, IsTrue, List, length, nat_lt}
use Rattle.std.specs.FinMap.{contains_key}
use Rattle.sn_record.specs.declared.label.Label.{Label}
use Rattle.sn_record.specs.Record.{Entries}
use Rattle.sn_names.specs.Names.{label_name, numbered, place_of}

-- whether the label's number is that of one of the names
abbrev pub is_known : List (List ℕ) → Label → Bool
is_known names l = nat_lt (place_of l.id) (length names) && numbered (label_name names l.id) (place_of l.id) == l.id

-- each label of the record is known
abbrev pub KnowsRecord : List (List ℕ) → Entries → Type 0
KnowsRecord names r = (l : Label) → IsTrue (contains_key r l) → IsTrue (is_known names l)
