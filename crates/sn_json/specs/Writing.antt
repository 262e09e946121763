-- The JSON that a record is.
use Rattle.std.specs.Prelude.{ℕ, List, [], ◌∷◌}
use Rattle.std.specs.FinMap.{entries}
use Rattle.sn_record.specs.declared.label.Label.{Label}
use Rattle.sn_record.specs.declared.value.Value.{Value, fold-Value}
use Rattle.sn_record.specs.declared.value.Value.TheOpen.{Value-F}
use Rattle.sn_record.specs.Record.{Entries}
use Rattle.sn_output.specs.Types.{label_text}
use Rattle.serde_json.specs.Data.{Data, number, string, array, object, Members, no_members, put}
use Rattle.serde_json.specs.Find.{of_integer}
use Rattle.serde_json.specs.View.{items_of}

-- one level of a value, with each element as its JSON
abbrev pub data_step : Value-F Data → Data
data_step (Value-F.Int n) = number (of_integer n)
data_step (Value-F.Text text) = string text
data_step (Value-F.List values) = array (items_of values)

abbrev pub data_of : Value → Data
data_of = fold-Value Data data_step

-- a member for each entry: its label as it is printed, and its value
abbrev pub members_of : List (List ℕ) → List (Label × Value) → Members
members_of names [] = no_members
members_of names (e ∷ es) = put (label_text names e.0) (data_of e.1) (members_of names es)

-- the object that the record is, with the names of its labels
abbrev pub json_of : List (List ℕ) → Entries → Data
json_of names r = object (members_of names (entries r))
