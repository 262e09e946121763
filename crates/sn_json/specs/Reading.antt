-- What record a value of JSON is, or why it is none.
use Rattle.std.specs.Prelude.{◌≡◌, ℕ, ℤ, Bool, true, false, ◌&&◌, List, [], ◌∷◌, length, nat_le, Option, None, Some, Result, Ok, Err, if◌then◌else◌}
use Rattle.sn_record.specs.declared.label.Kind.{Kind}
use Rattle.sn_record.specs.declared.label.Kind.TheVariants.{Field, Tag}
use Rattle.sn_record.specs.declared.value.Value.{Value}
use Rattle.sn_record.specs.declared.value.Value.TheVariants as value
use Rattle.sn_record.specs.declared.value.Value.TheOpen.{Value-F}
use Rattle.sn_record.specs.declared.value.Value.TheViews.{out-Value}
use Rattle.sn_record.specs.Value.{is_printable, is_printable_text, nesting, weight}
use Rattle.sn_record_parser.specs.declared.entry.WrittenLabel.{WrittenLabel}
use Rattle.sn_record_parser.specs.declared.entry.Entry.{Entry}
use Rattle.serde_json.specs.Data.{Data, null, boolean, number, string, array, object, Items, no_items, item, Members, no_members, member}
use Rattle.serde_json.specs.Find.{as_i64}
use Rattle.sn_json.specs.declared.fault.Reason.{Reason}
use Rattle.sn_json.specs.declared.fault.Reason.TheVariants as reason
use Rattle.sn_json.specs.declared.fault.JsonFault.{JsonFault}
use Rattle.sn_json.specs.declared.fault.JsonFault.TheVariants as fault
use Rattle.sn_json.specs.declared.fault.ValueFault.{ValueFault}
use Rattle.sn_json.specs.declared.fault.ValueFault.TheVariants as stop
use Rattle.sn_json.specs.Keys.{label_of}

abbrev pub integer : Option ℤ → Result Value Reason
integer None = Err reason.Number
integer (Some n) = Ok (value.Int n)

-- a text that a record may have
abbrev pub is_text : List ℕ → Bool
is_text text = is_printable_text text && nat_le (length text) 65535

abbrev pub text_of : List ℕ → Result Value Reason
text_of text = if is_text text then Ok (value.Text text) else Err reason.Text

-- a value before others: the first reason decides
abbrev pub then_values : Result Value Reason → Result (List Value) Reason → Result (List Value) Reason
then_values (Err why) more = Err why
then_values (Ok v) (Err why) = Err why
then_values (Ok v) (Ok vs) = Ok (v ∷ vs)

abbrev pub listed : Result (List Value) Reason → Result Value Reason
listed (Err why) = Err why
listed (Ok vs) = Ok (value.List vs)

-- the value that JSON is
abbrev mutual
  pub value_of : Data → Result Value Reason
  value_of null = Err reason.Null
  value_of (boolean b) = Err reason.Boolean
  value_of (number n) = integer (as_i64 n)
  value_of (string text) = text_of text
  value_of (array ds) = listed (values_of ds)
  value_of (object ms) = Err reason.Object

  pub values_of : Items → Result (List Value) Reason
  values_of no_items = Ok []
  values_of (item d ds) = then_values (value_of d) (values_of ds)

-- what a fault says of what was to be read; want of memory says nothing
abbrev pub WhyNot : {A : Type 0} → Result A Reason → ValueFault → Type 0
WhyNot outcome (stop.Because why) = outcome ≡ Err why
WhyNot outcome stop.Memory = Unit {0}

-- what a record may hold: the test of `IsSound`
abbrev pub is_sound : Value → Bool
is_sound v = nat_le (nesting v) 32 && nat_le (weight v) 65536 && is_printable v

abbrev pub is_int : {A : Type 0} → Value-F A → Bool
is_int (Value-F.Int n) = true
is_int (Value-F.Text text) = false
is_int (Value-F.List vs) = false

-- whether a value of this form may stand at a label of the kind
abbrev pub is_at_kind : Kind → Value → Bool
is_at_kind Field v = true
is_at_kind Tag v = is_int (out-Value v)

-- the entry of a sound value that suits its label
abbrev pub suited : List ℕ → WrittenLabel → Value → Result Entry JsonFault
suited key label v =
    if is_sound v
    then (if is_at_kind label.kind v then Ok (record { label = label; value = v }) else Err (fault.Value key reason.Tag))
    else Err (fault.Value key reason.TooLarge)

abbrev pub entry_of : List ℕ → Option WrittenLabel → Result Value Reason → Result Entry JsonFault
entry_of key None v = Err (fault.Key key)
entry_of key (Some label) (Err why) = Err (fault.Value key why)
entry_of key (Some label) (Ok v) = suited key label v

abbrev pub then_entries : Result Entry JsonFault → Result (List Entry) JsonFault → Result (List Entry) JsonFault
then_entries (Err why) more = Err why
then_entries (Ok e) (Err why) = Err why
then_entries (Ok e) (Ok es) = Ok (e ∷ es)

-- the entries that the members are, in their order, or why the first that is none is none
abbrev pub entries_in : Members → Result (List Entry) JsonFault
entries_in no_members = Ok []
entries_in (member key d ms) = then_entries (entry_of key (label_of key) (value_of d)) (entries_in ms)

-- the entries of the record that JSON is
abbrev pub entries_of : Data → Result (List Entry) JsonFault
entries_of null = Err fault.NoObject
entries_of (boolean b) = Err fault.NoObject
entries_of (number n) = Err fault.NoObject
entries_of (string text) = Err fault.NoObject
entries_of (array ds) = Err fault.NoObject
entries_of (object ms) = entries_in ms
