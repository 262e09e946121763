-- What the steps from a text of JSON to a line say of the whole.
use Rattle.std.proofs.Common.{◌≡◌, ◌<◌, ◌≤◌, ◌⊎◌, inl, inr, ℕ, List, [], length, Some, None, Result, Ok, Err, IfOk, IfErr, IsUtf8, false, sym, ap, ◌∙◌, subst}
use Rattle.sn_record.specs.Record.{Entries}
use Rattle.sn_record_parser.specs.declared.entry.Entry.{Entry}
use Rattle.sn_input.specs.Numbered.{with_entries}
use Rattle.sn_input.specs.Reading.{most_names}
use Rattle.sn_record_roundtrip.specs.Writable.{IsWritable}
use Rattle.serde_json.specs.Data.{Data, depth}
use Rattle.serde_json.specs.Read.{max_depth, read}
use Rattle.serde_json.specs.Written.{compact_text, has_float}
use Rattle.sn_json.specs.declared.fault.JsonFault.{JsonFault}
use Rattle.sn_json.specs.declared.fault.JsonFault.TheVariants.{Memory, NoJson, TooManyNames}
use Rattle.sn_json.specs.Lines.{Converts, IsReadBack, line_of_entries}
use Rattle.sn_json.specs.Lines.Converts.{no_text, no_json, no_record, many_names, converted}
use Rattle.sn_json.specs.Reading.{entries_of}
use Rattle.sn_json.specs.Writing.{json_of}
use Rattle.sn_json.proofs.Depths.{json_deep}
use Rattle.sn_json.proofs.Floats.{json_whole}

-- the text of a record's JSON
pub text_is : (d : Data) (text : List ℕ) (names : List (List ℕ)) (r : Entries) → (has_float d ≡ false → text ≡ compact_text d) → d ≡ json_of names r → text ≡ compact_text (json_of names r)
text_is d text names r written is = written (ap has_float is ∙ json_whole names r) ∙ ap compact_text is

pub read_back : (d : Data) (text : List ℕ) (names : List (List ℕ)) (r : Entries) → IsWritable names r → (has_float d ≡ false → text ≡ compact_text d) → (depth d ≤ max_depth → read text ≡ Some d)
    → d ≡ json_of names r → IsReadBack names r
read_back d text names r writable written reads is =
    let deep : depth d ≤ max_depth = subst (λ x. depth x ≤ max_depth) (sym is) (json_deep names r writable) in
    ap read (sym (text_is d text names r written is)) ∙ reads deep ∙ ap Some is

abbrev pub Ends : List ℕ → JsonFault → Type 0
Ends text fault = (fault ≡ Memory) ⊎ Converts text (Err fault)

pub json_refused : (text : List ℕ) (fault : JsonFault) → (fault ≡ Memory) ⊎ ((fault ≡ NoJson) × ((¬ IsUtf8 text) ⊎ (read text ≡ None))) → Ends text fault
json_refused text fault (inl memory) = inl memory
json_refused text fault (inr (is, inl bad)) = inr (subst (λ f. Converts text (Err f)) (sym is) (no_text bad))
json_refused text fault (inr (is, inr none)) = inr (subst (λ f. Converts text (Err f)) (sym is) (no_json none))

pub entries_refused : (text : List ℕ) (d : Data) (fault : JsonFault) → read text ≡ Some d → (fault ≡ Memory) ⊎ (entries_of d ≡ Err fault) → Ends text fault
entries_refused text d fault is (inl memory) = inl memory
entries_refused text d fault is (inr why) = inr (no_record is why)

pub line_converted : (text : List ℕ) (d : Data) (entries : List Entry) → read text ≡ Some d → entries_of d ≡ Ok entries → (result : Result (List ℕ) JsonFault)
    → IfOk result (λ line. line ≡ line_of_entries entries) → IfOk result (λ _. length (with_entries [] entries) ≤ most_names) → IfOk result (λ line. Converts text (Ok line))
line_converted text d entries is read_as (Ok line) made few = subst (λ t. Converts text (Ok t)) (sym made) (converted is read_as few)
line_converted text d entries is read_as (Err fault) made few = tt

pub names_refused : (text : List ℕ) (d : Data) (entries : List Entry) → read text ≡ Some d → entries_of d ≡ Ok entries → (result : Result (List ℕ) JsonFault)
    → IfErr result (λ fault. (fault ≡ Memory) ⊎ ((fault ≡ TooManyNames) × (most_names < length (with_entries [] entries)))) → IfErr result (Ends text)
names_refused text d entries is read_as (Ok line) refused = tt
names_refused text d entries is read_as (Err fault) (inl memory) = inl memory
names_refused text d entries is read_as (Err fault) (inr (many, more)) = inr (subst (λ f. Converts text (Err f)) (sym many) (many_names is read_as more))
