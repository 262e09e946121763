-- Values and entries read one after another, and the first that stops them.
use Rattle.std.proofs.Common.{◌≡◌, List, [], ◌∷◌, ◌++◌, append_assoc, Result, Ok, Err, String, Global, string_bytes, refl, sym, ap, ◌∙◌}
use Rattle.sn_record.specs.declared.value.Value.{Value}
use Rattle.sn_record_parser.specs.declared.entry.Entry.{Entry}
use Rattle.serde_json.specs.View.{members_view, view}
use Rattle.serde_json.specs.declared.value.Value.{Value as Json}
use Rattle.sn_json.specs.declared.fault.Reason.{Reason}
use Rattle.sn_json.specs.declared.fault.JsonFault.{JsonFault}
use Rattle.sn_json.specs.Keys.{label_of}
use Rattle.sn_json.specs.Reading.{entries_in, entry_of, then_entries, then_values, value_of}

-- what comes behind others
abbrev pub behind : {A E : Type 0} → List A → Result (List A) E → Result (List A) E
behind done (Ok more) = Ok (done ++ more)
behind done (Err why) = Err why

pub behind_none : {A E : Type 0} (more : Result (List A) E) → more ≡ behind [] more
behind_none (Ok more) = refl
behind_none (Err why) = refl

pub value_behind : (done : List Value) (v : Value) (more : Result (List Value) Reason) → behind done (then_values (Ok v) more) ≡ behind (done ++ v ∷ []) more
value_behind done v (Ok more) = ap Ok (sym (append_assoc done (v ∷ []) more))
value_behind done v (Err why) = refl

pub entry_behind : (done : List Entry) (e : Entry) (more : Result (List Entry) JsonFault) → behind done (then_entries (Ok e) more) ≡ behind (done ++ e ∷ []) more
entry_behind done e (Ok more) = ap Ok (sym (append_assoc done (e ∷ []) more))
entry_behind done e (Err why) = refl

-- what is left, where the next member is an entry
pub entry_read : (whole : Result (List Entry) JsonFault) (done : List Entry) (left rest : List (String Global × Json)) (k : String Global) (j : Json) (e : Entry)
    → whole ≡ behind done (entries_in (members_view left)) → left ≡ (k, j) ∷ rest → entry_of (string_bytes k) (label_of (string_bytes k)) (value_of (view j)) ≡ Ok e
    → whole ≡ behind (done ++ e ∷ []) (entries_in (members_view rest))
entry_read whole done left rest k j e so_far next is =
    so_far
    ∙ ap (λ ms. behind done (entries_in (members_view ms))) next
    ∙ ap (λ first. behind done (then_entries first (entries_in (members_view rest)))) is
    ∙ entry_behind done e _
