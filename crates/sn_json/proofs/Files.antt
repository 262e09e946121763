-- Records that are read from a file may be written.
use Rattle.std.proofs.Common.{◌≡◌, ◌<◌, ℕ, zero, suc, Bool, true, false, ◌||◌, IsTrue, List, [], ◌∷◌, ◌++◌, length, map, Result, Ok, Err, refl, sym, ap, subst, arith}
use Rattle.std.specs.List.{All}
use Rattle.std.specs.Str.{bytes_eq, chars}
use Rattle.std.proofs.lemmas.List.{length-append}
use Rattle.std.proofs.lemmas.List.Elements.{All-nil, All-head, All-tail, All-cons, All-push}
use Rattle.sn_record.specs.declared.label.Label.{Label}
use Rattle.sn_record.specs.Record.{Entries}
use Rattle.sn_names.specs.Names.{IsHeld, is_held, name_at, numbered, place_of}
use Rattle.sn_names.proofs.NamesLaws.{all_added, all_entered_is, is_held-each, same_as_itself}
use Rattle.sn_record_parser.specs.declared.entry.Entry.{Entry}
use Rattle.sn_input.specs.declared.input.Input.{Input}
use Rattle.sn_input.specs.declared.input.InputFault.{InputFault}
use Rattle.sn_input.specs.Numbered.{record_of, with_entries}
use Rattle.sn_input.specs.Reading.{IsTaken, Reads, ReadsFile, with_record}
use Rattle.sn_input.specs.Reading.Reads.{end, blank, taken, refused}
use Rattle.sn_record_roundtrip.specs.Writable.{HasName, IsWritable, SpellsLabel}
use Rattle.sn_record_roundtrip.proofs.Spelled.{line_writable}

kept_name : (names rest : List (List ℕ)) (i : ℕ) → i < length names → name_at (names ++ rest) i ≡ name_at names i
kept_name [] rest i within = absurd (omega arith)
kept_name (n ∷ names) rest zero within = refl
kept_name (n ∷ names) rest (suc i) within = kept_name names rest i (omega arith)

held_stays : (names rest : List (List ℕ)) (id : ℕ) → IsHeld names id → IsHeld (names ++ rest) id
held_stays names rest id held = record {
  within = omega (arith, held.within, length-append names rest);
  number = subst (λ n. numbered n (place_of id) ≡ id) (sym (kept_name names rest (place_of id) held.within)) held.number;
}

name_stays : (names rest : List (List ℕ)) (l : Label) → HasName names l → HasName (names ++ rest) l
name_stays names rest l named = record {
  held = held_stays names rest l.id named.held;
  word = named.word;
  spelled = subst (SpellsLabel l.kind named.word) (sym (kept_name names rest (place_of l.id) named.held.within)) named.spelled;
}

stays : (names rest : List (List ℕ)) (r : Entries) → IsWritable names r → IsWritable (names ++ rest) r
stays names rest r writable = record { sound = writable.sound; bounded = writable.bounded; named = λ l there. name_stays names rest l (writable.named l there) }

all_stay : (names rest : List (List ℕ)) (rs : List Entries) → All (IsWritable names) rs → All (IsWritable (names ++ rest)) rs
all_stay names rest [] all = All-nil (IsWritable (names ++ rest))
all_stay names rest (r ∷ rs) all =
    All-cons (IsWritable (names ++ rest)) r rs (stays names rest r (All-head (IsWritable names) r rs all)) (all_stay names rest rs (All-tail (IsWritable names) r rs all))

-- each name of entries is held once they are entered
abbrev names_of : List Entry → List (List ℕ)
names_of entries = map (λ (e : Entry). e.label.name) entries

either : (a b : Bool) → b ≡ true → (a || b) ≡ true
either true b held = refl
either false b held = held

all_held : (es : List Entry) → All (λ (e : Entry). is_held (names_of es) e.label.name ≡ true) es
all_held [] = All-nil _
all_held (e ∷ es) =
    All-cons (λ (x : Entry). is_held (e.label.name ∷ names_of es) x.label.name ≡ true) e es
    (ap (λ b. b || is_held (names_of es) e.label.name) (same_as_itself e.label.name))
    (λ k d within. either (bytes_eq e.label.name _) _ (all_held es k d within))

entered_held : (names : List (List ℕ)) (es : List Entry) → All (λ (e : Entry). IsTrue (is_held (with_entries names es) e.label.name)) es
entered_held names es = λ k d within. is_held-each names (names_of es) _ (all_held es k d within)

-- a line that is taken leaves records that may be written
taken_writable : (input : Input) (n : ℕ) (line : List ℕ) (entries : List Entry) → IsTaken input n line entries → All (IsWritable input.names) input.records
    → All (IsWritable (with_record input n entries).names) (with_record input n entries).records
taken_writable input n line entries is all =
    let names = with_entries input.names entries in
    let older = subst (λ t. All (IsWritable t) input.records) (sym (all_entered_is input.names (names_of entries))) (all_stay input.names (all_added input.names (names_of entries)) input.records all) in
    All-push (IsWritable names) input.records (record_of names entries) older
    (line_writable names (chars line) is.spelled.tokens entries is.spelled.scanned is.spelled.parsed (entered_held input.names entries))

got : Result Input InputFault → Input → Input
got (Ok input) other = input
got (Err fault) other = other

no_input : (fault : InputFault) (input : Input) → Err fault ≡ Ok input → ⊥
no_input fault input e = cc

reads_writable : {n : ℕ} {input : Input} {lines : List (List ℕ)} {result : Result Input InputFault} → Reads n input lines result → (out : Input) → result ≡ Ok out
    → All (IsWritable input.names) input.records → All (IsWritable out.names) out.records
unfolding got
reads_writable {input = input} end out e all = subst (λ (t : Input). All (IsWritable t.names) t.records) (ap (λ r. got r input) e) all
reads_writable (blank is more) out e all = reads_writable more out e all
reads_writable {n = n} {input = input} (taken {line = line} {entries = entries} is more) out e all = reads_writable more out e (taken_writable input n line entries is all)
reads_writable (refused {fault = fault} is) out e all = absurd (no_input fault out e)

pub file_writable : (bytes : List ℕ) (input : Input) → ReadsFile [] bytes (Ok input) → All (IsWritable input.names) input.records
file_writable bytes input reads = reads_writable reads input refl (All-nil (IsWritable []))
