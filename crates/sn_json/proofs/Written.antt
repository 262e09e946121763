-- Records as JSON: texts are UTF-8, and a value's levels are those of its JSON.
use Rattle.std.proofs.Common.{◌≡◌, ◌<◌, ◌-◌, ◌&&◌, ℕ, zero, suc, drop, inl, inr, None, ℤ, true, List, [], ◌∷◌, get_or, length, map, refl, sym, ap, ◌∙◌, subst, slice_get, arith, IsUtf8, Option, Some, IfSome}
use Rattle.std.specs.FinMap as finite
use Rattle.std.specs.List.{list_all}
use Rattle.std.specs.Option.{is_some}
use Rattle.std.proofs.Math.Seq.{drop-cons}
use Rattle.std.proofs.lemmas.Bool.{and_parts}
use Rattle.std.proofs.lemmas.Option.{get_or_from_slice_get, slice_get_cases}
use Rattle.sn_record.specs.declared.label.Kind.{Kind}
use Rattle.sn_record.specs.declared.label.Kind.TheVariants.{Field, Tag}
use Rattle.sn_record.specs.declared.label.Label.{Label}
use Rattle.sn_record.specs.declared.value.Value.{Value}
use Rattle.sn_record.specs.declared.value.Value.TheOpen.{Value-F}
use Rattle.sn_record.specs.declared.value.Value.TheFolds.{fold-roll-Value}
use Rattle.sn_record.specs.declared.value.Value.TheVariants.{Int, Text, List as Many, rolls-Int, rolls-Text, rolls-List}
use Rattle.sn_record.specs.Record.{Entries, FitsLabel}
use Rattle.sn_record.specs.Value.{every, is_printable_text, is_printable as is_printable_value}
use Rattle.sn_record.proofs.Maps.{get-slice_get}
use Rattle.sn_record.proofs.Values.{is_printable-List, is_printable-Text}
use Rattle.sn_lexer.specs.Spelling.{is_printable}
use Rattle.sn_names.specs.Names.{label_name}
use Rattle.sn_output.specs.Line.{printed_label}
use Rattle.sn_output.specs.Types.{label_text}
use Rattle.sn_record_roundtrip.specs.Writable.{HasName, IsWritable}
use Rattle.sn_record_roundtrip.proofs.Characters.{inline_scalars, printable_bytes, printable_inline}
use Rattle.sn_record_roundtrip.proofs.Readings.{Reads}
use Rattle.sn_record_roundtrip.proofs.Words.{name_reads, tag_reads}
use Rattle.serde_json.specs.Data.{Data, number, string, array, Members, put}
use Rattle.serde_json.specs.Find.{of_integer}
use Rattle.serde_json.specs.View.{items_of}
use Rattle.sn_json.specs.Writing.{data_of, data_step, members_of}

pub data_of-Int : (n : ℤ) → data_of (Int n) ≡ number (of_integer n)
data_of-Int n = ap data_of (sym (rolls-Int n)) ∙ fold-roll-Value Data data_step (Value-F.Int n)

pub data_of-Text : (t : List ℕ) → data_of (Text t) ≡ string t
data_of-Text t = ap data_of (sym (rolls-Text t)) ∙ fold-roll-Value Data data_step (Value-F.Text t)

pub data_of-List : (vs : List Value) → data_of (Many vs) ≡ array (items_of (map data_of vs))
data_of-List vs = ap data_of (sym (rolls-List vs)) ∙ fold-roll-Value Data data_step (Value-F.List vs)

each_printable : (t : List ℕ) → is_printable_text t ≡ list_all is_printable t
each_printable [] = refl
each_printable (c ∷ cs) = ap (λ more. is_printable c && more) (each_printable cs)

-- a printable text is UTF-8
pub text_utf8 : (t : List ℕ) → is_printable_text t ≡ true → IsUtf8 t
text_utf8 t printable =
    let each = sym (each_printable t) ∙ printable in
    (t, (inline_scalars t (printable_inline t each), printable_bytes t each))

pub value_utf8 : (t : List ℕ) (v : Value) → v ≡ Text t → is_printable_value v ≡ true → IsUtf8 t
value_utf8 t v is printable = text_utf8 t (sym (is_printable-Text t) ∙ ap is_printable_value (sym is) ∙ printable)

reads_utf8 : {bytes : List ℕ} → Reads bytes → IsUtf8 bytes
reads_utf8 r = (r.piece, (inline_scalars r.piece r.inline, r.encoded))

-- so is the key of a label that has a name
key_utf8 : (names : List (List ℕ)) (kind : Kind) (id : ℕ) → HasName names (record { kind = kind; id = id }) → IsUtf8 (printed_label kind (label_name names id))
key_utf8 names Field id named = reads_utf8 (name_reads named.word (label_name names id) named.spelled)
key_utf8 names Tag id named = reads_utf8 (tag_reads named.word (label_name names id) named.spelled)

pub label_utf8 : (names : List (List ℕ)) (l : Label) → HasName names l → IsUtf8 (label_text names l)
label_utf8 names l named = key_utf8 names l.kind l.id named

some_there : {A : Type 0} (x : Option A) (a : A) → x ≡ Some a → is_some x ≡ true
some_there x a is = ap is_some is

-- what is known of an entry of a record that may be written
pub record IsEntryOf (names : List (List ℕ)) (e : Label × Value) : Type 0 where
  pub key : IsUtf8 (label_text names e.0)
  pub printable : is_printable_value e.1 ≡ true

pub entry_at : (names : List (List ℕ)) (r : Entries) → IsWritable names r → (k : ℕ) (e : Label × Value) → slice_get (finite.entries r) k ≡ Some e → IsEntryOf names e
entry_at names r writable k e is =
    let there : finite.get r e.0 ≡ Some e.1 = get-slice_get r k e.0 e.1 is in
    let fits : FitsLabel e.0 e.1 = subst (λ x. IfSome x (FitsLabel e.0)) there (writable.sound e.0) in
    record {
      key = label_utf8 names e.0 (writable.named e.0 (some_there (finite.get r e.0) e.1 there));
      printable = fits.sound.printable;
    }

-- each element of printable ones is printable
pub element_printable : (vs : List Value) (i : ℕ) (d : Value) → i < length vs → every (map is_printable_value vs) ≡ true → is_printable_value (get_or vs i d) ≡ true
element_printable [] i d within all = absurd (omega arith)
element_printable (v ∷ vs) zero d within all = (and_parts _ _ all).0
element_printable (v ∷ vs) (suc i) d within all = element_printable vs i d (omega arith) (and_parts _ _ all).1

pub elements_printable : (v : Value) (vs : List Value) → v ≡ Many vs → is_printable_value v ≡ true → every (map is_printable_value vs) ≡ true
elements_printable v vs is printable = sym (is_printable-List vs) ∙ ap is_printable_value (sym is) ∙ printable

some_within : {A : Type 0} (xs : List A) (i : ℕ) (x : A) → slice_get xs i ≡ Some x → i < length xs
some_within xs i x is =
    elim (slice_get_cases xs i).1 [
      | inl found ↦ found.1
      | inr past ↦ absurd (none_some (sym past.1 ∙ is))
    ]
  where
    none_some : {A : Type 0} {a : A} → None ≡ Some a → ⊥
    none_some e = cc

-- the members of the entries from one on
members_from : (names : List (List ℕ)) (es : List (Label × Value)) (i : ℕ) (e : Label × Value) → slice_get es i ≡ Some e
    → members_of names (drop i es) ≡ put (label_text names e.0) (data_of e.1) (members_of names (drop (suc i) es))
members_from names es i e is =
    let within = some_within es i e is in
    ap (members_of names) (drop-cons es i e within ∙ ap (λ first. first ∷ drop (suc i) es) (get_or_from_slice_get es i e e is))

pub put_before : (names : List (List ℕ)) (es : List (Label × Value)) (i : ℕ) (e : Label × Value) → 0 < i → slice_get es (i - 1) ≡ Some e → (before after : Members)
    → after ≡ put (label_text names e.0) (data_of e.1) before → before ≡ members_of names (drop i es) → after ≡ members_of names (drop (i - 1) es)
put_before names es i e some is before after puts so_far =
    let next : i ≡ suc (i - 1) = omega arith in
    puts ∙ ap (put (label_text names e.0) (data_of e.1)) (so_far ∙ ap (λ k. members_of names (drop k es)) next) ∙ sym (members_from names es (i - 1) e is)
