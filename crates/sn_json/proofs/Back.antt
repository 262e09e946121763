-- The JSON of a record reads as the record.
use Rattle.std.proofs.Common.{◌≡◌, ℕ, Bool, true, false, cond, IsUtf8, List, [], ◌∷◌, ◌++◌, get_or, map, Option, Some, None, IfSome, Ok, Err, Less, Equal, Greater, option_map, refl, sym, ap, ◌∙◌, subst, arith}
use Rattle.std.specs.List.{All}
use Rattle.std.specs.Option.{is_some}
use Rattle.std.specs.Ordering.{eq_by_cmp, match_ordering, nat_cmp}
use Rattle.std.specs.Cmp.Lexicographic.{slice_cmp}
use Rattle.std.specs.Str.{chars}
use Rattle.std.specs.FinMap as finite
use Rattle.std.specs.FinMap.{find}
use Rattle.std.specs.Prelude.{nat_le}
use Rattle.std.specs.Cmp.{tied_itself}
use Rattle.std.specs.Cmp.Lexicographic.{nat_list_cmp_total}
use Rattle.std.proofs.lemmas.Str.{chars-append, chars-encodes}
use Rattle.std.proofs.lemmas.Bool.Decides.{nat_tests}
use Rattle.std.proofs.lemmas.Option.{slice_get-get_or}
use Rattle.std.proofs.lemmas.Bool.{and_from}
use Rattle.std.proofs.lemmas.List.Elements.{All-nil, All-head, All-tail, All-cons}
use Rattle.sn_record.specs.declared.label.Kind.{Kind}
use Rattle.sn_record.specs.declared.label.Kind.TheVariants.{Field, Tag}
use Rattle.sn_record.specs.declared.label.Label.{Label}
use Rattle.sn_record.specs.declared.value.Value.{Value}
use Rattle.sn_record.specs.declared.value.Value.TheOpen.{Value-F}
use Rattle.sn_record.specs.declared.value.Value.TheViews.{out-Value}
use Rattle.sn_record.specs.Label.{label_cmp, label_cmp_total}
use Rattle.sn_record.specs.Value.{IsSound, nesting, weight}
use Rattle.sn_record.specs.Record.{Entries, FitsLabel, IsInt}
use Rattle.sn_record.proofs.Maps.{get-slice_get, same_label, ties_itself}
use Rattle.sn_record.proofs.Records.{same_record}
use Rattle.sn_names.specs.Names.{are_distinct, label_name, label_number}
use Rattle.sn_names.proofs.Labels.{label_number-label_name}
use Rattle.sn_lexer.specs.Spelling.{is_name, behind_mark}
use Rattle.sn_record_tokens.specs.Tokens.{SpellsName, SpellsTagName}
use Rattle.sn_record_parser.specs.declared.entry.Entry.{Entry}
use Rattle.sn_record_parser.specs.declared.entry.WrittenLabel.{WrittenLabel}
use Rattle.sn_input.specs.Numbered.{record_of, with_entries}
use Rattle.sn_output.specs.Line.{printed_label}
use Rattle.sn_output.specs.Types.{label_text}
use Rattle.sn_record_roundtrip.specs.Writable.{AreBounded, HasName, IsWritable}
use Rattle.unicode_ident.proofs.Computing.{unicode_ident}
use Rattle.sn_record_roundtrip.proofs.Characters.{inline_scalars, name_inline, tag_inline, printable_bytes}
use Rattle.sn_record_roundtrip.proofs.Entries.{IsGood, written}
use Rattle.sn_record_roundtrip.proofs.Labels.{none_new}
use Rattle.sn_record_roundtrip.proofs.Orders.{entries_back}
use Rattle.serde_json.specs.Data.{Data, Members, no_members, member, put}
use Rattle.serde_json.specs.Find.{get_member}
use Rattle.serde_json.proofs.Views.{get_member-put, get_member-put_other}
use Rattle.sn_json.specs.declared.fault.JsonFault.TheVariants as fault
use Rattle.sn_json.specs.declared.fault.Reason.TheVariants as reason
use Rattle.sn_json.specs.Keys.{inside_of, label_of, tag_of}
use Rattle.sn_json.specs.Reading.{entries_in, entries_of, entry_of, is_at_kind, is_int, is_sound, then_entries, value_of}
use Rattle.sn_json.specs.Writing.{data_of, json_of, members_of}
use Rattle.sn_json.proofs.Keys.{inside_is}
use Rattle.sn_json.proofs.Values.{value_reads}

no_some : {A : Type 0} {a : A} → None ≡ Some a → ⊥
no_some e = cc

apart_labels : {l m : Label} → eq_by_cmp label_cmp l m ≡ false → l ≡ m → ⊥
apart_labels {l = l} apart same = no (sym (ties_itself l) ∙ ap (eq_by_cmp label_cmp l) same ∙ apart)
  where
    no : true ≡ false → ⊥
    no e = cc

-- a member in front
found_here : (q k : List ℕ) (d : Data) (ms : Members) → q ≡ k → get_member q (member k d ms) ≡ Some d
found_here q k d ms same = ap (λ o. match_ordering o (get_member q ms) (Some d) (get_member q ms)) (ap (slice_cmp nat_cmp q) (sym same) ∙ tied_itself nat_list_cmp_total q)

passed : (q k : List ℕ) (d : Data) (ms : Members) → (q ≡ k → ⊥) → get_member q (member k d ms) ≡ get_member q ms
passed q k d ms apart =
    elim (slice_cmp nat_cmp q k) as (λ o. slice_cmp nat_cmp q k ≡ o → match_ordering o (get_member q ms) (Some d) (get_member q ms) ≡ get_member q ms) [
      | Less ↦ λ _. refl
      | Equal ↦ λ equal. absurd (apart (finite.slice_cmp-IsAntisymmetric finite.nat_cmp-IsAntisymmetric q k equal))
      | Greater ↦ λ _. refl
    ] refl

-- ---- keys

named : (word bytes : List ℕ) → SpellsName word bytes → is_name (chars bytes) ≡ true
named word bytes s = ap is_name (ap chars s.bytes_are ∙ chars-encodes word (inline_scalars word (name_inline word s.name))) ∙ s.name

tag_named : (word bytes : List ℕ) → SpellsTagName word bytes → behind_mark is_name (chars bytes) ≡ true
tag_named word bytes s = ap (behind_mark is_name) (ap chars s.bytes_are ∙ chars-encodes word (inline_scalars word (tag_inline word s.named))) ∙ s.named

bracket_no_name : (rest : List ℕ) → is_name (60 ∷ rest) ≡ false
unfolding unicode_ident
bracket_no_name rest = refl

abbrev written_label : List (List ℕ) → Label → WrittenLabel
written_label names l = record { kind = l.kind; name = label_name names l.id }

abbrev made : Kind → List ℕ → WrittenLabel
made kind name = record { kind = kind; name = name }

field_key : (word name : List ℕ) → SpellsName word name → label_of name ≡ Some (made Field name)
field_key word name s = ap (λ b. cond b (Some (made Field name)) (tag_of (inside_of name))) (named word name s)

bracket_utf8 : IsUtf8 (60 ∷ [])
bracket_utf8 = (60 ∷ [], (refl, printable_bytes (60 ∷ []) refl))

bracket_char : chars (60 ∷ []) ≡ 60 ∷ []
bracket_char = ap chars (sym (printable_bytes (60 ∷ []) refl)) ∙ chars-encodes (60 ∷ []) refl

tag_key : (word name : List ℕ) → SpellsTagName word name → label_of (60 ∷ (name ++ 62 ∷ [])) ≡ Some (made Tag name)
tag_key word name s =
    let rest = name ++ 62 ∷ [] in
    let key = 60 ∷ rest in
    let split : chars key ≡ 60 ∷ chars rest = chars-append (60 ∷ []) rest bracket_utf8 ∙ ap (λ t. t ++ chars rest) bracket_char in
    ap (λ b. cond b (Some (made Field key)) (tag_of (inside_of key))) (ap is_name split ∙ bracket_no_name (chars rest))
    ∙ ap tag_of (inside_is key name refl)
    ∙ ap (λ b. cond b (Some (made Tag name)) None) (tag_named word name s)

key_at : (names : List (List ℕ)) (kind : Kind) (id : ℕ) → HasName names (record { kind = kind; id = id }) → label_of (printed_label kind (label_name names id)) ≡ Some (made kind (label_name names id))
key_at names Field id has = field_key has.word (label_name names id) has.spelled
key_at names Tag id has = tag_key has.word (label_name names id) has.spelled

-- the key of a label is read as it
label_back : (names : List (List ℕ)) (l : Label) → HasName names l → label_of (label_text names l) ≡ Some (written_label names l)
label_back names l has = key_at names l.kind l.id has

kind_in : Option WrittenLabel → Kind
kind_in None = Field
kind_in (Some label) = label.kind

name_in : Option WrittenLabel → List ℕ
name_in None = []
name_in (Some label) = label.name

-- so labels with one key are one
same_key : (names : List (List ℕ)) → are_distinct names ≡ true → (l m : Label) → HasName names l → HasName names m → label_text names l ≡ label_text names m → l ≡ m
unfolding kind_in name_in
same_key names differ l m l_has m_has e =
    let found : Some (written_label names l) ≡ Some (written_label names m) = sym (label_back names l l_has) ∙ ap label_of e ∙ label_back names m m_has in
    let kinds : l.kind ≡ m.kind = ap kind_in found in
    let ids : l.id ≡ m.id = sym (label_number-label_name names l.id differ l_has.held) ∙ ap (λ x. label_number names (name_in x)) found ∙ label_number-label_name names m.id differ m_has.held in
    λ i. record { kind = kinds i; id = ids i }

-- ---- entries

int_test : {A : Type 0} (x : Value-F A) → IsInt x → is_int x ≡ true
int_test (Value-F.Int n) is = refl
int_test (Value-F.Text t) is = absurd is
int_test (Value-F.List vs) is = absurd is

at_kind : (kind : Kind) (v : Value) → (kind ≡ Tag → IsInt (out-Value v)) → is_at_kind kind v ≡ true
at_kind Field v fits = refl
at_kind Tag v fits = int_test (out-Value v) (fits refl)

sound_test : (v : Value) → IsSound v → is_sound v ≡ true
sound_test v sound =
    let shallow : nat_le (nesting v) 32 ≡ true = grind (arith, nat_tests, sound.shallow) in
    let light : nat_le (weight v) 65536 ≡ true = grind (arith, nat_tests, sound.light) in
    and_from _ _ (and_from _ _ shallow light) sound.printable

suited_is : (sound at : Bool) (key : List ℕ) (e : Entry) → sound ≡ true → at ≡ true
    → cond sound (cond at (Ok e) (Err (fault.Value key reason.Tag))) (Err (fault.Value key reason.TooLarge)) ≡ Ok e
suited_is sound at key e is_sound is_at =
    ap (λ b. cond b (cond at (Ok e) (Err (fault.Value key reason.Tag))) (Err (fault.Value key reason.TooLarge))) is_sound
    ∙ ap (λ b. cond b (Ok e) (Err (fault.Value key reason.Tag))) is_at

module _ (names : List (List ℕ)) (differ : are_distinct names ≡ true) where
  abbrev key : Label → List ℕ
  key = label_text names

  entry_back : (e : Label × Value) → IsGood names e → entry_of (key e.0) (label_of (key e.0)) (value_of (data_of e.1)) ≡ Ok (written names e)
  entry_back e good =
      let sound = good.fits.sound in
      ap (λ l. entry_of (key e.0) l (value_of (data_of e.1))) (label_back names e.0 good.named)
      ∙ ap (entry_of (key e.0) (Some (written_label names e.0))) (value_reads e.1 sound.printable good.bounded sound.light)
      ∙ suited_is (is_sound e.1) (is_at_kind e.0.kind e.1) (key e.0) (written names e) (sound_test e.1 sound) (at_kind e.0.kind e.1 good.fits.tag)

  -- ---- members

  module _ (P : Label × Value → Type 0) where
    -- a member is that of an entry
    abbrev IsMember : List ℕ → Data → Type 0
    IsMember k d = (e : Label × Value) × P e × (k ≡ key e.0) × (d ≡ data_of e.1)

    abbrev AreMembers : Members → Type 0
    AreMembers no_members = Unit {0}
    AreMembers (member k d ms) = IsMember k d × AreMembers ms

    put_are : (k : List ℕ) (d : Data) (ms : Members) → IsMember k d → AreMembers ms → AreMembers (put k d ms)
    put_are k d no_members here rest = (here, tt)
    put_are k d (member l e ms) here rest =
        elim (slice_cmp nat_cmp k l) as (λ o. slice_cmp nat_cmp k l ≡ o → AreMembers (match_ordering o (member k d (member l e ms)) (member l d ms) (member l e (put k d ms)))) [
          | Less ↦ λ _. (here, rest)
          | Equal ↦ λ equal. (subst (λ x. IsMember x d) (finite.slice_cmp-IsAntisymmetric finite.nat_cmp-IsAntisymmetric k l equal) here, rest.1)
          | Greater ↦ λ _. (rest.0, put_are k d ms here rest.1)
        ] refl

    members_are : (es : List (Label × Value)) → All P es → AreMembers (members_of names es)
    members_are [] all = tt
    members_are (e ∷ es) all = put_are (key e.0) (data_of e.1) (members_of names es) (e, All-head P e es all, refl, refl) (members_are es (All-tail P e es all))

    -- their entries, in the order of the members
    abbrev listed : (ms : Members) → AreMembers ms → List (Label × Value)
    listed no_members are = []
    listed (member k d ms) are = are.0.0 ∷ listed ms are.1

    all_listed : (ms : Members) (are : AreMembers ms) → All P (listed ms are)
    all_listed no_members are = All-nil P
    all_listed (member k d ms) are = All-cons P are.0.0 (listed ms are.1) are.0.1 (all_listed ms are.1)

    module _ (good : (e : Label × Value) → P e → IsGood names e) where
      read_all : (ms : Members) (are : AreMembers ms) → entries_in ms ≡ Ok (map (written names) (listed ms are))
      read_all no_members are = refl
      read_all (member k d ms) are =
          let e = are.0.0 in
          let here = ap (λ x. entry_of x (label_of x) (value_of d)) are.0.2 ∙ ap (λ x. entry_of (key e.0) (label_of (key e.0)) (value_of x)) are.0.3 ∙ entry_back e (good e are.0.1) in
          ap (λ x. then_entries x (entries_in ms)) here ∙ ap (then_entries (Ok (written names e))) (read_all ms are.1)

      -- what stands at a label's key is what the entries have at the label
      found : (ms : Members) (are : AreMembers ms) (l : Label) → HasName names l → get_member (key l) ms ≡ option_map data_of (find label_cmp l (listed ms are))
      found no_members are l has = refl
      found (member k d ms) are l has =
          let e = are.0.0 in
          let rest = found ms are.1 l has in
          elim (eq_by_cmp label_cmp l e.0) as (λ b. eq_by_cmp label_cmp l e.0 ≡ b → get_member (key l) (member k d ms) ≡ option_map data_of (cond b (Some e.1) (find label_cmp l (listed ms are.1)))) [
            | true ↦ λ ties. found_here (key l) k d ms (ap key (same_label l e.0 ties) ∙ sym are.0.2) ∙ ap Some are.0.3
            | false ↦ λ apart. passed (key l) k d ms (λ same. apart_labels apart (same_key names differ l e.0 has (good e are.0.1).named (same ∙ are.0.2))) ∙ rest
          ] refl

  -- what the members of entries have at a label's key
  written_member : (es : List (Label × Value)) → All (IsGood names) es → (l : Label) → HasName names l → get_member (key l) (members_of names es) ≡ option_map data_of (find label_cmp l es)
  written_member [] all l has = refl
  written_member (e ∷ es) all l has =
      let rest = written_member es (All-tail (IsGood names) e es all) l has in
      elim (eq_by_cmp label_cmp l e.0) as (λ b. eq_by_cmp label_cmp l e.0 ≡ b → get_member (key l) (put (key e.0) (data_of e.1) (members_of names es)) ≡ option_map data_of (cond b (Some e.1) (find label_cmp l es))) [
        | true ↦ λ ties. ap (λ q. get_member q (put (key e.0) (data_of e.1) (members_of names es))) (ap key (same_label l e.0 ties)) ∙ get_member-put (key e.0) (data_of e.1) (members_of names es)
        | false ↦ λ apart. get_member-put_other (key l) (key e.0) (data_of e.1) (members_of names es) (λ same. apart_labels apart (same_key names differ l e.0 has (All-head (IsGood names) e es all).named same)) ∙ rest
      ] refl

  -- ---- the record

  module _ (r : Entries) (writable : IsWritable names r) where
    abbrev entries : List (Label × Value)
    entries = finite.entries r

    -- an entry that the record has
    abbrev IsOf : Label × Value → Type 0
    IsOf e = IsGood names e × (find label_cmp e.0 entries ≡ Some e.1)

    is_there : (l : Label) (v : Value) → finite.get r l ≡ Some v → is_some (finite.get r l) ≡ true
    is_there l v there = ap is_some there

    good_at : (e : Label × Value) → finite.get r e.0 ≡ Some e.1 → IsGood names e
    good_at e there = record {
      fits = subst (λ x. IfSome x (FitsLabel e.0)) there (writable.sound e.0);
      bounded = subst (λ x. IfSome x AreBounded) there (writable.bounded e.0);
      named = writable.named e.0 (is_there e.0 e.1 there);
    }

    all_of : All IsOf entries
    all_of = λ k d within.
        let e = get_or entries k d in
        let there : finite.get r e.0 ≡ Some e.1 = get-slice_get r k _ _ (slice_get-get_or entries k d within) in
        (good_at e there, sym (finite.get-entries r e.0) ∙ there)

    all_good : All (IsGood names) entries
    all_good = λ k d within. (all_of k d within).0

    abbrev ms : Members
    ms = members_of names entries

    are : AreMembers IsOf ms
    are = members_are IsOf entries all_of

    abbrev read : List (Label × Value)
    read = listed IsOf ms are

    -- what is found among the entries that were read is the record's
    found_is : (es : List (Label × Value)) → All IsOf es → (l : Label) (v : Value) → find label_cmp l es ≡ Some v → find label_cmp l entries ≡ Some v
    found_is [] all l v found = absurd (no_some found)
    found_is (e ∷ es) all l v found =
        elim (eq_by_cmp label_cmp l e.0) as (λ b. eq_by_cmp label_cmp l e.0 ≡ b → cond b (Some e.1) (find label_cmp l es) ≡ Some v → find label_cmp l entries ≡ Some v) [
          | true ↦ λ ties same. ap (λ k. find label_cmp k entries) (same_label l e.0 ties) ∙ (All-head IsOf e es all).1 ∙ same
          | false ↦ λ _ later. found_is es (All-tail IsOf e es all) l v later
        ] refl found

    none_is : (l : Label) → find label_cmp l read ≡ None → find label_cmp l entries ≡ None
    none_is l none =
        elim (find label_cmp l entries) as (λ x. find label_cmp l entries ≡ x → x ≡ None) [
          | None ↦ λ _. refl
          | Some v ↦ λ there.
              let has = writable.named l (is_there l v (finite.get-entries r l ∙ there)) in
              let here = written_member entries all_good l has ∙ ap (option_map data_of) there in
              let nothing = found IsOf (λ e of. of.0) ms are l has ∙ ap (option_map data_of) none in
              absurd (no_some (sym nothing ∙ here))
        ] refl

    found_alike : (l : Label) → find label_cmp l read ≡ find label_cmp l entries
    found_alike l =
        elim (find label_cmp l read) as (λ x. find label_cmp l read ≡ x → x ≡ find label_cmp l entries) [
          | None ↦ λ none. sym (none_is l none)
          | Some v ↦ λ there. sym (found_is read (all_listed IsOf ms are) l v there)
        ] refl

    read_same : finite.from_entries {R = label_cmp} read ≡ r
    read_same = same_record _ r (λ l. finite.get-from_entries label_cmp_total read l ∙ found_alike l ∙ sym (finite.get-entries r l))

    read_good : All (IsGood names) read
    read_good = λ k d within. (all_listed IsOf ms are k d within).0

    pub json_back : (es : List Entry) × (entries_of (json_of names r) ≡ Ok es) × (with_entries names es ≡ names) × (record_of names es ≡ r)
    json_back = (
      map (written names) read,
      read_all IsOf (λ e of. of.0) ms are,
      none_new names differ read read_good,
      ap (λ xs. finite.from_entries {R = label_cmp} xs) (entries_back names differ read read_good) ∙ read_same,
    )
