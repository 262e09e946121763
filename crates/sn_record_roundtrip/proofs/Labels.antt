-- The written labels of a record in order: none stands twice, and no name of them is new.
use Rattle.std.proofs.Common.{◌≡◌, ◌∙◌, ℕ, ◌<◌, true, false, IsTrue, List, [], ◌∷◌, ◌++◌, map, length, None, refl, sym, ap, subst}
use Rattle.std.specs.List.{list_any, All}
use Rattle.std.specs.Str.{bytes_eq}
use Rattle.std.specs.Cmp.{tied_itself}
use Rattle.std.specs.Ordering.{is_lt}
use Rattle.std.specs.declared.cmp.Ordering.{Ordering}
use Rattle.std.specs.declared.cmp.Ordering.TheVariants.{Less, Equal, Greater}
use Rattle.std.specs.FinMap.{is_sorted}
use Rattle.std.specs.FinMap.Entries.{below_all}
use Rattle.std.proofs.lemmas.Bool.{and_parts, or_from, false_from_ne_true}
use Rattle.std.proofs.lemmas.List.Elements.{All-nil, All-head, All-tail, All-cons}
use Rattle.std.proofs.lemmas.List.Folds.{list_any-append}
use Rattle.sn_record.specs.declared.label.Kind.{Kind}
use Rattle.sn_record.specs.declared.label.Kind.TheVariants.{Field, Tag}
use Rattle.sn_record.specs.declared.label.Label.{Label}
use Rattle.sn_record.specs.declared.value.Value.{Value}
use Rattle.sn_names.specs.Names.{are_distinct, label_name, label_number, place_of}
use Rattle.sn_names.proofs.Labels.{label_number-label_name}
use Rattle.sn_names.proofs.NamesLaws.{same_text, entered_held, number_in-name_at}
use Rattle.sn_record_parser.specs.declared.entry.WrittenLabel.{WrittenLabel}
use Rattle.sn_record_parser.specs.declared.entry.Entry.{Entry}
use Rattle.sn_input.specs.Numbered.{with_entries, same_kind, same_label, first_repeat, repeated}
use Rattle.sn_input.proofs.Repeating.{passed}
use Rattle.sn_output.specs.Line.{by_name, by_name_total}
use Rattle.sn_record_roundtrip.specs.Writable.{HasName}
use Rattle.sn_record_roundtrip.proofs.Entries.{IsGood, written}

same_kinds : (a b : Kind) → same_kind a b ≡ true → a ≡ b
same_kinds Field Field h = refl
same_kinds Field Tag h = cc
same_kinds Tag Field h = cc
same_kinds Tag Tag h = refl

not_tied : (r : Ordering) → is_lt r ≡ true → r ≡ Equal → ⊥
not_tied Less h e = cc
not_tied Equal h e = cc
not_tied Greater h e = cc

module _ (names : List (List ℕ)) (differ : IsTrue (are_distinct names)) where
  -- how a label is written
  abbrev written_label : Label → WrittenLabel
  written_label l = record { kind = l.kind; name = label_name names l.id }

  -- labels that are written alike are one
  written_alike : (l m : Label) → HasName names l → HasName names m → same_label (written_label m) (written_label l) ≡ true → m ≡ l
  written_alike l m l_named m_named same =
      let parts = and_parts (same_kind m.kind l.kind) (bytes_eq (label_name names m.id) (label_name names l.id)) same in
      let kinds = same_kinds m.kind l.kind parts.0 in
      let texts = same_text (label_name names m.id) (label_name names l.id) parts.1 in
      let ids : m.id ≡ l.id = sym (label_number-label_name names m.id differ m_named.held) ∙ ap (label_number names) texts ∙ label_number-label_name names l.id differ l_named.held in
      λ i. record { kind = kinds i; id = ids i }

  -- so a label that stands before another is written otherwise
  written_apart : (l m : Label) → HasName names l → HasName names m → is_lt (by_name names l m) ≡ true → same_label (written_label m) (written_label l) ≡ false
  written_apart l m l_named m_named before =
      false_from_ne_true _ (λ same. not_tied (by_name names l m) before (ap (by_name names l) (written_alike l m l_named m_named same) ∙ tied_itself (by_name_total names) l))

  abbrev labels : List (Label × Value) → List WrittenLabel
  labels es = map (λ (e : Entry). e.label) (map (written names) es)

  -- the entry's label is none of the earlier ones
  abbrev IsFresh : List WrittenLabel → Label × Value → Type 0
  IsFresh earlier e = list_any (same_label (written_label e.0)) earlier ≡ false

  fresh_after : (earlier : List WrittenLabel) (l : Label) (es : List (Label × Value)) → HasName names l → All (IsGood names) es → below_all (by_name names) l es ≡ true
      → All (IsFresh earlier) es → All (IsFresh (earlier ++ written_label l ∷ [])) es
  fresh_after earlier l [] named good below fresh = All-nil (IsFresh (earlier ++ written_label l ∷ []))
  fresh_after earlier l (e ∷ es) named good below fresh =
      let parts = and_parts (is_lt (by_name names l e.0)) (below_all (by_name names) l es) below in
      let here = written_apart l e.0 named (All-head (IsGood names) e es good).named parts.0 in
      All-cons (IsFresh (earlier ++ written_label l ∷ [])) e es
      (list_any-append (same_label (written_label e.0)) earlier (written_label l ∷ []) ∙ or_from _ _ (All-head (IsFresh earlier) e es fresh) (or_from _ _ here refl))
      (fresh_after earlier l es named (All-tail (IsGood names) e es good) parts.1 (All-tail (IsFresh earlier) e es fresh))

  fresh_repeat_none : (earlier : List WrittenLabel) (es : List (Label × Value)) → is_sorted (by_name names) es ≡ true → All (IsGood names) es → All (IsFresh earlier) es → first_repeat earlier (labels es) ≡ None
  fresh_repeat_none earlier [] sorted good fresh = refl
  fresh_repeat_none earlier (e ∷ es) sorted good fresh =
      let parts = and_parts (below_all (by_name names) e.0 es) (is_sorted (by_name names) es) sorted in
      let rest = All-tail (IsGood names) e es good in
      passed earlier (labels es) (written_label e.0) (All-head (IsFresh earlier) e es fresh)
      ∙ fresh_repeat_none (earlier ++ written_label e.0 ∷ []) es parts.1 rest
      (fresh_after earlier e.0 es (All-head (IsGood names) e es good).named rest parts.0 (All-tail (IsFresh earlier) e es fresh))

  pub none_repeats : (es : List (Label × Value)) → is_sorted (by_name names) es ≡ true → All (IsGood names) es → repeated (map (written names) es) ≡ None
  none_repeats es sorted good = fresh_repeat_none [] es sorted good (λ k d within. refl)

  pub none_new : (es : List (Label × Value)) → All (IsGood names) es → with_entries names (map (written names) es) ≡ names
  none_new [] good = refl
  none_new (e ∷ es) good =
      let named = (All-head (IsGood names) e es good).named in
      let below = subst (λ k. k < length names) (sym (number_in-name_at names (place_of e.0.id) differ named.held.within)) named.held.within in
      ap (λ known. with_entries known (map (written names) es)) (entered_held names (label_name names e.0.id) below)
      ∙ none_new es (All-tail (IsGood names) e es good)
