-- Entries in the order in which they are printed make the record again.
use Rattle.std.proofs.Common.{◌≡◌, ℕ, true, cond, List, [], ◌∷◌, get_or, map, Option, Some, IfSome, refl, sym, ap, ◌∙◌, subst}
use Rattle.std.specs.List.{All}
use Rattle.std.specs.Option.{is_some}
use Rattle.std.specs.Ordering.{eq_by_cmp, is_eq, nat_cmp, ordering_then}
use Rattle.std.specs.declared.cmp.Ordering.{Ordering}
use Rattle.std.specs.declared.cmp.Ordering.TheVariants.{Less, Equal, Greater}
use Rattle.std.specs.Cmp.{both_ways, tied_itself}
use Rattle.std.specs.FinMap as finite
use Rattle.std.specs.FinMap.{find, put, is_sorted, nat_cmp-IsAntisymmetric}
use Rattle.std.specs.FinMap.Entries.{by_order}
use Rattle.std.proofs.Flags.{T_true}
use Rattle.std.proofs.lemmas.List.{nil_from_length}
use Rattle.std.proofs.lemmas.List.Elements.{All-nil, All-head, All-tail, All-cons}
use Rattle.std.proofs.lemmas.Option.{slice_get-get_or}
use Rattle.sn_record.specs.declared.label.Kind.{Kind}
use Rattle.sn_record.specs.declared.label.Kind.TheVariants.{Field, Tag}
use Rattle.sn_record.specs.declared.label.Label.{Label}
use Rattle.sn_record.specs.declared.value.Value.{Value}
use Rattle.sn_record.specs.Label.{kind_rank, label_cmp, label_cmp_total}
use Rattle.sn_record.specs.Record.{Entries, FitsLabel}
use Rattle.sn_record.proofs.Maps.{ties_itself, same_label, get-slice_get}
use Rattle.sn_record.proofs.Records.{same_record}
use Rattle.sn_names.specs.Names.{are_distinct as names_differ}
use Rattle.sn_names.proofs.Labels.{label_number-label_name}
use Rattle.sn_input.specs.Numbered.{entry_in}
use Rattle.sn_output.specs.Line.{by_name, by_name_total, in_order}
use Rattle.sn_record_roundtrip.specs.Writable.{AreBounded, HasName, IsWritable}
use Rattle.sn_record_roundtrip.proofs.Entries.{IsGood, written}

kinds_tie : (a b : Kind) (r : Ordering) → ordering_then (nat_cmp (kind_rank a) (kind_rank b)) r ≡ Equal → (a ≡ b) × (r ≡ Equal)
kinds_tie Field Field r e = (refl, e)
kinds_tie Field Tag r e = cc
kinds_tie Tag Field r e = cc
kinds_tie Tag Tag r e = (refl, e)

second_ties : (s r : Ordering) → ordering_then s r ≡ Equal → r ≡ Equal
second_ties Less r e = cc
second_ties Equal r e = e
second_ties Greater r e = cc

module _ (names : List (List ℕ)) where
  -- labels that tie by name are one
  ties_are_one : (l k : Label) → by_name names l k ≡ Equal → l ≡ k
  ties_are_one l k e =
      let kinds = kinds_tie l.kind k.kind _ e in
      let ids = nat_cmp-IsAntisymmetric l.id k.id (second_ties _ _ kinds.1) in
      λ i. record { kind = kinds.0 i; id = ids i }

  ties_by_name : (l k : Label) → eq_by_cmp (by_name names) l k ≡ true → l ≡ k
  ties_by_name l k e =
      elim (by_name names l k) as (λ r. by_name names l k ≡ r → is_eq r ≡ true → l ≡ k) [
        | Less ↦ λ less no. cc
        | Equal ↦ λ equal _. ties_are_one l k equal
        | Greater ↦ λ greater no. cc
      ] refl e

  named_itself : (l : Label) → eq_by_cmp (by_name names) l l ≡ true
  named_itself l = ap is_eq (tied_itself (by_name_total names) l)

  -- both orders tie alike
  tie_alike : (l k : Label) → eq_by_cmp label_cmp l k ≡ eq_by_cmp (by_name names) l k
  tie_alike l k = both_ways _ _
      (λ e. ap (eq_by_cmp (by_name names) l) (sym (same_label l k e)) ∙ named_itself l)
      (λ e. ap (eq_by_cmp label_cmp l) (sym (ties_by_name l k e)) ∙ ties_itself l)

  -- so they find alike
  find_alike : (l : Label) (es : List (Label × Value)) → find label_cmp l es ≡ find (by_name names) l es
  find_alike l [] = refl
  find_alike l (e ∷ es) = λ i. cond (tie_alike l e.0 i) (Some e.1) (find_alike l es i)

  module _ (P : Label × Value → Type 0) where
    -- what holds of each entry holds also where one more is put
    all_put : (l : Label) (v : Value) (es : List (Label × Value)) → P (l, v) → All P es → All P (put (by_name names) l v es)
    all_put l v [] here rest = All-cons P (l, v) [] here rest
    all_put l v (e ∷ es) here all =
        elim (by_name names l e.0) as (λ r. by_name names l e.0 ≡ r → All P (by_order r ((l, v) ∷ e ∷ es) ((e.0, v) ∷ es) (e ∷ put (by_name names) l v es))) [
          | Less ↦ λ _. All-cons P (l, v) (e ∷ es) here all
          | Equal ↦ λ equal. All-cons P (e.0, v) es (subst (λ k. P (k, v)) (ties_are_one l e.0 equal) here) (All-tail P e es all)
          | Greater ↦ λ _. All-cons P e (put (by_name names) l v es) (All-head P e es all) (all_put l v es here (All-tail P e es all))
        ] refl

    all_ordered : (es : List (Label × Value)) → All P es → All P (finite.entries (finite.from_entries {R = by_name names} es))
    all_ordered [] all =
        let none : finite.entries (finite.empty {X = Value} {R = by_name names}) ≡ [] = nil_from_length _ (sym (finite.len-entries finite.empty) ∙ finite.len-empty (by_name names) Value) in
        subst (All P) (sym none) (All-nil P)
    all_ordered (e ∷ es) all =
        subst (All P) (sym (finite.entries-insert (by_name_total names) (finite.from_entries {R = by_name names} es) e.0 e.1))
        (all_put e.0 e.1 (finite.entries (finite.from_entries {R = by_name names} es)) (All-head P e es all) (all_ordered es (All-tail P e es all)))

  module _ (r : Entries) where
    pub ordered_sorted : is_sorted (by_name names) (in_order names r) ≡ true
    ordered_sorted = T_true _ (finite.entries_sorted (finite.from_entries {R = by_name names} (finite.entries r)))

    -- the entries in order make the record
    pub ordered_same : finite.from_entries {R = label_cmp} (in_order names r) ≡ r
    ordered_same = same_record _ r (λ l.
        finite.get-from_entries label_cmp_total (in_order names r) l
        ∙ find_alike l (in_order names r)
        ∙ sym (finite.get-entries (finite.from_entries {R = by_name names} (finite.entries r)) l)
        ∙ finite.get-from_entries (by_name_total names) (finite.entries r) l
        ∙ sym (find_alike l (finite.entries r))
        ∙ sym (finite.get-entries r l))

  some_there : {A : Type 0} (x : Option A) (a : A) → x ≡ Some a → is_some x ≡ true
  some_there x a is = ap is_some is

  good_at : (r : Entries) → IsWritable names r → (e : Label × Value) → finite.get r e.0 ≡ Some e.1 → IsGood names e
  good_at r writable e there = record {
    fits = subst (λ x. IfSome x (FitsLabel e.0)) there (writable.sound e.0);
    bounded = subst (λ x. IfSome x AreBounded) there (writable.bounded e.0);
    named = writable.named e.0 (some_there (finite.get r e.0) e.1 there);
  }

  pub ordered_good : (r : Entries) → IsWritable names r → All (IsGood names) (in_order names r)
  ordered_good r writable =
      all_ordered (IsGood names) (finite.entries r)
      (λ k d within. good_at r writable (get_or (finite.entries r) k d)
      (get-slice_get r k _ _ (slice_get-get_or (finite.entries r) k d within)))

  -- a written entry has the number of its name
  entry_back : names_differ names ≡ true → (e : Label × Value) → HasName names e.0 → entry_in names (written names e) ≡ e
  entry_back differ e named =
      λ i. (record { kind = e.0.kind; id = label_number-label_name names e.0.id differ named.held i }, e.1)

  pub entries_back : names_differ names ≡ true → (es : List (Label × Value)) → All (IsGood names) es → map (entry_in names) (map (written names) es) ≡ es
  entries_back differ [] good = refl
  entries_back differ (e ∷ es) good =
      λ i. entry_back differ e (All-head (IsGood names) e es good).named i ∷ entries_back differ es (All-tail (IsGood names) e es good) i
