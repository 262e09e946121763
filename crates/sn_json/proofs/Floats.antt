-- The JSON of a record has no fraction.
use Rattle.std.proofs.Common.{◌≡◌, ◌||◌, ℕ, ℤ, pos, negsuc, Bool, true, false, List, [], ◌∷◌, map, Ordering, Less, Equal, Greater, refl, ap, ◌∙◌, subst}
use Rattle.std.specs.Cmp.Lexicographic.{slice_cmp}
use Rattle.std.specs.FinMap.{entries}
use Rattle.std.specs.Ordering.{match_ordering, nat_cmp}
use Rattle.std.proofs.lemmas.Bool.{or_from}
use Rattle.sn_record.specs.declared.label.Label.{Label}
use Rattle.sn_record.specs.declared.value.Value.{Value}
use Rattle.sn_record.specs.declared.value.Value.TheOpen.{Value-F}
use Rattle.sn_record.specs.declared.value.Value.TheFolds.{fold-roll-Value, ind-Value, map-Value}
use Rattle.sn_record.specs.declared.value.Value.TheViews.{roll-Value}
use Rattle.sn_record.specs.Record.{Entries}
use Rattle.sn_output.specs.Types.{label_text}
use Rattle.serde_json.specs.Data.{Data, Members, no_members, member, put}
use Rattle.serde_json.specs.Find.{is_float, of_integer}
use Rattle.serde_json.specs.View.{items_of}
use Rattle.serde_json.specs.Written.{has_float, items_have_float, members_have_float}
use Rattle.sn_json.specs.Writing.{data_of, data_step, json_of, members_of}

whole_number : (n : ℤ) → is_float (of_integer n) ≡ false
whole_number (pos n) = refl
whole_number (negsuc n) = refl

-- a value and that its JSON has none
abbrev Whole : Type 0
Whole = (v : Value) × (has_float (data_of v) ≡ false)

wholes : (vs : List Whole) → items_have_float (items_of (map data_of (map (λ v. v.0) vs))) ≡ false
wholes [] = refl
wholes (v ∷ vs) = or_from _ _ v.1 (wholes vs)

shown : (x : Value-F Value) → has_float (data_step (map-Value Value Data data_of x)) ≡ false → has_float (data_of (roll-Value x)) ≡ false
shown x none = ap has_float (fold-roll-Value Data data_step x) ∙ none

pub value_whole : (v : Value) → has_float (data_of v) ≡ false
value_whole = ind-Value (λ v. has_float (data_of v) ≡ false) (λ x y is. subst (λ z. has_float (data_of (roll-Value z)) ≡ false) is
    (elim y as (λ z. has_float (data_of (roll-Value (map-Value _ _ (λ e. e.0) z))) ≡ false) [
      | Value-F.Int n ↦ shown (Value-F.Int n) (whole_number n)
      | Value-F.Text t ↦ shown (Value-F.Text t) refl
      | Value-F.List vs ↦ shown (Value-F.List (map (λ e. e.0) vs)) (wholes vs)
    ]))

placed : (o : Ordering) (a b c : Members) → members_have_float a ≡ false → members_have_float b ≡ false → members_have_float c ≡ false → members_have_float (match_ordering o a b c) ≡ false
placed Less a b c first second third = first
placed Equal a b c first second third = second
placed Greater a b c first second third = third

first_of : (a b : Bool) → (a || b) ≡ false → a ≡ false
first_of true b e = e
first_of false b e = refl

second_of : (a b : Bool) → (a || b) ≡ false → b ≡ false
second_of true b e = absurd (no e)
  where
    no : true ≡ false → ⊥
    no e = cc
second_of false b e = e

put_whole : (k : List ℕ) (d : Data) (ms : Members) → has_float d ≡ false → members_have_float ms ≡ false → members_have_float (put k d ms) ≡ false
put_whole k d no_members here rest = or_from _ _ here refl
put_whole k d (member l e ms) here rest =
    let first = first_of (has_float e) _ rest in
    let others = second_of (has_float e) _ rest in
    placed (slice_cmp nat_cmp k l) _ _ _ (or_from _ _ here rest) (or_from _ _ here others) (or_from _ _ first (put_whole k d ms here others))

members_whole : (names : List (List ℕ)) (es : List (Label × Value)) → members_have_float (members_of names es) ≡ false
members_whole names [] = refl
members_whole names (e ∷ es) = put_whole (label_text names e.0) (data_of e.1) (members_of names es) (value_whole e.1) (members_whole names es)

pub json_whole : (names : List (List ℕ)) (r : Entries) → has_float (json_of names r) ≡ false
json_whole names r = members_whole names (entries r)
