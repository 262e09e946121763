-- The JSON of a record nests one deeper than its values.
use Rattle.std.proofs.Common.{◌≡◌, ◌≤◌, ◌+◌, ℕ, suc, max, List, [], ◌∷◌, get_or, map, Some, IfSome, Ordering, Less, Equal, Greater, refl, sym, ap, ◌∙◌, subst, arith}
use Rattle.std.specs.FinMap as finite
use Rattle.std.specs.List.{All}
use Rattle.std.specs.Cmp.Lexicographic.{slice_cmp}
use Rattle.std.specs.Ordering.{match_ordering, nat_cmp}
use Rattle.std.proofs.Math.Nat.{max-le, le-max_left, le-max_right}
use Rattle.std.proofs.lemmas.List.Elements.{All-head, All-tail}
use Rattle.std.proofs.lemmas.Option.{slice_get-get_or}
use Rattle.sn_record.specs.declared.label.Label.{Label}
use Rattle.sn_record.specs.declared.value.Value.{Value}
use Rattle.sn_record.specs.declared.value.Value.TheOpen.{Value-F}
use Rattle.sn_record.specs.declared.value.Value.TheFolds.{fold-roll-Value, ind-Value, map-Value}
use Rattle.sn_record.specs.declared.value.Value.TheViews.{roll-Value}
use Rattle.sn_record.specs.Record.{Entries, FitsLabel}
use Rattle.sn_record.specs.Value.{greatest, nesting, nesting_step}
use Rattle.sn_record.proofs.Maps.{get-slice_get}
use Rattle.sn_output.specs.Types.{label_text}
use Rattle.sn_record_roundtrip.specs.Writable.{IsWritable}
use Rattle.serde_json.specs.Data.{Data, Members, no_members, member, depth, items_depth, members_depth, put}
use Rattle.serde_json.specs.Read.{max_depth}
use Rattle.serde_json.specs.View.{items_of}
use Rattle.sn_json.specs.Writing.{data_of, data_step, json_of, members_of}

-- a value and that its JSON nests as deep
abbrev Deep : Type 0
Deep = (v : Value) × (depth (data_of v) ≡ nesting v)

elements_deep : (vs : List Deep) → items_depth (items_of (map data_of (map (λ v. v.0) vs))) ≡ greatest (map nesting (map (λ v. v.0) vs))
elements_deep [] = refl
elements_deep (v ∷ vs) = λ i. max (v.1 i) (elements_deep vs i)

one_more : (n : ℕ) → suc n ≡ n + 1
one_more n = omega arith

shown : (x : Value-F Value) → depth (data_step (map-Value Value Data data_of x)) ≡ nesting_step (map-Value Value ℕ nesting x) → depth (data_of (roll-Value x)) ≡ nesting (roll-Value x)
shown x same = ap depth (fold-roll-Value Data data_step x) ∙ same ∙ sym (fold-roll-Value ℕ nesting_step x)

value_deep : (v : Value) → depth (data_of v) ≡ nesting v
value_deep = ind-Value (λ v. depth (data_of v) ≡ nesting v) (λ x y is. subst (λ z. depth (data_of (roll-Value z)) ≡ nesting (roll-Value z)) is
    (elim y as (λ z. depth (data_of (roll-Value (map-Value _ _ (λ e. e.0) z))) ≡ nesting (roll-Value (map-Value _ _ (λ e. e.0) z))) [
      | Value-F.Int n ↦ shown (Value-F.Int n) refl
      | Value-F.Text t ↦ shown (Value-F.Text t) refl
      | Value-F.List vs ↦ shown (Value-F.List (map (λ e. e.0) vs)) (ap suc (elements_deep vs) ∙ one_more (greatest (map nesting (map (λ e. e.0) vs))))
    ]))

placed : (n : ℕ) (o : Ordering) (a b c : Members) → members_depth a ≤ n → members_depth b ≤ n → members_depth c ≤ n → members_depth (match_ordering o a b c) ≤ n
placed n Less a b c first second third = first
placed n Equal a b c first second third = second
placed n Greater a b c first second third = third

put_deep : (n : ℕ) (k : List ℕ) (d : Data) (ms : Members) → depth d ≤ n → members_depth ms ≤ n → members_depth (put k d ms) ≤ n
put_deep n k d no_members here rest = max-le here (omega arith)
put_deep n k d (member l e ms) here rest =
    let first : depth e ≤ n = omega (arith, rest, le-max_left (depth e) (members_depth ms)) in
    let others : members_depth ms ≤ n = omega (arith, rest, le-max_right (depth e) (members_depth ms)) in
    placed n (slice_cmp nat_cmp k l) _ _ _ (max-le here rest) (max-le here others) (max-le first (put_deep n k d ms here others))

abbrev IsShallow : Label × Value → Type 0
IsShallow e = nesting e.1 ≤ 32

members_deep : (names : List (List ℕ)) (es : List (Label × Value)) → All IsShallow es → members_depth (members_of names es) ≤ 32
members_deep names [] all = omega arith
members_deep names (e ∷ es) all =
    put_deep 32 (label_text names e.0) (data_of e.1) (members_of names es) (subst (λ n. n ≤ 32) (sym (value_deep e.1)) (All-head IsShallow e es all)) (members_deep names es (All-tail IsShallow e es all))

all_shallow : (names : List (List ℕ)) (r : Entries) → IsWritable names r → All IsShallow (finite.entries r)
all_shallow names r writable = λ k d within.
    let e = get_or (finite.entries r) k d in
    let there : finite.get r e.0 ≡ Some e.1 = get-slice_get r k _ _ (slice_get-get_or (finite.entries r) k d within) in
    let fits : FitsLabel e.0 e.1 = subst (λ x. IfSome x (FitsLabel e.0)) there (writable.sound e.0) in
    fits.sound.shallow

pub json_deep : (names : List (List ℕ)) (r : Entries) → IsWritable names r → depth (json_of names r) ≤ max_depth
json_deep names r writable =
    let inner = members_deep names (finite.entries r) (all_shallow names r writable) in
    let here : suc (members_depth (members_of names (finite.entries r))) ≤ 127 = omega (arith, inner) in
    here
