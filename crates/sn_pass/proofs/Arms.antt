-- The steps of the forms as the code takes them: with the networks, the lists and the choices that it has by equations.
use Rattle.std.proofs.Common.{◌≡◌, ◌≢◌, ◌-◌, ◌≤◌, ◌∙◌, ℕ, ℤ, false, List, [], ◌∷◌, ◌++◌, length, map, take, slice_range, refl, sym, ap, subst, arith}
use Rattle.std.specs.Prelude.{Err, None, Ok, OnOk, Option, Result, Some, slice_get}
use Rattle.std.specs.Ordering.{int_eq}
use Rattle.std.proofs.lemmas.List.{map-append, take_all}
use Rattle.sn_record.specs.LabelSet.{Labels}
use Rattle.sn_record.specs.Record.{Entries}
use Rattle.sn_streams.specs.Keys.{Branch, Value}
use Rattle.sn_tagexpr.specs.declared.expr.TagExpr.{TagExpr}
use Rattle.sn_net.specs.declared.net.Merge.{Merge}
use Rattle.sn_net.specs.declared.net.Net.{Net}
use Rattle.sn_net.specs.declared.net.Net.TheVariants.{Serial, Choice, Star, Split}
use Rattle.sn_net.specs.Cell.{CellState}
use Rattle.sn_net.specs.Dispatchers.{Network, level}
use Rattle.sn_net.specs.Item.{ModelItem, Rec}
use Rattle.sn_model.specs.Meaning.{Setting, tree}
use Rattle.sn_pass.specs.Flowing.{flows}
use Rattle.sn_pass.specs.Keeping.{Keeping, child_of, left_of, right_of}
use Rattle.sn_pass.specs.Passing.{GoesToBranch, IsChosen, IsSplit, Passes, PassesAll}
use Rattle.sn_pass.specs.declared.flowing.Flowing.{Flowing}
use Rattle.sn_pass.proofs.Passed.{choice_goes, choice_passed, serial_passes, series_passes, split_goes, split_passed, star_passes, through_more}

abbrev Kept : Type 0
Kept = Keeping CellState

-- one item more through a network
pub goes_through : (t : Network) (start now later : Kept) (yielded : List Flowing) (given : Flowing) (out grown more : List ModelItem)
    → PassesAll t start now (map flows yielded) out grown → Passes t now later (flows given) grown more
    → PassesAll t start later (map flows (yielded ++ given ∷ [])) out more
goes_through t start now later yielded given out grown more before step =
    subst (λ (xs : List ModelItem). PassesAll t start later xs out more) (sym (map-append flows yielded (given ∷ [])))
    (through_more t start out (map flows yielded) grown more now later (flows given) before step)

-- a child that was taken out of what is kept, and put back
pub child_passes : (t : Network) (state before after later : Kept) (x : ModelItem) (out grown : List ModelItem) → state ≡ before → later ≡ after → Passes t state after x out grown → Passes t before later x out grown
child_passes t state before after later x out grown taken put step =
    subst (λ (q : Kept). Passes t before q x out grown) (sym put) (subst (λ (q : Kept). Passes t q after x out grown) taken step)

-- a range that has all of a list
pub whole_range : {X : Type 0} (n : ℕ) (xs : List X) → length xs ≤ n → slice_range xs 0 n ≡ xs
whole_range n xs within =
    let none_less : n - 0 ≡ n = omega arith in
    ap (λ k. take k xs) none_less ∙ take_all n xs within

-- what holds whatever was answered
pub always_ok : {A E : Type 0} (result : Result A E) (P : Type 0) → P → OnOk result P
always_ok (Ok x) P p = p
always_ok (Err e) P p = tt

-- where both clauses of an answer hold, so does what follows from them
pub both_ok : {A E : Type 0} (result : Result A E) (P Q R : Type 0) → (P → Q → R) → OnOk result P → OnOk result Q → OnOk result R
both_ok (Ok x) P Q R follows p q = follows p q
both_ok (Err e) P Q R follows p q = tt

-- items through a network, with the items and what was given before by equations
pub passes_all_at : (t : Network) (before after : Kept) (xs ys out start grown : List ModelItem) → xs ≡ ys → out ≡ start → PassesAll t before after xs out grown → PassesAll t before after ys start grown
passes_all_at t before after xs ys out start grown items same step =
    subst (λ (zs : List ModelItem). PassesAll t before after zs start grown) items (subst (λ (zs : List ModelItem). PassesAll t before after xs zs grown) same step)

-- what a network is, with the parts that the code has by equations
pub is_series : (net left right l r : Net) → net ≡ Serial left right → l ≡ left → r ≡ right → net ≡ Serial l r
is_series net left right l r is is_left is_right =
    subst (λ (n : Net). net ≡ Serial l n) (sym is_right) (subst (λ (n : Net). net ≡ Serial n right) (sym is_left) is)

-- what a choice did with its faces as the code has them
pub chosen_here : (place : ℕ) (sliced faces : List (List Labels)) (x : ModelItem) (out mid : List ModelItem) (chosen : Option (ℕ × Entries)) → sliced ≡ faces → IsChosen place sliced x out mid chosen → IsChosen place faces x out mid chosen
chosen_here place sliced faces x out mid chosen same is_chosen = subst (λ (fs : List (List Labels)). IsChosen place fs x out mid chosen) same is_chosen

module _ (s : Setting) where
  pub serial_arm : (left right : Net) (q later first second first_then second_then : Kept) (x : ModelItem) (between out grown none : List ModelItem)
      → first ≡ left_of q → second ≡ right_of q → none ≡ []
      → Passes (tree s left) first first_then x none between → PassesAll (tree s right) second second_then between out grown
      → left_of later ≡ first_then → right_of later ≡ second_then
      → Passes (tree s (Serial left right)) q later x out grown
  serial_arm left right q later first second first_then second_then x between out grown none of_left of_right empty step through put_left put_right =
      series_passes s left right q later x out grown
      (serial_passes (tree s left) (tree s right) q later first second first_then second_then x between out grown of_left of_right
      (subst (λ (ys : List ModelItem). Passes (tree s left) first first_then x ys between) empty step) through put_left put_right)

  module _ (net : Net) (place : ℕ) (m : Merge) (branches : List Net) (faces : List (List Labels)) (is : net ≡ Choice place m branches faces)
      (q : Kept) (x : ModelItem) (out mid : List ModelItem) (chosen : Option (ℕ × Entries)) (is_chosen : IsChosen place faces x out mid chosen) where
    pub choice_none : chosen ≡ None → Passes (tree s net) q q x out mid
    choice_none none =
        subst (λ (n : Net). Passes (tree s n) q q x out mid) (sym is)
        (choice_passed s place m branches faces q x out mid (subst (λ (o : Option (ℕ × Entries)). IsChosen place faces x out mid o) none is_chosen))

    pub choice_goes_to : (picked : ℕ × Entries) → chosen ≡ Some picked → GoesToBranch faces x picked.0 picked.1 out mid
    choice_goes_to picked some =
        subst (λ (o : Option (ℕ × Entries)). IsChosen place faces x out mid o) some is_chosen

    pub choice_some : (picked : ℕ × Entries) (branch : Net) (later : Kept) (grown : List ModelItem) → chosen ≡ Some picked → slice_get branches picked.0 ≡ Some branch
        → Passes (tree s branch) (child_of q (Branch picked.0)) (child_of later (Branch picked.0)) (Rec picked.1) mid grown
        → ((j : ℕ) → j ≢ picked.0 → child_of later (Branch j) ≡ child_of q (Branch j))
        → Passes (tree s net) q later x out grown
    choice_some picked branch later grown some there step others =
        subst (λ (n : Net). Passes (tree s n) q later x out grown) (sym is)
        (choice_goes s place m branches faces picked.0 branch q later _ _ x picked.1 out mid grown (choice_goes_to picked some) there refl step refl others)

  module _ (net body : Net) (place : ℕ) (m : Merge) (id : ℕ) (is : net ≡ Split place m body id)
      (q : Kept) (x : ModelItem) (out mid : List ModelItem) (chosen : Option (ℤ × Entries)) (is_split : IsSplit place id x out mid chosen) where
    pub split_none : chosen ≡ None → Passes (tree s net) q q x out mid
    split_none none =
        subst (λ (n : Net). Passes (tree s n) q q x out mid) (sym is)
        (split_passed s place m body id q x out mid (subst (λ (o : Option (ℤ × Entries)). IsSplit place id x out mid o) none is_split))

    pub split_some : (picked : ℤ × Entries) (later : Kept) (grown : List ModelItem) → chosen ≡ Some picked
        → Passes (tree s body) (child_of q (Value picked.0)) (child_of later (Value picked.0)) (Rec picked.1) mid grown
        → ((k : ℤ) → int_eq k picked.0 ≡ false → child_of later (Value k) ≡ child_of q (Value k))
        → Passes (tree s net) q later x out grown
    split_some picked later grown some step others =
        subst (λ (n : Net). Passes (tree s n) q later x out grown) (sym is)
        (split_goes s place m body id picked.0 q later _ _ x picked.1 out mid grown (subst (λ (o : Option (ℤ × Entries)). IsSplit place id x out mid o) some is_split) refl step refl others)

  pub star_arm : (net body b : Net) (place : ℕ) (m : Merge) (exit : Labels) (guard : Option TagExpr) (q later : Kept) (x : ModelItem) (out grown : List ModelItem)
      → net ≡ Star place m body exit guard → b ≡ body
      → ((n : Merge) → Passes (level place n exit guard (tree s b) s.depth) q later x out grown) → Passes (tree s net) q later x out grown
  star_arm net body b place m exit guard q later x out grown is is_body passes =
      subst (λ (n : Net). Passes (tree s n) q later x out grown) (sym is)
      (star_passes s place m body exit guard q later x out grown (subst (λ (n : Net). Passes (level place m exit guard (tree s n) s.depth) q later x out grown) is_body (passes m)))
