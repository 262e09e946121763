-- The parts of a network that fits its boxes.
use Rattle.std.proofs.Common.{◌≡◌, ℕ, ◌<◌, ◌≤◌, IsTrue, List, [], ◌∷◌, length, get_or, sym, ap, ◌∙◌, subst}
use Rattle.std.specs.Prelude.{IfSome, Option, None, Some, slice_get}
use Rattle.std.specs.Coded.{le_prop, Unit-prop}
use Rattle.std.proofs.Props.{props}
use Rattle.std.proofs.lemmas.List.Elements.{All-head, All-tail}
use Rattle.std.proofs.lemmas.List.{length-map}
use Rattle.std.proofs.lemmas.Option.{slice_get_read, slice_get_within, get_or_from_slice_get}
use mathlib.Core.Logic.{∥∥₁_elim}
use Rattle.sn_record.specs.LabelSet.{Labels}
use Rattle.sn_tagexpr.specs.declared.expr.TagExpr.{TagExpr}
use Rattle.sn_net.specs.declared.expr.BoxProgram.{BoxProgram}
use Rattle.sn_net.specs.declared.net.Merge.{Merge}
use Rattle.sn_net.specs.declared.net.Net.{Net}
use Rattle.sn_net.specs.declared.net.Net.TheOpen.{Net-F}
use Rattle.sn_net.specs.declared.net.Net.TheVariants.{Serial, Choice, Star, Split, rolls-Serial, rolls-Choice, rolls-Star, rolls-Split}
use Rattle.sn_net.specs.Face.{face}
use Rattle.sn_net.specs.Filter.{is_over}
use Rattle.sn_net.specs.declared.net.Net.TheViews.{out-Net, out-roll-Net, roll-Net}
use Rattle.sn_net.specs.Routable.{IsDispatcher}
use Rattle.sn_net.specs.Route.{record_key}
use Rattle.sn_pass.specs.Passing.{IsAtChoice, IsAtSplit, IsAtStar}
use Rattle.sn_net.specs.WellFormed.{FitsBoxes, IsWellFormed, IsSoundChoice, most_branches}
use Rattle.sn_net.proofs.Fits.{parts_fit}
use Rattle.sn_net.proofs.Sound.{level_sound}

one_guard : (exit : Labels) (guard : Option TagExpr) → IsProp (IfSome guard (λ test. IsTrue (is_over exit test)))
one_guard exit None = Unit-prop
one_guard exit (Some test) = hlevel props

module _ (boxes : List BoxProgram) (net : Net) (fits : FitsBoxes boxes net) where
  pub left_fits : (left right l : Net) → net ≡ Serial left right → l ≡ left → FitsBoxes boxes l
  left_fits left right l is is_left =
      let parts = parts_fit boxes (Net-F.Serial left right) (subst (FitsBoxes boxes) (is ∙ sym (rolls-Serial left right)) fits) in
      subst (FitsBoxes boxes) (sym is_left) (All-head (FitsBoxes boxes) left (right ∷ []) parts)

  pub right_fits : (left right r : Net) → net ≡ Serial left right → r ≡ right → FitsBoxes boxes r
  right_fits left right r is is_right =
      let parts = parts_fit boxes (Net-F.Serial left right) (subst (FitsBoxes boxes) (is ∙ sym (rolls-Serial left right)) fits) in
      subst (FitsBoxes boxes) (sym is_right) (All-head (FitsBoxes boxes) right [] (All-tail (FitsBoxes boxes) left (right ∷ []) parts))

  pub star_body_fits : (place : ℕ) (m : Merge) (body b : Net) (exit : Labels) (guard : Option TagExpr) → net ≡ Star place m body exit guard → b ≡ body → FitsBoxes boxes b
  star_body_fits place m body b exit guard is is_body =
      let parts = parts_fit boxes (Net-F.Star place m body exit guard) (subst (FitsBoxes boxes) (is ∙ sym (rolls-Star place m body exit guard)) fits) in
      subst (FitsBoxes boxes) (sym is_body) (All-head (FitsBoxes boxes) body [] parts)

  pub split_body_fits : (place : ℕ) (m : Merge) (body b : Net) (id : ℕ) → net ≡ Split place m body id → b ≡ body → FitsBoxes boxes b
  split_body_fits place m body b id is is_body =
      let parts = parts_fit boxes (Net-F.Split place m body id) (subst (FitsBoxes boxes) (is ∙ sym (rolls-Split place m body id)) fits) in
      subst (FitsBoxes boxes) (sym is_body) (All-head (FitsBoxes boxes) body [] parts)

  form_is : (x : Net-F Net) → net ≡ roll-Net x → out-Net net ≡ x
  form_is x is = ap out-Net is ∙ out-roll-Net x

  pub guard_closed : (place : ℕ) (m : Merge) (body : Net) (exit : Labels) (guard : Option TagExpr) → net ≡ Star place m body exit guard → IfSome guard (λ test. IsTrue (is_over exit test))
  guard_closed place m body exit guard is =
      ∥∥₁_elim fits (one_guard exit guard)
      (λ formed. level_sound boxes (Net-F.Star place m body exit guard) (subst (IsWellFormed boxes) (is ∙ sym (rolls-Star place m body exit guard)) formed))

  module _ (place : ℕ) (m : Merge) (branches : List Net) (faces : List (List Labels)) (is : net ≡ Choice place m branches faces) where
    sound : IsWellFormed boxes net → IsSoundChoice boxes branches faces
    sound formed = level_sound boxes (Net-F.Choice place m branches faces) (subst (IsWellFormed boxes) (is ∙ sym (rolls-Choice place m branches faces)) formed)

    pub few_faces : length faces ≤ most_branches
    few_faces = ∥∥₁_elim fits le_prop (λ formed. let s = sound formed in subst (λ n. n ≤ most_branches) (sym (ap length s.paired ∙ length-map branches (face boxes))) s.few)

    pub branch_there : (i : ℕ) → i < length faces → i < length branches
    branch_there i below = ∥∥₁_elim fits le_prop (λ formed. let s = sound formed in subst (λ n. i < n) (ap length s.paired ∙ length-map branches (face boxes)) below)

    pub branch_fits : (i : ℕ) (b : Net) → slice_get branches i ≡ Some b → FitsBoxes boxes b
    branch_fits i b there =
        let parts = parts_fit boxes (Net-F.Choice place m branches faces) (subst (FitsBoxes boxes) (is ∙ sym (rolls-Choice place m branches faces)) fits) in
        subst (FitsBoxes boxes) (get_or_from_slice_get branches i b b there) (parts i b (slice_get_within branches i b there))

    -- the same, where the branch was read at its place from an equal list
    pub branch_stands : (nets : List Net) (i : ℕ) (b : Net) → nets ≡ branches → i < length branches → b ≡ get_or nets i b → slice_get branches i ≡ Some b
    branch_stands nets i b same below is = subst (λ (ns : List Net). slice_get ns i ≡ Some b) same (slice_get_read nets (length branches) i b (sym (ap length same)) below is)

    pub branch_at_place : (nets : List Net) (i : ℕ) (b : Net) → nets ≡ branches → i < length branches → b ≡ get_or nets i b → FitsBoxes boxes b
    branch_at_place nets i b same below is = branch_fits i b (branch_stands nets i b same below is)

    pub at_choice : IsAtChoice net faces
    at_choice =
        let form = form_is (Net-F.Choice place m branches faces) (is ∙ sym (rolls-Choice place m branches faces)) in
        record { dispatches = subst IsDispatcher (sym form) few_faces; keys = λ r. ap (λ (x : Net-F Net). record_key x r) form }

  pub at_split : (place : ℕ) (m : Merge) (body : Net) (id : ℕ) → net ≡ Split place m body id → IsAtSplit net id
  at_split place m body id is =
      let form = form_is (Net-F.Split place m body id) (is ∙ sym (rolls-Split place m body id)) in
      record { dispatches = subst IsDispatcher (sym form) tt; keys = λ r. ap (λ (x : Net-F Net). record_key x r) form }

  pub at_star : (place : ℕ) (m : Merge) (body : Net) (exit : Labels) (guard : Option TagExpr) → net ≡ Star place m body exit guard → IsAtStar net place exit guard
  at_star place m body exit guard is =
      let form = form_is (Net-F.Star place m body exit guard) (is ∙ sym (rolls-Star place m body exit guard)) in
      record { dispatches = subst IsDispatcher (sym form) (guard_closed place m body exit guard is); keys = λ r. ap (λ (x : Net-F Net). record_key x r) form }
