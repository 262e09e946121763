-- The parts and the outline of a well-formed network, as a match on it shows them.
use Rattle.std.proofs.Common.{◌≡◌, ℕ, ◌<◌, List, [], ◌∷◌, get_or, length, map, refl, sym, ap, ◌∙◌, subst}
use Rattle.std.specs.Prelude.{Option, Some, None, is_some, slice_get, unwrap_or}
use Rattle.std.specs.Option.{option_map}
use Rattle.std.proofs.Math.ListN.{length-map}
use Rattle.std.specs.List.{All}
use Rattle.std.specs.FinMap as finite
use Rattle.std.proofs.lemmas.List.Elements.{All-head, All-tail}
use Rattle.std.proofs.lemmas.Option.{slice_get_within, get_or_from_slice_get, slice_get-map, slice_get_read}
use mathlib.Core.Logic.{∥∥₁_elim}
use Rattle.std.specs.Coded.{Coded-set, coded_list, le_prop}
use Rattle.sn_record.specs.LabelSet.{Labels}
use Rattle.sn_record.specs.contracts.label_set.LabelSet as labels
use Rattle.sn_tagexpr.specs.declared.expr.TagExpr.{TagExpr}
use Rattle.sn_net.specs.declared.expr.BoxProgram.{BoxProgram}
use Rattle.sn_net.specs.declared.filter.Filter.{Filter}
use Rattle.sn_net.specs.Filter.{every_template}
use Rattle.sn_net.specs.declared.net.Merge.{Merge}
use Rattle.sn_net.specs.declared.net.Net.{Net}
use Rattle.sn_net.specs.declared.net.Net.TheOpen.{Net-F}
use Rattle.sn_net.specs.declared.net.Net.TheViews.{roll-Net}
use Rattle.sn_net.specs.declared.net.Net.TheVariants as form
use Rattle.sn_net.specs.Face.{face, variant_of}
use Rattle.sn_net.specs.WellFormed.{FitsBoxes, IsSoundChoice}
use Rattle.sn_net.proofs.Fits.{box_there, parts_fit}
use Rattle.sn_net.proofs.Sound.{level_sound}
use Rattle.sn_typing.specs.Outline.{Outline, Component, Series, Choice, Star, Split, box_outline, branch_of, is_guarded, nowhere, outline, template_variant}
use Rattle.sn_typing.proofs.Forms.{outline-Box, outline-Filter, outline-Sync, outline-Serial, outline-Choice, outline-Star, outline-Split}

-- a choice is sound in one way alone
sound_once : (boxes : List BoxProgram) (branches : List Net) (faces : List (List Labels)) → IsProp (IsSoundChoice boxes branches faces)
sound_once boxes branches faces a b i = record {
  few = le_prop a.few b.few i;
  paired = Coded-set (coded_list (coded_list labels.the_row.coded)) _ _ a.paired b.paired i;
}

module _ (boxes : List BoxProgram) (net : Net) (formed : FitsBoxes boxes net) where
  pub box_room : (place number : ℕ) → net ≡ form.Box place number → number < length boxes
  box_room place number is = box_there boxes place number (subst (FitsBoxes boxes) is formed)

  both_formed : (l r : Net) → net ≡ form.Serial l r → All (FitsBoxes boxes) (l ∷ r ∷ [])
  both_formed l r is = parts_fit boxes (Net-F.Serial l r) (subst (FitsBoxes boxes) (is ∙ sym (form.rolls-Serial l r)) formed)

  pub left_formed : (l r got : Net) → net ≡ form.Serial l r → got ≡ l → FitsBoxes boxes got
  left_formed l r got is same = subst (FitsBoxes boxes) (sym same) (All-head (FitsBoxes boxes) l (r ∷ []) (both_formed l r is))

  pub right_formed : (l r got : Net) → net ≡ form.Serial l r → got ≡ r → FitsBoxes boxes got
  right_formed l r got is same = subst (FitsBoxes boxes) (sym same) (All-head (FitsBoxes boxes) r [] (All-tail (FitsBoxes boxes) l (r ∷ []) (both_formed l r is)))

  pub star_formed : (place : ℕ) (merge : Merge) (body : Net) (exit : Labels) (guard : Option TagExpr) (got : Net) → net ≡ form.Star place merge body exit guard → got ≡ body → FitsBoxes boxes got
  star_formed place merge body exit guard got is same =
      subst (FitsBoxes boxes) (sym same) (All-head (FitsBoxes boxes) body [] (parts_fit boxes (Net-F.Star place merge body exit guard) (subst (FitsBoxes boxes) (is ∙ sym (form.rolls-Star place merge body exit guard)) formed)))

  pub split_formed : (place : ℕ) (merge : Merge) (body : Net) (id : ℕ) (got : Net) → net ≡ form.Split place merge body id → got ≡ body → FitsBoxes boxes got
  split_formed place merge body id got is same =
      subst (FitsBoxes boxes) (sym same) (All-head (FitsBoxes boxes) body [] (parts_fit boxes (Net-F.Split place merge body id) (subst (FitsBoxes boxes) (is ∙ sym (form.rolls-Split place merge body id)) formed)))

  module _ (place : ℕ) (merge : Merge) (branches : List Net) (faces : List (List Labels)) (is : net ≡ form.Choice place merge branches faces) where
    rolled : FitsBoxes boxes (roll-Net (Net-F.Choice place merge branches faces))
    rolled = subst (FitsBoxes boxes) (is ∙ sym (form.rolls-Choice place merge branches faces)) formed

    pub branch_formed : (i : ℕ) (got : Net) → slice_get branches i ≡ Some got → FitsBoxes boxes got
    branch_formed i got here =
        subst (FitsBoxes boxes) (get_or_from_slice_get branches i got got here)
        (parts_fit boxes (Net-F.Choice place merge branches faces) rolled i got (slice_get_within branches i got here))

    pub sound_choice : IsSoundChoice boxes branches faces
    sound_choice = ∥∥₁_elim rolled (sound_once boxes branches faces) (λ whole. level_sound boxes (Net-F.Choice place merge branches faces) whole)

    -- the same of slices
    pub slices_formed : (nets : List Net) → nets ≡ branches → All (FitsBoxes boxes) nets
    slices_formed nets are = subst (All (FitsBoxes boxes)) (sym are) (parts_fit boxes (Net-F.Choice place merge branches faces) rolled)

    pub slices_sound : (nets : List Net) (sliced : List (List Labels)) → nets ≡ branches → sliced ≡ faces → IsSoundChoice boxes nets sliced
    slices_sound nets sliced are faces_are =
        subst (IsSoundChoice boxes nets) (sym faces_are) (subst (λ (ns : List Net). IsSoundChoice boxes ns faces) (sym are) sound_choice)

module _ (boxes : List BoxProgram) (net : Net) where
  pub box_is : (place number : ℕ) (program : BoxProgram) → net ≡ form.Box place number → slice_get boxes number ≡ Some program
      → outline boxes net ≡ Component place (variant_of program.input ∷ []) (variant_of program.input) (map variant_of program.outputs)
  box_is place number program is here = ap (outline boxes) is ∙ outline-Box boxes place number ∙ ap (box_outline place) here

  pub filter_is : (filter : Filter) → net ≡ form.Filter filter → outline boxes net ≡ Component filter.place (filter.pattern ∷ []) filter.pattern (map template_variant (every_template filter))
  filter_is filter is = ap (outline boxes) is ∙ outline-Filter boxes filter

  pub sync_is : (place : ℕ) (patterns : List Labels) → net ≡ form.Sync place patterns → outline boxes net ≡ Component place patterns finite.empty (finite.empty ∷ [])
  sync_is place patterns is = ap (outline boxes) is ∙ outline-Sync boxes place patterns

  pub serial_is : (l r gl gr : Net) → net ≡ form.Serial l r → gl ≡ l → gr ≡ r → outline boxes net ≡ Series (outline boxes gl) (outline boxes gr)
  serial_is l r gl gr is left right =
      ap (outline boxes) is ∙ outline-Serial boxes l r ∙ ap (λ (n : Net). Series (outline boxes n) (outline boxes r)) (sym left) ∙ ap (λ (n : Net). Series (outline boxes gl) (outline boxes n)) (sym right)

  pub choice_is : (place : ℕ) (merge : Merge) (branches : List Net) (faces : List (List Labels)) → net ≡ form.Choice place merge branches faces
      → outline boxes net ≡ Choice place faces (branch_of (map (outline boxes) branches))
  choice_is place merge branches faces is = ap (outline boxes) is ∙ outline-Choice boxes place merge branches faces

  pub slices_are : (place : ℕ) (merge : Merge) (branches : List Net) (faces : List (List Labels)) (nets : List Net) (sliced : List (List Labels)) → net ≡ form.Choice place merge branches faces → nets ≡ branches → sliced ≡ faces
      → outline boxes net ≡ Choice place sliced (branch_of (map (outline boxes) nets))
  slices_are place merge branches faces nets sliced is are faces_are =
      choice_is place merge branches faces is ∙ ap (λ (fs : List (List Labels)). Choice place fs (branch_of (map (outline boxes) branches))) (sym faces_are)
      ∙ ap (λ (ns : List Net). Choice place sliced (branch_of (map (outline boxes) ns))) (sym are)

  pub star_is : (place : ℕ) (merge : Merge) (body : Net) (exit : Labels) (guard : Option TagExpr) (got : Net) → net ≡ form.Star place merge body exit guard → got ≡ body
      → outline boxes net ≡ Star exit (is_guarded guard) (outline boxes got)
  star_is place merge body exit guard got is same = ap (outline boxes) is ∙ outline-Star boxes place merge body exit guard ∙ ap (λ (n : Net). Star exit (is_guarded guard) (outline boxes n)) (sym same)

  pub split_is : (place : ℕ) (merge : Merge) (body : Net) (id : ℕ) (got : Net) → net ≡ form.Split place merge body id → got ≡ body → outline boxes net ≡ Split place id (outline boxes got)
  split_is place merge body id got is same = ap (outline boxes) is ∙ outline-Split boxes place merge body id ∙ ap (λ (n : Net). Split place id (outline boxes n)) (sym same)

-- a branch as it was read
pub branch_got : (boxes : List BoxProgram) (branches : List Net) (i : ℕ) (got : Net) → slice_get branches i ≡ Some got → branch_of (map (outline boxes) branches) i ≡ outline boxes got
branch_got boxes branches i got here =
    ap (λ (b : Option Outline). unwrap_or b (nowhere 0)) (slice_get-map (outline boxes) branches i ∙ ap (option_map (outline boxes)) here)

pub branch_read : (boxes : List BoxProgram) (branches : List Net) (i : ℕ) (got : Net) → i < length branches → got ≡ get_or branches i got → branch_of (map (outline boxes) branches) i ≡ outline boxes got
branch_read boxes branches i got below is = branch_got boxes branches i got (slice_get_read branches (length branches) i got refl below is)

-- there are as many faces as branches
pub as_many : (boxes : List BoxProgram) (branches : List Net) (faces : List (List Labels)) → IsSoundChoice boxes branches faces → length faces ≡ length branches
as_many boxes branches faces sound = ap length sound.paired ∙ length-map branches (face boxes)

pub guard_some : (guard : Option TagExpr) → is_some guard ≡ is_guarded guard
guard_some None = refl
guard_some (Some test) = refl
