-- The parts of a network that fits its boxes, and their plans.
use Rattle.std.proofs.Common.{◌≡◌, ℕ, ◌<◌, ◌≤◌, List, [], ◌∷◌, map, length, get_or, sym, ap, subst, ◌∙◌}
use Rattle.std.specs.List.{All}
use Rattle.std.proofs.lemmas.List.Elements.{All-head, All-tail, All-get_or, All-from_get_or}
use Rattle.sn_record.specs.LabelSet.{Labels}
use Rattle.sn_net.specs.declared.expr.BoxProgram.{BoxProgram}
use Rattle.sn_net.specs.declared.net.Merge.{Merge}
use Rattle.sn_net.specs.declared.net.Net.{Net}
use Rattle.sn_net.specs.declared.net.Net.TheOpen.{Net-F}
use Rattle.sn_net.specs.declared.net.Net.TheFolds.{fold-roll-Net}
use Rattle.sn_net.specs.declared.net.Net.TheVariants as form
use Rattle.sn_net.specs.WellFormed.{FitsBoxes, IsWellFormed, most_branches}
use Rattle.sn_net.proofs.Sound.{parts_formed, level_sound}
use Rattle.sn_view.specs.Parts.{Plan, plan, plan_step, serial_plan, choice_plan}
use mathlib.Core.Logic.{∥∥₁_elim, ∥∥₁_map}
use native.Mathlib.Bridge.{le_prop}

pub plan_serial : (depth : ℕ) (net left right l r : Net) → net ≡ form.Serial left right → l ≡ left → r ≡ right → plan depth net ≡ serial_plan (plan depth l) (plan depth r)
plan_serial depth net left right l r is here there =
    ap (plan depth) (is ∙ sym (form.rolls-Serial left right)) ∙ fold-roll-Net Plan (plan_step depth) (Net-F.Serial left right)
    ∙ ap (λ m. serial_plan (plan depth m) (plan depth right)) (sym here) ∙ ap (λ m. serial_plan (plan depth l) (plan depth m)) (sym there)

pub plan_choice : (depth : ℕ) (net : Net) (place : ℕ) (merge : Merge) (branches nets : List Net) (faces : List (List Labels)) → net ≡ form.Choice place merge branches faces → nets ≡ branches
    → plan depth net ≡ choice_plan merge (map (plan depth) nets)
plan_choice depth net place merge branches nets faces is same =
    ap (plan depth) (is ∙ sym (form.rolls-Choice place merge branches faces)) ∙ fold-roll-Net Plan (plan_step depth) (Net-F.Choice place merge branches faces)
    ∙ ap (λ ns. choice_plan merge (map (plan depth) ns)) (sym same)

module _ (boxes : List BoxProgram) where
  pub left_fits : (net left right l : Net) → net ≡ form.Serial left right → l ≡ left → FitsBoxes boxes net → FitsBoxes boxes l
  left_fits net left right l is here fits =
      ∥∥₁_map fits (λ formed.
      let parts = parts_formed boxes (Net-F.Serial left right) (subst (IsWellFormed boxes) (is ∙ sym (form.rolls-Serial left right)) formed) in
      subst (IsWellFormed boxes) (sym here) (All-head (IsWellFormed boxes) left (right ∷ []) parts))

  pub right_fits : (net left right r : Net) → net ≡ form.Serial left right → r ≡ right → FitsBoxes boxes net → FitsBoxes boxes r
  right_fits net left right r is there fits =
      ∥∥₁_map fits (λ formed.
      let parts = parts_formed boxes (Net-F.Serial left right) (subst (IsWellFormed boxes) (is ∙ sym (form.rolls-Serial left right)) formed) in
      subst (IsWellFormed boxes) (sym there) (All-head (IsWellFormed boxes) right [] (All-tail (IsWellFormed boxes) left (right ∷ []) parts)))

  pub few_branches : (net : Net) (place : ℕ) (merge : Merge) (branches nets : List Net) (faces : List (List Labels)) → net ≡ form.Choice place merge branches faces → nets ≡ branches
      → FitsBoxes boxes net → length nets ≤ most_branches
  few_branches net place merge branches nets faces is same fits =
      ∥∥₁_elim fits le_prop (λ formed.
      let sound = level_sound boxes (Net-F.Choice place merge branches faces) (subst (IsWellFormed boxes) (is ∙ sym (form.rolls-Choice place merge branches faces)) formed) in
      subst (λ (ns : List Net). length ns ≤ most_branches) (sym same) sound.few)

  pub branches_fit : (net : Net) (place : ℕ) (merge : Merge) (branches nets : List Net) (faces : List (List Labels)) → net ≡ form.Choice place merge branches faces → nets ≡ branches
      → FitsBoxes boxes net → All (FitsBoxes boxes) nets
  branches_fit net place merge branches nets faces is same fits =
      All-from_get_or (FitsBoxes boxes) nets net (λ i within. ∥∥₁_map fits (λ formed.
      let parts = parts_formed boxes (Net-F.Choice place merge branches faces) (subst (IsWellFormed boxes) (is ∙ sym (form.rolls-Choice place merge branches faces)) formed) in
      All-get_or (IsWellFormed boxes) nets i net within (subst (λ (ns : List Net). All (IsWellFormed boxes) ns) (sym same) parts)))
