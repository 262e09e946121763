-- A claim has one plan.
use Rattle.std.proofs.Common.{◌≡◌, ℕ, suc, Bool, true, false, IsTrue, List, [], ◌∷◌, ◌++◌, length, refl, sym, ap, ap₂, ◌∙◌, subst}
use Rattle.std.specs.Prelude.{◌↔◌}
use Rattle.sn_record.specs.LabelSet.{Labels}
use Rattle.sn_net.specs.declared.expr.BoxProgram.{BoxProgram}
use Rattle.sn_net.specs.declared.net.Claim.{Claim}
use Rattle.sn_net.specs.declared.net.Net.{Net}
use Rattle.sn_net.specs.declared.net.Net.TheOpen.{Net-F}
use Rattle.sn_net.specs.declared.net.Net.TheVariants.{Box, Filter as FilterLeaf, Sync, Serial, Choice as ChoiceNet, Star as StarNet, Split as SplitNet, rolls-Box, rolls-Filter, rolls-Sync, rolls-Serial, rolls-Choice, rolls-Star, rolls-Split}
use Rattle.sn_net.specs.declared.net.Net.TheViews.{out-Net, roll-Net, out-roll-Net}
use Rattle.sn_typing.specs.Outline.{Outline, outline}
use Rattle.sn_typing.specs.Reached.{Turn, Left, Right, Branch, Body}
use Rattle.sn_planned.specs.Flat.{choice_of, flattened}
use Rattle.sn_planned.specs.Planned.{IsPlan}
use Rattle.sn_planned.specs.Slim.{slimmed}
use Rattle.sn_planned.specs.Trimmed.{IsWay, Kept, Trimmed, Trimmed.{box, filter, sync, serial, choice as choice_form, star, split as split_form}, droppable, keep_or_drop, kept, kept_from}

-- two tests of one fact are the same
same_test : (P : Type 0) (one other : Bool) → IsTrue one ↔ P → IsTrue other ↔ P → one ≡ other
same_test P true true first second = refl
same_test P false false first second = refl
same_test P true false first second = sym (second.1 (first.0 refl))
same_test P false true first second = first.1 (second.0 refl)

same_kept : (one other : ℕ → Bool) → ((i : ℕ) → one i ≡ other i) → (spare i : ℕ) (nets : List Net) → kept_from one spare i nets ≡ kept_from other spare i nets
same_kept one other same spare i [] = refl
same_kept one other same spare i (net ∷ nets) = ap₂ (λ used behind. keep_or_drop used net behind) (same i) (same_kept one other same spare (suc i) nets)

-- the form of a network
out_of : (x : Net-F Net) (net : Net) → roll-Net x ≡ net → x ≡ out-Net net
out_of x net is = sym (out-roll-Net x) ∙ ap out-Net is

module _ (boxes : List BoxProgram) (root : Outline) (input : List Labels) where
  -- what a network of this form is when it was trimmed
  abbrev Shape : List Turn → Net-F Net → Net → Type 0
  Shape way (Net-F.Box place number) net = Box place number ≡ net
  Shape way (Net-F.Filter form) net = FilterLeaf form ≡ net
  Shape way (Net-F.Sync place patterns) net = Sync place patterns ≡ net
  Shape way (Net-F.Serial left right) net =
      (left' : Net) × (right' : Net) × Trimmed boxes root input (way ++ Left ∷ []) left left' × Trimmed boxes root input (way ++ Right ∷ []) right right' × (Serial left' right' ≡ net)
  Shape way (Net-F.Choice place merge branches faces) net =
      (used : ℕ → Bool) × ((i : ℕ) → IsTrue (used i) ↔ IsWay root input (way ++ Branch i ∷ [])) × (choice_of boxes place merge (kept used branches) ≡ net)
  Shape way (Net-F.Star place merge body exit guard) net = (body' : Net) × Trimmed boxes root input (way ++ Body ∷ []) body body' × (StarNet place merge body' exit guard ≡ net)
  Shape way (Net-F.Split place merge body id) net = (body' : Net) × Trimmed boxes root input (way ++ Body ∷ []) body body' × (SplitNet place merge body' id ≡ net)

  shape_of : (way : List Turn) (net net' : Net) → Trimmed boxes root input way net net' → Shape way (out-Net net) net'
  shape_of way net net' (box w place number) = subst (λ x. Shape w x (Box place number)) (out_of (Net-F.Box place number) (Box place number) (rolls-Box place number)) refl
  shape_of way net net' (filter w form) = subst (λ x. Shape w x (FilterLeaf form)) (out_of (Net-F.Filter form) (FilterLeaf form) (rolls-Filter form)) refl
  shape_of way net net' (sync w place patterns) = subst (λ x. Shape w x (Sync place patterns)) (out_of (Net-F.Sync place patterns) (Sync place patterns) (rolls-Sync place patterns)) refl
  shape_of way net net' (serial w l l' r r' first second) =
      subst (λ x. Shape w x (Serial l' r')) (out_of (Net-F.Serial l r) (Serial l r) (rolls-Serial l r)) (l', r', first, second, refl)
  shape_of way net net' (choice_form w place m branches faces used decides) =
      subst (λ x. Shape w x (choice_of boxes place m (kept used branches))) (out_of (Net-F.Choice place m branches faces) (ChoiceNet place m branches faces) (rolls-Choice place m branches faces)) (used, decides, refl)
  shape_of way net net' (star w place m body body' exit guard trims) =
      subst (λ x. Shape w x (StarNet place m body' exit guard)) (out_of (Net-F.Star place m body exit guard) (StarNet place m body exit guard) (rolls-Star place m body exit guard)) (body', trims, refl)
  shape_of way net net' (split_form w place m body body' id trims) =
      subst (λ x. Shape w x (SplitNet place m body' id)) (out_of (Net-F.Split place m body id) (SplitNet place m body id) (rolls-Split place m body id)) (body', trims, refl)

  -- so it is at a network whose form is known
  shaped : (way : List Turn) (x : Net-F Net) (net net' : Net) → roll-Net x ≡ net → Trimmed boxes root input way net net' → Shape way x net'
  shaped way x net net' is trims = subst (λ y. Shape way y net') (sym (out_of x net is)) (shape_of way net net' trims)

  one_trimmed : (way : List Turn) (net one other : Net) → Trimmed boxes root input way net one → Trimmed boxes root input way net other → one ≡ other
  one_trimmed way net one other (box w place number) second = shaped w (Net-F.Box place number) (Box place number) other (rolls-Box place number) second
  one_trimmed way net one other (filter w form) second = shaped w (Net-F.Filter form) (FilterLeaf form) other (rolls-Filter form) second
  one_trimmed way net one other (sync w place patterns) second = shaped w (Net-F.Sync place patterns) (Sync place patterns) other (rolls-Sync place patterns) second
  one_trimmed way net one other (serial w l l' r r' on_left on_right) second =
      let shape = shaped w (Net-F.Serial l r) (Serial l r) other (rolls-Serial l r) second in
      ap₂ (λ a b. Serial a b) (one_trimmed (w ++ Left ∷ []) l l' shape.0 on_left shape.2) (one_trimmed (w ++ Right ∷ []) r r' shape.1 on_right shape.3) ∙ shape.4
  one_trimmed way net one other (choice_form w place m branches faces used decides) second =
      let shape = shaped w (Net-F.Choice place m branches faces) (ChoiceNet place m branches faces) other (rolls-Choice place m branches faces) second in
      ap (λ (k : Kept). choice_of boxes place m k.nets)
      (same_kept used shape.0 (λ i. same_test (IsWay root input (w ++ Branch i ∷ [])) (used i) (shape.0 i) (decides i) (shape.1 i)) (droppable (length branches)) 0 branches)
      ∙ shape.2
  one_trimmed way net one other (star w place m body body' exit guard trims) second =
      let shape = shaped w (Net-F.Star place m body exit guard) (StarNet place m body exit guard) other (rolls-Star place m body exit guard) second in
      ap (λ b. StarNet place m b exit guard) (one_trimmed (w ++ Body ∷ []) body body' shape.0 trims shape.1) ∙ shape.2
  one_trimmed way net one other (split_form w place m body body' id trims) second =
      let shape = shaped w (Net-F.Split place m body id) (SplitNet place m body id) other (rolls-Split place m body id) second in
      ap (λ b. SplitNet place m b id) (one_trimmed (w ++ Body ∷ []) body body' shape.0 trims shape.1) ∙ shape.2

pub one_plan : (boxes : List BoxProgram) (claim : Claim) (one other : Net) → IsPlan boxes claim one → IsPlan boxes claim other → one ≡ other
one_plan boxes claim one other first second =
    first.slim
    ∙ ap slimmed (one_trimmed boxes (outline boxes (flattened boxes claim.net)) claim.input [] (flattened boxes claim.net) first.trimmed second.trimmed first.trims second.trims)
    ∙ sym second.slim
