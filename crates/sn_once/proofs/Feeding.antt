-- An engine that is fed item by item.
use Rattle.std.proofs.Common.{◌≡◌, false, List, [], ◌∷◌, ◌++◌, map, sym, ap, ap₂, ◌∙◌, subst}
use Rattle.std.specs.List.{All}
use Rattle.std.proofs.lemmas.List.{append-nil, append_assoc, map-append}
use Rattle.std.proofs.lemmas.List.Elements.{All-cons, All-nil, All-head, All-tail}
use mathlib.Core.Bool.{Bool-set}
use mathlib.Core.Logic.{∥∥₁_elim, ∥∥₁_map}
use Rattle.sn_streams.specs.Machines.{emitted}
use Rattle.sn_record.specs.declared.item.Item.{Item}
use Rattle.sn_net.specs.declared.expr.BoxProgram.{BoxProgram}
use Rattle.sn_net.specs.declared.net.Net.{Net}
use Rattle.sn_net.specs.Cell.{CellState}
use Rattle.sn_net.specs.Dispatchers.{Network}
use Rattle.sn_net.specs.Item.{ModelItem, holds_stuck, modelled}
use Rattle.sn_net.specs.WellFormed.{FitsBoxes}
use Rattle.sn_typing.specs.Typed.{IsTyped}
use Rattle.sn_model.specs.declared.run.Run.{Run}
use Rattle.sn_model.specs.Meaning.{one_list, tree}
use Rattle.sn_model.specs.Run.{boxes_of, net_of, setting_of}
use Rattle.sn_model.specs.Typed.{AreTyped, FitsNet}
use Rattle.sn_model.proofs.Lists.{one_list-allowed}
use Rattle.sn_sound.proofs.Items.{typed_list_never_stuck}
use Rattle.sn_pass.specs.Keeping.{Fresh, Keeping, keeping}
use Rattle.sn_pass.specs.Passing.{Passes}
use Rattle.sn_pass.specs.States.{held}
use Rattle.sn_pass.specs.declared.kept.Kept.{Kept}
use Rattle.sn_pass.proofs.Keeping.{keeping_is_one, same_emitted}
use Rattle.sn_once.specs.Giving.{IsRouted, still_gives}
use Rattle.sn_once.specs.declared.once.Once.{Once}
use Rattle.sn_once.specs.Rest.{IsOf, rest_of, run_of}
use Rattle.sn_once.proofs.Stuck.{free_behind}

-- the network of a run, as a tree
abbrev pub tree_of : Run → Network
tree_of run = tree (setting_of run) (net_of run)

-- where nothing is kept yet, the network gives the one-thread meaning
pub begins : (made run : Run) (kept : Kept) → made ≡ run → held kept ≡ Fresh → (xs : List ModelItem) → still_gives made kept xs ≡ one_list (setting_of run) (net_of run) xs
begins made run kept of fresh xs =
    ap (λ (q : Keeping CellState). emitted (keeping (tree_of made)) q xs) fresh
    ∙ sym (keeping_is_one (tree_of made) xs)
    ∙ ap (λ (r : Run). one_list (setting_of r) (net_of r) xs) of

-- and no record lacks a route
pub begins_routed : (made run : Run) (kept : Kept) → made ≡ run → held kept ≡ Fresh → FitsBoxes (boxes_of run) (net_of run) → IsRouted made kept
begins_routed made run kept of fresh fits xs typed =
    ap holds_stuck (begins made run kept of fresh xs)
    ∙ ∥∥₁_elim fits (Bool-set _ _) (λ formed. typed_list_never_stuck (setting_of run) (net_of run) formed xs (one_list (setting_of run) (net_of run) xs)
    (subst (λ (r : Run). All (IsTyped (boxes_of r) (net_of r)) xs) of typed) (one_list-allowed (setting_of run) (net_of run) xs))

module _ (once : Once) (run : Run) (net : Net) (of : IsOf once run) (is_net : net ≡ net_of run) (later : Keeping CellState) (item : Item) (x y : ModelItem) (none came : List ModelItem)
    (empty : none ≡ []) (is_item : y ≡ x) (step : Passes (tree (setting_of run) net) (held once.kept) later y none came) where
  -- the step, as one of the network of the engine's run
  own_step : Passes (tree_of (run_of once)) (held once.kept) later x [] came
  own_step =
      subst (λ (r : Run). Passes (tree_of r) (held once.kept) later x [] came) (sym of)
      (subst (λ (n : Net). Passes (tree (setting_of run) n) (held once.kept) later x [] came) is_net
      (subst (λ (ys : List ModelItem). Passes (tree (setting_of run) net) (held once.kept) later x ys came) empty
      (subst (λ (z : ModelItem). Passes (tree (setting_of run) net) (held once.kept) later z none came) is_item step)))

  -- what the engine gives for the item alone
  pub rest_one : rest_of once (x ∷ []) ≡ came
  rest_one = append-nil ((keeping (tree_of (run_of once))).emits (held once.kept) x) ∙ sym own_step.gives

  -- and what it still gives then
  pub rest_more : (given : List Item) → map modelled given ≡ came → (xs : List ModelItem) → rest_of once (x ∷ xs) ≡ map modelled given ++ emitted (keeping (tree_of (run_of once))) later xs
  rest_more given gave xs =
      let t : Network = tree_of (run_of once) in
      ap₂ (λ ys zs. ys ++ zs) (sym own_step.gives ∙ sym gave)
      (sym (same_emitted t later ((keeping t).next (held once.kept) x) own_step.keeps xs))

  typed_here : FitsNet (boxes_of run) (net_of run) item → FitsNet (boxes_of (run_of once)) (net_of (run_of once)) item
  typed_here typed = subst (λ (r : Run). FitsNet (boxes_of r) (net_of r) item) (sym of) typed

  module _ (is_modelled : x ≡ modelled item) (typed : FitsNet (boxes_of run) (net_of run) item) where
    -- what came for the item has a route
    pub routed_one : holds_stuck came ≡ false
    routed_one = ∥∥₁_elim (typed_here typed) (Bool-set _ _) (λ t.
        let here = subst (IsTyped (boxes_of (run_of once)) (net_of (run_of once))) (sym is_modelled) t in
        ap holds_stuck (sym rest_one) ∙ once.routed (x ∷ []) (All-cons (IsTyped (boxes_of (run_of once)) (net_of (run_of once))) x [] here (All-nil (IsTyped (boxes_of (run_of once)) (net_of (run_of once))))))

    -- and so has what comes later
    pub routed_later : (given : List Item) → map modelled given ≡ came → (kept : Kept) → held kept ≡ later → IsRouted (run_of once) kept
    routed_later given gave kept is xs all = ∥∥₁_elim (typed_here typed) (Bool-set _ _) (λ t.
        let here = subst (IsTyped (boxes_of (run_of once)) (net_of (run_of once))) (sym is_modelled) t in
        let free = once.routed (x ∷ xs) (All-cons (IsTyped (boxes_of (run_of once)) (net_of (run_of once))) x xs here all) in
        ap (λ (q : Keeping CellState). holds_stuck (emitted (keeping (tree_of (run_of once))) q xs)) is
        ∙ free_behind (map modelled given) (emitted (keeping (tree_of (run_of once))) later xs) (ap holds_stuck (sym (rest_more given gave xs)) ∙ free))

-- before the first item
pub at_first : (once : Once) (run : Run) (out items left : List Item) → ((xs : List ModelItem) → rest_of once xs ≡ one_list (setting_of run) (net_of run) xs) → out ≡ [] → left ≡ items
    → one_list (setting_of run) (net_of run) (map modelled items) ≡ map modelled out ++ rest_of once (map modelled left)
at_first once run out items left rest empty same =
    ap (λ (xs : List Item). one_list (setting_of run) (net_of run) (map modelled xs)) (sym same)
    ∙ sym (ap (λ (ys : List Item). map modelled ys ++ rest_of once (map modelled left)) empty ∙ rest (map modelled left))

module _ (whole : List ModelItem) where
  -- what was given so far, and what an engine still gives for the items that are left
  abbrev pub IsSoFar : Once → (out left : List Item) → Type 0
  IsSoFar once out left = whole ≡ map modelled out ++ rest_of once (map modelled left)

  pub with_more : (once next : Once) (out given grown old left : List Item) (item : Item) → old ≡ item ∷ left → IsSoFar once out old
      → ((xs : List ModelItem) → rest_of once (modelled item ∷ xs) ≡ map modelled given ++ rest_of next xs) → grown ≡ out ++ given → IsSoFar next grown left
  with_more once next out given grown old left item is was fed pushed =
      let later : List ModelItem = map modelled left in
      was
      ∙ ap (λ (items : List Item). map modelled out ++ rest_of once (map modelled items)) is
      ∙ ap (λ ys. map modelled out ++ ys) (fed later)
      ∙ sym (append_assoc (map modelled out) (map modelled given) (rest_of next later))
      ∙ ap (λ ys. ys ++ rest_of next later) (sym (ap (map modelled) pushed ∙ map-append modelled out given))

  pub at_last : (once : Once) (out left : List Item) → left ≡ [] → IsSoFar once out left → map modelled out ≡ whole
  at_last once out left none was =
      sym (was ∙ ap (λ (items : List Item). map modelled out ++ rest_of once (map modelled items)) none ∙ append-nil (map modelled out))

-- the items that are left, one by one
module _ (boxes : List BoxProgram) (net : Net) where
  pub first_typed : (items left : List Item) (item : Item) → items ≡ item ∷ left → AreTyped boxes net items → FitsNet boxes net item
  first_typed items left item is typed =
      ∥∥₁_map typed (λ all. All-head (IsTyped boxes net) (modelled item) (map modelled left) (subst (λ (xs : List Item). All (IsTyped boxes net) (map modelled xs)) is all))

  pub rest_typed : (items left : List Item) (item : Item) → items ≡ item ∷ left → AreTyped boxes net items → AreTyped boxes net left
  rest_typed items left item is typed =
      ∥∥₁_map typed (λ all. All-tail (IsTyped boxes net) (modelled item) (map modelled left) (subst (λ (xs : List Item). All (IsTyped boxes net) (map modelled xs)) is all))
