-- The tree of a sound component is sound, and each tree of a source of which nothing is refused.
use Rattle.std.proofs.Common.{◌≡◌, ℕ, zero, suc, ◌≤◌, true, false, if◌then◌else◌, cond, nat_le, nat_lt, IfSome, List, [], ◌∷◌, length, map as each, Option, Some, None, option_map, slice_get, refl, sym, ap, subst, arith}
use Rattle.std.proofs.lemmas.Bool.Decides.{nat_tests}
use Rattle.std.proofs.lemmas.List.Elements.{All-head, All-tail}
use Rattle.sn_ast.specs.declared.declaration.Program.{Program}
use Rattle.sn_net.specs.Face.{face}
use Rattle.sn_net.specs.WellFormed.{IsSound, IsWellFormed, most_branches}
use Rattle.sn_net.specs.declared.expr.BoxProgram.{BoxProgram}
use Rattle.sn_net.specs.declared.net.Merge.{Merge}
use Rattle.sn_net.specs.declared.net.Net.{Net}
use Rattle.sn_net.specs.declared.net.Net.TheFolds.{every-Net, every_made-Net, map-Net}
use Rattle.sn_net.specs.declared.net.Net.TheOpen.{Net-F}
use Rattle.sn_net.specs.declared.net.Net.TheVariants as net
use Rattle.sn_net.specs.declared.net.Net.TheViews.{roll-Net}
use Rattle.sn_scope.specs.Declarations.{declarations_of}
use Rattle.sn_scope.specs.Trees.{all_some, call, component_of, component_step, in_series, most_levels, most_variants, narrow, node, node_step, series, then_some, tree, tree_of}
use Rattle.sn_scope.specs.declared.network.Component.{Component}
use Rattle.sn_scope.specs.declared.network.Component.TheFolds.{every_here-Component, every_held-Component, every_held-Network, map-Component, map-Network}
use Rattle.sn_scope.specs.declared.network.Component.TheOpen.{Component-F, Network-F}
use Rattle.sn_scope.specs.declared.network.Component.TheVariants as component
use Rattle.sn_scope.specs.declared.network.Network.{Network}
use Rattle.sn_scope.proofs.SoundComponents.{IsSoundComponent, IsSoundLevel, IsSoundNetwork, IsSoundPart, SoundComponent, SoundNetwork, networks, sound_serial}
use Rattle.sn_scope.proofs.SoundDeclarations.{AreSound, boxes_are_closed, nets_are_sound}

-- a tree that is sound at each level
abbrev pub IsSoundTree : List BoxProgram → Net → Type 0
IsSoundTree boxes = every-Net (IsSound boxes)

abbrev SoundTree : List BoxProgram → Type 0
SoundTree boxes = (tree : Net) × IsSoundTree boxes tree

abbrev trees : (boxes : List BoxProgram) → List (SoundTree boxes) → List Net
trees boxes = each (λ e. e.0)

-- what holds of what there is holds of what is made of it
if_mapped : {A B : Type 0} (o : Option A) (f : A → B) (P : A → Type 0) (Q : B → Type 0) → IfSome o P → ((x : A) → P x → Q (f x)) → IfSome (option_map f o) Q
if_mapped None f P Q here step = tt
if_mapped (Some x) f P Q here step = step x here

if_then : {A B : Type 0} (o : Option A) (next : A → Option B) (P : A → Type 0) (Q : B → Type 0) → IfSome o P → ((x : A) → P x → IfSome (next x) Q) → IfSome (then_some o next) Q
if_then None next P Q here step = tt
if_then (Some x) next P Q here step = step x here

-- a level of sound trees is sound where it is itself
made : (boxes : List BoxProgram) (x : Net-F (SoundTree boxes)) (y : Net-F Net) → map-Net (SoundTree boxes) Net (λ e. e.0) x ≡ y → IsSound boxes y → IsSoundTree boxes (roll-Net y)
made boxes x y is level = every_made-Net (IsSound boxes) y x is level

in_series_sound : (boxes : List BoxProgram) (left right : Option Net) → IfSome left (IsSoundTree boxes) → IfSome right (IsSoundTree boxes) → IfSome (in_series left right) (IsSoundTree boxes)
in_series_sound boxes left right first second =
    if_then left (λ l. option_map (λ r. net.Serial l r) right) (IsSoundTree boxes) (IsSoundTree boxes) first (λ l sound. if_mapped right (λ r. net.Serial l r) (IsSoundTree boxes) (IsSoundTree boxes) second
    (λ r other. subst (IsSoundTree boxes) (net.rolls-Serial l r) (made boxes (Net-F.Serial (l, sound) (r, other)) (Net-F.Serial l r) refl tt)))

-- a call is of one of the boxes
call_sound : (boxes : List BoxProgram) (place number : ℕ) → IfSome (call boxes place number) (IsSoundTree boxes)
call_sound boxes place number =
    elim (nat_lt number (length boxes)) as (λ b. nat_lt number (length boxes) ≡ b → IfSome (cond b (Some (net.Box place number)) None) (IsSoundTree boxes)) [
      | true ↦ λ below. subst (IsSoundTree boxes) (net.rolls-Box place number) (made boxes (Net-F.Box place number) (Net-F.Box place number) refl (grind (arith, nat_tests, below)))
      | false ↦ λ _. tt
    ] refl

module _ (boxes : List BoxProgram) (part : Network → Option Net) (rest : List Network → Option Net) (part_sound : (n : SoundNetwork) → IfSome (part n.0) (IsSoundTree boxes))
    (rest_sound : (ns : List SoundNetwork) → IfSome (rest (networks ns)) (IsSoundTree boxes)) where
  series_sound : (parts : List SoundNetwork) → IfSome (series part rest (networks parts)) (IsSoundTree boxes)
  series_sound [] = tt
  series_sound (first ∷ []) = tt
  series_sound (first ∷ second ∷ []) = in_series_sound boxes (part first.0) (part second.0) (part_sound first) (part_sound second)
  series_sound (first ∷ second ∷ third ∷ more) =
      in_series_sound boxes (part first.0) (rest (networks (second ∷ third ∷ more))) (part_sound first) (rest_sound (second ∷ third ∷ more))

  -- the trees of branches, as many as these
  abbrev AreTrees : List SoundNetwork → List Net → Type 0
  AreTrees branches nets = (sound : List (SoundTree boxes)) × (trees boxes sound ≡ nets) × (length nets ≡ length (networks branches))

  branches_sound : (branches : List SoundNetwork) → IfSome (all_some (each part (networks branches))) (AreTrees branches)
  branches_sound [] = ([], refl, refl)
  branches_sound (branch ∷ branches) =
      if_then (part branch.0) (λ net. option_map (λ nets. net ∷ nets) (all_some (each part (networks branches)))) (IsSoundTree boxes) (AreTrees (branch ∷ branches)) (part_sound branch)
      (λ net sound. if_mapped (all_some (each part (networks branches))) (λ nets. net ∷ nets) (AreTrees branches) (AreTrees (branch ∷ branches)) (branches_sound branches)
      (λ nets more. ((net, sound) ∷ more.0, ap (λ ns. net ∷ ns) more.1, ap suc more.2)))

  choice_sound : (place : ℕ) (merge : Merge) (branches : List SoundNetwork) → length (networks branches) ≤ most_branches → (nets : List Net) → AreTrees branches nets
      → IsSoundTree boxes (net.Choice place merge nets (each (face boxes) nets))
  choice_sound place merge branches few nets are =
      let faces = each (face boxes) nets in
      subst (IsSoundTree boxes) (net.rolls-Choice place merge nets faces)
      (made boxes (Net-F.Choice place merge are.0 faces) (Net-F.Choice place merge nets faces) (ap (λ ns. Net-F.Choice place merge ns faces) are.1)
      (record { few = subst (λ n. n ≤ most_branches) (sym are.2) few; paired = refl }))

  -- a level over sound parts has a sound tree
  node_sound : (x : Component-F SoundComponent SoundNetwork) → IsSoundLevel (map-Component SoundComponent SoundNetwork Component Network (λ e. e.0) (λ e. e.0) x)
      → IfSome (node_step boxes part rest (map-Component SoundComponent SoundNetwork Component Network (λ e. e.0) (λ e. e.0) x)) (IsSoundTree boxes)
  node_sound (Component-F.Box place number) level = call_sound boxes place number
  node_sound (Component-F.Filter filter) level = subst (IsSoundTree boxes) (net.rolls-Filter filter) (made boxes (Net-F.Filter filter) (Net-F.Filter filter) refl level)
  node_sound (Component-F.Sync place patterns) level = subst (IsSoundTree boxes) (net.rolls-Sync place patterns) (made boxes (Net-F.Sync place patterns) (Net-F.Sync place patterns) refl tt)
  node_sound (Component-F.Serial parts) level = series_sound parts
  node_sound (Component-F.Choice place merge branches) level =
      if_mapped (all_some (each part (networks branches))) (λ nets. net.Choice place merge nets (each (face boxes) nets)) (AreTrees branches) (IsSoundTree boxes) (branches_sound branches) (choice_sound place merge branches level)
  node_sound (Component-F.Star place merge body exit guard) level =
      if_mapped (part body.0) (λ tree. net.Star place merge tree exit guard) (IsSoundTree boxes) (IsSoundTree boxes) (part_sound body)
      (λ tree sound. subst (IsSoundTree boxes) (net.rolls-Star place merge tree exit guard) (made boxes (Net-F.Star place merge (tree, sound) exit guard) (Net-F.Star place merge tree exit guard) refl level))
  node_sound (Component-F.Split place merge body tag) level =
      if_mapped (part body.0) (λ tree. net.Split place merge tree tag) (IsSoundTree boxes) (IsSoundTree boxes) (part_sound body)
      (λ tree sound. subst (IsSoundTree boxes) (net.rolls-Split place merge tree tag) (made boxes (Net-F.Split place merge (tree, sound) tag) (Net-F.Split place merge tree tag) refl tt))

  component_sound : (c : Component) → IsSoundComponent c → IfSome (node boxes part rest c) (IsSoundTree boxes)
  component_sound c sound =
      let held = every_held-Component IsSoundLevel IsSoundPart c sound in
      let level = every_here-Component IsSoundLevel IsSoundPart c sound in
      subst (λ z. IfSome (node_step boxes part rest z) (IsSoundTree boxes)) held.1 (node_sound held.0 (subst IsSoundLevel (sym held.1) level))

narrow_sound : (boxes : List BoxProgram) (made : Net) → IsSoundTree boxes made → IfSome (narrow boxes made) (IsSoundTree boxes)
narrow_sound boxes made sound = elim (nat_le (length (face boxes made)) most_variants) as (λ b. IfSome (if b then Some made else None) (IsSoundTree boxes)) [ true ↦ sound | false ↦ tt ]

-- a net among sound components is sound
found_sound : (nets : List Component) (number : ℕ) → AreSound nets → IfSome (slice_get nets number) IsSoundComponent
found_sound [] number sound = tt
found_sound (c ∷ nets) zero sound = All-head IsSoundComponent c nets sound
found_sound (c ∷ nets) (suc number) sound = found_sound nets number (All-tail IsSoundComponent c nets sound)

module _ (boxes : List BoxProgram) (nets : List Component) (are_sound : AreSound nets) where
  step_sound : (y : Network-F SoundComponent SoundNetwork) → IfSome (component_step nets (map-Network SoundComponent SoundNetwork Component Network (λ e. e.0) (λ e. e.0) y)) IsSoundComponent
  step_sound (Network-F.Named number) = found_sound nets number are_sound
  step_sound (Network-F.Made c) = c.1

  part_sound : (n : Network) → IsSoundNetwork n → IfSome (component_of nets n) IsSoundComponent
  part_sound n sound =
      let held = every_held-Network IsSoundLevel IsSoundPart n sound in
      subst (λ z. IfSome (component_step nets z) IsSoundComponent) held.1 (step_sound held.0)

  -- the tree of a sound component is sound
  pub tree_sound : (levels : ℕ) (c : Component) → IsSoundComponent c → IfSome (tree boxes levels nets c) (IsSoundTree boxes)
  tree_sound zero c sound = tt
  tree_sound (suc levels) c sound =
      let part = λ (n : Network). then_some (component_of nets n) (tree boxes levels nets) in
      let rest = λ (ns : List Network). tree boxes levels nets (component.Serial ns) in
      if_then (node boxes part rest c) (narrow boxes) (IsSoundTree boxes) (IsSoundTree boxes)
      (component_sound boxes part rest
      (λ n. if_then (component_of nets n.0) (tree boxes levels nets) IsSoundComponent (IsSoundTree boxes) (part_sound n.0 n.1) (tree_sound levels))
      (λ ns. tree_sound levels (component.Serial (networks ns)) (sound_serial ns)) c sound)
      (narrow_sound boxes)

  -- the tree of a net by its number is sound
  pub numbered_sound : (levels number : ℕ) → IfSome (then_some (slice_get nets number) (tree boxes levels nets)) (IsSoundTree boxes)
  numbered_sound levels number = if_then (slice_get nets number) (tree boxes levels nets) IsSoundComponent (IsSoundTree boxes) (found_sound nets number are_sound) (tree_sound levels)

-- where nothing of a source is refused, each tree is well formed
pub trees_are_sound : (names : List (List ℕ)) (program : Program) (number : ℕ) (tree : Net) →
    (declarations_of names program).refusals ≡ None →
    tree_of (declarations_of names program).boxes (declarations_of names program).nets number ≡ Some tree →
    IsWellFormed (declarations_of names program).boxes tree
trees_are_sound names program number tree none is =
    let st = declarations_of names program in
    record {
      closed = boxes_are_closed names program none;
      sound = subst (λ o. IfSome o (IsSoundTree st.boxes)) is (numbered_sound st.boxes st.nets (nets_are_sound names program none) most_levels number);
    }
