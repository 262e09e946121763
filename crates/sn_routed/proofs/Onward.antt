-- Steps that lead somewhere lead on.
use Rattle.std.proofs.Common.{◌≡◌, ℕ, ℤ, zero, suc, true, List, [], ◌∷◌, ◌++◌, map, refl, sym, ap, ◌∙◌, subst}
use Rattle.std.specs.Prelude.{Option, None, Some, is_some, slice_get}
use Rattle.std.specs.Option.{option_and_then, option_map}
use Rattle.std.proofs.lemmas.Bool.{false≢true}
use Rattle.std.proofs.lemmas.Option.{none-some, same_Some}
use mathlib.Core.Bool.{Bool-set}
use mathlib.Core.Logic.{∥∥₁_elim}
use Rattle.sn_record.specs.LabelSet.{Labels}
use Rattle.sn_record.specs.Record.{Entries}
use Rattle.sn_tagexpr.specs.declared.expr.TagExpr.{TagExpr}
use Rattle.sn_streams.specs.Keys.{Branch, Inside, Value}
use Rattle.sn_streams.specs.Segments.{Segments}
use Rattle.sn_streams.specs.Trees.{Series}
use Rattle.sn_histories.specs.Sites.{Site, Step, Left, Right, Into}
use Rattle.sn_net.specs.declared.expr.BoxProgram.{BoxProgram}
use Rattle.sn_net.specs.declared.net.Merge.{Merge}
use Rattle.sn_net.specs.declared.net.Net.{Net}
use Rattle.sn_net.specs.declared.net.Net.TheOpen.{Net-F}
use Rattle.sn_net.specs.declared.net.Net.TheFolds.{every-Net, every_held-Net, every_here-Net, map-Net}
use Rattle.sn_net.specs.declared.net.Net.TheViews.{out-Net}
use Rattle.sn_net.specs.declared.routing.Key.TheVariants as key
use Rattle.sn_net.specs.Cell.{CellState}
use Rattle.sn_net.specs.Dispatchers.{Network, choice, level, split, stream_key}
use Rattle.sn_net.specs.Item.{ModelItem, Rec, Fault, Stuck}
use Rattle.sn_net.specs.Route.{choice_key, of_record}
use Rattle.sn_net.specs.WellFormed.{IsSound}
use Rattle.sn_model.specs.declared.run.Run.{Run}
use Rattle.sn_model.specs.Meaning.{Setting, tree}
use Rattle.sn_model.specs.Run.{input_of, setting_of}
use Rattle.sn_net_histories.specs.Histories.{IsAtRun, leads_somewhere, Spot, Whole, Level, Replica, tree_of}
use Rattle.sn_routed.specs.Spots.{from_form, from_level, spot_at, spot_behind}
use Rattle.sn_routed.proofs.Forms.{holds_series, is_branch, is_series, is_value, sent_as, tagged}
use Rattle.sn_routed.proofs.Forms.{branch_form, inside_form, level_inside, level_no_series, level_sends, series_form, tagged_goes, value_form}
use Rattle.sn_routed.proofs.Spots.{leads_spot, spot_further, spot_reached, tree_out}

-- the same of spots as of forms
module _ (s : Setting) where
  series_spot : (spot : Spot) → is_series (tree_of s spot) ≡ true → (is_some (spot_behind s.depth spot Left) ≡ true) × (is_some (spot_behind s.depth spot Right) ≡ true)
  series_spot (Whole net) e = series_form s (out-Net net) (ap is_series (sym (tree_out s net)) ∙ e)
  series_spot (Level place m exit guard body left) e = absurd (false≢true (sym (level_no_series place m exit guard (tree s body) left) ∙ e))
  series_spot (Replica place m exit guard body left) e = (refl, refl)

  inside_spot : (spot : Spot) → holds_series (tree_of s spot) ≡ true → is_some (spot_behind s.depth spot (Into Inside)) ≡ true
  inside_spot (Whole net) e = inside_form s (out-Net net) (ap holds_series (sym (tree_out s net)) ∙ e)
  inside_spot (Level place m exit guard body left) e = level_inside place m exit guard (tree s body) body left e
  inside_spot (Replica place m exit guard body left) e = absurd (false≢true e)

  value_spot : (spot : Spot) (r : Entries) (n : ℤ) → is_value (sent_as (tree_of s spot) (Rec r)) ≡ true → is_some (spot_behind s.depth spot (Into (Value n))) ≡ true
  value_spot (Whole net) r n e = value_form s (out-Net net) r n (ap (λ (t : Network). is_value (sent_as t (Rec r))) (sym (tree_out s net)) ∙ e)
  value_spot (Level place m exit guard body left) r n e = absurd (false≢true (sym (level_sends is_value refl refl place m exit guard (tree s body) left r) ∙ e))
  value_spot (Replica place m exit guard body left) r n e = absurd (false≢true e)

-- Each part of what stands at a spot is sound.
module _ (boxes : List BoxProgram) where
  abbrev Sound : Net → Type 0
  Sound = every-Net (IsSound boxes)

  abbrev SoundSpot : Spot → Type 0
  SoundSpot (Whole net) = Sound net
  SoundSpot (Level place m exit guard body left) = Sound body
  SoundSpot (Replica place m exit guard body left) = Sound body

  level_sound : (place : ℕ) (m : Merge) (exit : Labels) (guard : Option TagExpr) (body : Net) (left : ℕ) (step : Step) (next : Spot) → Sound body
      → from_level place m exit guard body left step ≡ Some next → SoundSpot next
  level_sound place m exit guard body (suc left) (Into Inside) next sound e = subst SoundSpot (same_Some (Replica place m exit guard body left) next e) sound
  level_sound place m exit guard body _ _ next sound e = absurd (none-some next e)

  branch_sound : (branches : List ((net : Net) × Sound net)) (i : ℕ) (next : Spot) → option_map Whole (slice_get (map (λ e. e.0) branches) i) ≡ Some next → SoundSpot next
  branch_sound [] i next e = absurd (none-some next e)
  branch_sound (b ∷ branches) zero next e = subst SoundSpot (same_Some (Whole b.0) next e) b.1
  branch_sound (b ∷ branches) (suc i) next e = branch_sound branches i next e

  form_sound : (depth : ℕ) (y : Net-F ((net : Net) × Sound net)) (step : Step) (next : Spot) → from_form depth (map-Net _ _ (λ e. e.0) y) step ≡ Some next → SoundSpot next
  form_sound depth (Net-F.Star place merge body exit guard) step next e = level_sound place merge exit guard body.0 depth step next body.1 e
  form_sound depth (Net-F.Serial left right) Left next e = subst SoundSpot (same_Some (Whole left.0) next e) left.1
  form_sound depth (Net-F.Serial left right) Right next e = subst SoundSpot (same_Some (Whole right.0) next e) right.1
  form_sound depth (Net-F.Choice place merge branches faces) (Into (Branch i)) next e = branch_sound branches i next e
  form_sound depth (Net-F.Split place merge body id) (Into (Value n)) next e = subst SoundSpot (same_Some (Whole body.0) next e) body.1
  form_sound depth _ _ next e = absurd (none-some next e)

  next_sound : (depth : ℕ) (spot : Spot) (step : Step) (next : Spot) → SoundSpot spot → spot_behind depth spot step ≡ Some next → SoundSpot next
  next_sound depth (Whole net) step next sound e =
      let held = every_held-Net (IsSound boxes) net sound in
      form_sound depth held.0 step next (ap (λ y. from_form depth y step) held.1 ∙ e)
  next_sound depth (Level place m exit guard body left) step next sound e = level_sound place m exit guard body left step next sound e
  next_sound depth (Replica place m exit guard body left) Left next sound e = subst SoundSpot (same_Some (Whole body) next e) sound
  next_sound depth (Replica place m exit guard body left) Right next sound e = subst SoundSpot (same_Some (Level place m exit guard body left) next e) sound
  next_sound depth (Replica place m exit guard body left) (Into k) next sound e = absurd (none-some next e)

  spot_sound : (depth : ℕ) (steps : List Step) (spot to : Spot) → SoundSpot spot → spot_at depth spot steps ≡ Some to → SoundSpot to
  spot_sound depth [] spot to sound e = subst SoundSpot (same_Some spot to e) sound
  spot_sound depth (step ∷ steps) spot to sound e = at (λ next here f. spot_sound depth steps next to here f) (spot_behind depth spot step) refl e
    where
      at : ((next : Spot) → SoundSpot next → spot_at depth next steps ≡ Some to → SoundSpot to) → (o : Option Spot) → spot_behind depth spot step ≡ o
          → option_and_then (λ next. spot_at depth next steps) o ≡ Some to → SoundSpot to
      at goes_on None is f = absurd (none-some to f)
      at goes_on (Some next) is f = goes_on next (next_sound depth spot step next sound is) f

branch_spot : (s : Setting) (spot : Spot) (r : Entries) (i : ℕ) → SoundSpot s.boxes spot → sent_as (tree_of s spot) (Rec r) ≡ Branch i
    → is_some (spot_behind s.depth spot (Into (Branch i))) ≡ true
branch_spot s (Whole net) r i sound e =
    branch_form s (out-Net net) r i (every_here-Net (IsSound s.boxes) net sound) (ap (λ (t : Network). sent_as t (Rec r)) (sym (tree_out s net)) ∙ e)
branch_spot s (Level place m exit guard body left) r i sound e =
    absurd (false≢true (sym (level_sends is_branch refl refl place m exit guard (tree s body) left r) ∙ ap is_branch e))
branch_spot s (Replica place m exit guard body left) r i sound e = absurd (false≢true (ap is_branch e))

module _ (run : Run) (steps : List Step) (t : Network) (xss : Segments ModelItem) (leads : leads_somewhere run.depth run.net steps ≡ true)
    (at : IsAtRun run steps (record { part = t; seg = xss })) where
  leads_on : (step : Step) → ((spot : Spot) → spot_at run.depth (Whole run.net) steps ≡ Some spot → t ≡ tree_of (setting_of run) spot → is_some (spot_behind run.depth spot step) ≡ true)
      → leads_somewhere run.depth run.net (steps ++ (step ∷ [])) ≡ true
  leads_on step onward = from (spot_at run.depth (Whole run.net) steps) refl
    where
      ends : (o : Option Spot) → is_some o ≡ true → is_some (option_and_then (λ next. spot_at run.depth next []) o) ≡ true
      ends None e = e
      ends (Some next) e = e

      from : (o : Option Spot) → spot_at run.depth (Whole run.net) steps ≡ o → leads_somewhere run.depth run.net (steps ++ (step ∷ [])) ≡ true
      from None is = absurd (false≢true (sym (leads_spot run.depth run.net steps ∙ ap is_some is) ∙ leads))
      from (Some spot) is =
          let here = spot_reached (setting_of run) steps (Whole run.net) spot (input_of run ∷ []) is in
          let same : t ≡ tree_of (setting_of run) spot = ap (λ (u : Site ModelItem CellState). u.part) (same_Some _ _ (sym at ∙ here.1)) in
          leads_spot run.depth run.net (steps ++ (step ∷ []))
          ∙ ap is_some (spot_further run.depth steps (step ∷ []) (Whole run.net) ∙ ap (option_and_then (λ next. spot_at run.depth next (step ∷ []))) is)
          ∙ ends (spot_behind run.depth spot step) (onward spot is same)

pub on_left : (run : Run) (steps : List Step) (a b : Network) (xss : Segments ModelItem) → leads_somewhere run.depth run.net steps ≡ true
    → IsAtRun run steps (record { part = Series a b; seg = xss }) → leads_somewhere run.depth run.net (steps ++ (Left ∷ [])) ≡ true
on_left run steps a b xss leads at = leads_on run steps (Series a b) xss leads at Left (λ spot is same. (series_spot (setting_of run) spot (ap is_series (sym same))).0)

pub on_right : (run : Run) (steps : List Step) (a b : Network) (xss : Segments ModelItem) → leads_somewhere run.depth run.net steps ≡ true
    → IsAtRun run steps (record { part = Series a b; seg = xss }) → leads_somewhere run.depth run.net (steps ++ (Right ∷ [])) ≡ true
on_right run steps a b xss leads at = leads_on run steps (Series a b) xss leads at Right (λ spot is same. (series_spot (setting_of run) spot (ap is_series (sym same))).1)

pub on_inside : (run : Run) (steps : List Step) (place : ℕ) (m : Merge) (exit : Labels) (guard : Option TagExpr) (body : Network) (left : ℕ) (xss : Segments ModelItem)
    → leads_somewhere run.depth run.net steps ≡ true → IsAtRun run steps (record { part = level place m exit guard body (suc left); seg = xss })
    → leads_somewhere run.depth run.net (steps ++ (Into Inside ∷ [])) ≡ true
on_inside run steps place m exit guard body left xss leads at =
    leads_on run steps (level place m exit guard body (suc left)) xss leads at (Into Inside) (λ spot is same. inside_spot (setting_of run) spot (ap holds_series (sym same)))

pub on_replica : (run : Run) (steps : List Step) (place : ℕ) (m : Merge) (id : ℕ) (body : Network) (n : ℤ) (xss : Segments ModelItem)
    → leads_somewhere run.depth run.net steps ≡ true → IsAtRun run steps (record { part = split place m id body; seg = xss })
    → leads_somewhere run.depth run.net (steps ++ (Into (Value n) ∷ [])) ≡ true
on_replica run steps place m id body n xss leads at =
    leads_on run steps (split place m id body) xss leads at (Into (Value n))
    (λ spot is same. value_spot (setting_of run) spot (tagged id) n (ap (λ (t : Network). is_value (sent_as t (Rec (tagged id)))) (sym same) ∙ tagged_goes place m id body))

pub on_branch : (run : Run) (steps : List Step) (place : ℕ) (m : Merge) (faces : List (List Labels)) (branches : List Network) (i : ℕ) (x : ModelItem) (xss : Segments ModelItem)
    → of_record (choice_key faces) x ≡ key.Branch i → leads_somewhere run.depth run.net steps ≡ true
    → IsAtRun run steps (record { part = choice place m faces branches; seg = xss }) → leads_somewhere run.depth run.net (steps ++ (Into (Branch i) ∷ [])) ≡ true
on_branch run steps place m faces branches i (Rec r) xss sent leads at =
    ∥∥₁_elim run.formed (Bool-set _ _) (λ formed.
    leads_on run steps (choice place m faces branches) xss leads at (Into (Branch i))
    (λ spot is same. branch_spot (setting_of run) spot r i (spot_sound run.boxes run.depth steps (Whole run.net) spot formed.sound is)
    (ap (λ (t : Network). sent_as t (Rec r)) (sym same) ∙ ap stream_key sent)))
on_branch run steps place m faces branches i (Fault fault) xss sent leads at = absurd (false≢true (ap is_branch (ap stream_key sent)))
on_branch run steps place m faces branches i (Stuck p) xss sent leads at = absurd (false≢true (ap is_branch (ap stream_key sent)))
