-- Steps lead somewhere just where they reach a spot, and there stands its tree.
use Rattle.std.proofs.Common.{◌≡◌, ℕ, zero, suc, Bool, true, false, List, [], ◌∷◌, ◌++◌, map, refl, sym, ap, ◌∙◌, subst}
use Rattle.std.specs.Prelude.{Option, None, Some, is_some, slice_get, unwrap_or}
use Rattle.std.specs.Option.{option_and_then, option_map}
use Rattle.std.proofs.lemmas.Option.{none-some, same_Some}
use Rattle.sn_record.specs.LabelSet.{Labels}
use Rattle.sn_tagexpr.specs.declared.expr.TagExpr.{TagExpr}
use Rattle.sn_streams.specs.Forks.{by_item}
use Rattle.sn_streams.specs.Keys.{Branch, Inside, Value}
use Rattle.sn_streams.specs.Segments.{Segments}
use Rattle.sn_histories.specs.Sites.{Site, Step, Left, Right, Into, stepped, reached}
use Rattle.sn_net.specs.declared.net.Merge.{Merge}
use Rattle.sn_net.specs.declared.net.Net.{Net}
use Rattle.sn_net.specs.declared.net.Net.TheOpen.{Net-F}
use Rattle.sn_net.specs.declared.net.Net.TheFolds.{fold_out-Net, map-Net}
use Rattle.sn_net.specs.declared.net.Net.TheViews.{out-Net}
use Rattle.sn_net.specs.Cell.{CellState}
use Rattle.sn_net.specs.Dispatchers.{Network, level, router}
use Rattle.sn_net.specs.Item.{ModelItem}
use Rattle.sn_net.specs.Route.{choice_key, of_record}
use Rattle.sn_model.specs.Meaning.{Setting, tree, tree_step}
use Rattle.sn_net_histories.specs.Histories.{in_branch, in_level, leads_step, leads_somewhere, Spot, Whole, Level, Replica, tree_of}
use Rattle.sn_net_histories.proofs.Roots.{root_leads}
use Rattle.sn_routed.specs.Spots.{from_form, from_level, spot_at, spot_behind}

-- whether steps lead somewhere from a spot
abbrev leads_from : ℕ → Spot → List Step → Bool
leads_from depth (Whole net) steps = leads_somewhere depth net steps
leads_from depth (Level place m exit guard body left) steps = in_level (leads_somewhere depth body) left steps
leads_from depth (Replica place m exit guard body left) [] = true
leads_from depth (Replica place m exit guard body left) (Left ∷ steps) = leads_somewhere depth body steps
leads_from depth (Replica place m exit guard body left) (Right ∷ steps) = in_level (leads_somewhere depth body) left steps
leads_from depth (Replica place m exit guard body left) (Into k ∷ steps) = false

abbrev behind : ℕ → List Step → Option Spot → Bool
behind depth steps o = unwrap_or (option_map (λ next. leads_from depth next steps) o) false

module _ (depth : ℕ) where
  level_next : (place : ℕ) (m : Merge) (exit : Labels) (guard : Option TagExpr) (body : Net) (left : ℕ) (step : Step) (steps : List Step)
      → in_level (leads_somewhere depth body) left (step ∷ steps) ≡ behind depth steps (from_level place m exit guard body left step)
  level_next place m exit guard body (suc left) (Into Inside) [] = refl
  level_next place m exit guard body (suc left) (Into Inside) (Left ∷ steps) = refl
  level_next place m exit guard body (suc left) (Into Inside) (Right ∷ steps) = refl
  level_next place m exit guard body (suc left) (Into Inside) (Into k ∷ steps) = refl
  level_next place m exit guard body _ _ steps = refl

  branch_next : (branches : List Net) (i : ℕ) (steps : List Step)
      → in_branch (slice_get (map (leads_somewhere depth) branches) i) steps ≡ behind depth steps (option_map Whole (slice_get branches i))
  branch_next [] i steps = refl
  branch_next (b ∷ branches) zero steps = refl
  branch_next (b ∷ branches) (suc i) steps = branch_next branches i steps

  form_next : (y : Net-F Net) (step : Step) (steps : List Step) → leads_step depth (map-Net _ _ (leads_somewhere depth) y) (step ∷ steps) ≡ behind depth steps (from_form depth y step)
  form_next (Net-F.Star place merge body exit guard) step steps = level_next place merge exit guard body depth step steps
  form_next (Net-F.Serial left right) Left steps = refl
  form_next (Net-F.Serial left right) Right steps = refl
  form_next (Net-F.Choice place merge branches faces) (Into (Branch i)) steps = branch_next branches i steps
  form_next (Net-F.Split place merge body id) (Into (Value n)) steps = refl
  form_next _ _ steps = refl

  leads_next : (spot : Spot) (step : Step) (steps : List Step) → leads_from depth spot (step ∷ steps) ≡ behind depth steps (spot_behind depth spot step)
  leads_next (Whole net) step steps =
      ap (λ leads. leads (step ∷ steps)) (fold_out-Net (List Step → Bool) (leads_step depth) net) ∙ form_next (out-Net net) step steps
  leads_next (Level place m exit guard body left) step steps = level_next place m exit guard body left step steps
  leads_next (Replica place m exit guard body left) Left steps = refl
  leads_next (Replica place m exit guard body left) Right steps = refl
  leads_next (Replica place m exit guard body left) (Into k) steps = refl

  level_start : (leads : List Step → Bool) (left : ℕ) → in_level leads left [] ≡ true
  level_start leads left = refl

  leads_start : (spot : Spot) → leads_from depth spot [] ≡ true
  leads_start (Whole net) = root_leads depth net
  leads_start (Level place m exit guard body left) = level_start (leads_somewhere depth body) left
  leads_start (Replica place m exit guard body left) = refl

  leads_at : (steps : List Step) (spot : Spot) → leads_from depth spot steps ≡ is_some (spot_at depth spot steps)
  leads_at [] spot = leads_start spot
  leads_at (step ∷ steps) spot = leads_next spot step steps ∙ at (λ next. leads_at steps next) (spot_behind depth spot step)
    where
      at : ((next : Spot) → leads_from depth next steps ≡ is_some (spot_at depth next steps)) → (o : Option Spot)
          → behind depth steps o ≡ is_some (option_and_then (λ next. spot_at depth next steps) o)
      at goes_on None = refl
      at goes_on (Some next) = goes_on next

  pub leads_spot : (net : Net) (steps : List Step) → leads_somewhere depth net steps ≡ is_some (spot_at depth (Whole net) steps)
  leads_spot net steps = leads_at steps (Whole net)

  pub spot_further : (steps more : List Step) (spot : Spot) → spot_at depth spot (steps ++ more) ≡ option_and_then (λ next. spot_at depth next more) (spot_at depth spot steps)
  spot_further [] more spot = refl
  spot_further (step ∷ steps) more spot = at (λ next. spot_further steps more next) (spot_behind depth spot step)
    where
      at : ((next : Spot) → spot_at depth next (steps ++ more) ≡ option_and_then (λ u. spot_at depth u more) (spot_at depth next steps)) → (o : Option Spot)
          → option_and_then (λ next. spot_at depth next (steps ++ more)) o
          ≡ option_and_then (λ u. spot_at depth u more) (option_and_then (λ next. spot_at depth next steps) o)
      at goes_on None = refl
      at goes_on (Some next) = goes_on next

-- What stands at a spot in the tree.
module _ (s : Setting) where
  abbrev Reaches : Network → Segments ModelItem → Step → Spot → Type 0
  Reaches t xss step next = (seg : Segments ModelItem) × (stepped t xss step ≡ Some (record { part = tree_of s next; seg = seg }))

  level_reached : (place : ℕ) (m : Merge) (exit : Labels) (guard : Option TagExpr) (body : Net) (left : ℕ) (step : Step) (xss : Segments ModelItem) (next : Spot)
      → from_level place m exit guard body left step ≡ Some next → Reaches (level place m exit guard (tree s body) left) xss step next
  level_reached place m exit guard body (suc left) (Into Inside) xss next e = subst (Reaches (level place m exit guard (tree s body) (suc left)) xss (Into Inside)) (same_Some _ next e) (_, refl)
  level_reached place m exit guard body _ _ xss next e = absurd (none-some next e)

  branch_tree : (branches : List Net) (otherwise : Network) (i : ℕ) (next : Spot) → option_map Whole (slice_get branches i) ≡ Some next
      → unwrap_or (slice_get (map (tree s) branches) i) otherwise ≡ tree_of s next
  branch_tree [] otherwise i next e = absurd (none-some next e)
  branch_tree (b ∷ branches) otherwise zero next e = ap (tree_of s) (same_Some (Whole b) next e)
  branch_tree (b ∷ branches) otherwise (suc i) next e = branch_tree branches otherwise i next e

  form_reached : (y : Net-F Net) (step : Step) (xss : Segments ModelItem) (next : Spot) → from_form s.depth y step ≡ Some next → Reaches (tree_step s (map-Net _ _ (tree s) y)) xss step next
  form_reached (Net-F.Star place merge body exit guard) step xss next e = level_reached place merge exit guard body s.depth step xss next e
  form_reached (Net-F.Serial left right) Left xss next e =
      subst (Reaches (tree_step s (map-Net _ _ (tree s) (Net-F.Serial left right))) xss Left) (same_Some (Whole left) next e) (_, refl)
  form_reached (Net-F.Serial left right) Right xss next e =
      subst (Reaches (tree_step s (map-Net _ _ (tree s) (Net-F.Serial left right))) xss Right) (same_Some (Whole right) next e) (_, refl)
  form_reached (Net-F.Choice place merge branches faces) (Into (Branch i)) xss next e = (
    by_item (router place (of_record (choice_key faces))) (Branch i) xss,
    ap (λ t. Some (record { part = t; seg = by_item (router place (of_record (choice_key faces))) (Branch i) xss })) (branch_tree branches _ i next e),
  )
  form_reached (Net-F.Split place merge body id) (Into (Value n)) xss next e =
      subst (Reaches (tree_step s (map-Net _ _ (tree s) (Net-F.Split place merge body id))) xss (Into (Value n))) (same_Some (Whole body) next e) (_, refl)
  form_reached _ _ xss next e = absurd (none-some next e)

  pub tree_out : (net : Net) → tree s net ≡ tree_step s (map-Net _ _ (tree s) (out-Net net))
  tree_out net = fold_out-Net Network (tree_step s) net

  next_reached : (spot : Spot) (step : Step) (xss : Segments ModelItem) (next : Spot) → spot_behind s.depth spot step ≡ Some next → Reaches (tree_of s spot) xss step next
  next_reached (Whole net) step xss next e = subst (λ (t : Network). Reaches t xss step next) (sym (tree_out net)) (form_reached (out-Net net) step xss next e)
  next_reached (Level place m exit guard body left) step xss next e = level_reached place m exit guard body left step xss next e
  next_reached (Replica place m exit guard body left) Left xss next e =
      subst (Reaches (tree_of s (Replica place m exit guard body left)) xss Left) (same_Some (Whole body) next e) (_, refl)
  next_reached (Replica place m exit guard body left) Right xss next e =
      subst (Reaches (tree_of s (Replica place m exit guard body left)) xss Right) (same_Some (Level place m exit guard body left) next e) (_, refl)
  next_reached (Replica place m exit guard body left) (Into k) xss next e = absurd (none-some next e)

  abbrev Stands : Site ModelItem CellState → List Step → Spot → Type 0
  Stands from steps to = (seg : Segments ModelItem) × (reached from steps ≡ Some (record { part = tree_of s to; seg = seg }))

  pub spot_reached : (steps : List Step) (spot to : Spot) (xss : Segments ModelItem) → spot_at s.depth spot steps ≡ Some to → Stands (record { part = tree_of s spot; seg = xss }) steps to
  spot_reached [] spot to xss e = (xss, ap (λ u. Some (record { part = tree_of s u; seg = xss })) (same_Some spot to e))
  spot_reached (step ∷ steps) spot to xss e = at (λ next seg f. spot_reached steps next to seg f) (spot_behind s.depth spot step) refl e
    where
      at : ((next : Spot) (seg : Segments ModelItem) → spot_at s.depth next steps ≡ Some to → Stands (record { part = tree_of s next; seg = seg }) steps to)
          → (o : Option Spot) → spot_behind s.depth spot step ≡ o → option_and_then (λ next. spot_at s.depth next steps) o ≡ Some to
          → Stands (record { part = tree_of s spot; seg = xss }) (step ∷ steps) to
      at goes_on None is f = absurd (none-some to f)
      at goes_on (Some next) is f =
          let here = next_reached spot step xss next is in
          let rest = goes_on next here.0 f in
          (rest.0, ap (λ o. option_and_then (λ u. reached u steps) o) here.1 ∙ rest.1)
