-- The nodes of each network's plan.
use Rattle.std.proofs.Common.{◌≡◌, ℕ, zero, suc, List, [], ◌∷◌, map, Some, refl, sym, subst, subst₂}
use Rattle.std.specs.Prelude.{slice_get, unwrap_or}
use Rattle.sn_record.specs.LabelSet.{Labels}
use Rattle.sn_streams.specs.Trees.{Component, passing, with_own}
use Rattle.sn_net.specs.declared.net.Net.{Net}
use Rattle.sn_net.specs.declared.net.Net.TheOpen.{Net-F}
use Rattle.sn_net.specs.declared.net.Net.TheFolds.{fold-roll-Net, ind-Net, map-Net}
use Rattle.sn_net.specs.declared.net.Net.TheViews.{roll-Net}
use Rattle.sn_net.specs.Cell.{CellState, Passing, new_cell}
use Rattle.sn_net.specs.Dispatchers.{Network, router, merge_of, branch_child, level, level_key}
use Rattle.sn_net.specs.Item.{ModelItem}
use Rattle.sn_net.specs.Route.{of_record, choice_key, split_key}
use Rattle.sn_model.specs.Components.{alone as alone_tree, cell}
use Rattle.sn_model.specs.Meaning.{Setting, tree, tree_step}
use Rattle.sn_view.specs.View.{Alone, Cell}
use Rattle.sn_view.specs.Parts.{Plan, alone, new_node, plan, plan_step, unfolding_fork}
use Rattle.sn_view.proofs.Shaping.{Shaped, one-Shaped, series-Shaped}
use Rattle.sn_view.proofs.Dispatching.{unfolding-Shaped, choice-Shaped}

pub level-Shaped : (place : ℕ) (merge : _) (exit : Labels) (guard : _) (body : Network) (d left : ℕ) → Shaped (level place merge exit guard body d) (unfolding_fork merge left)
level-Shaped place merge exit guard body zero left = unfolding-Shaped merge left (merge_of merge) (router place (of_record (level_key place exit guard zero))) _
level-Shaped place merge exit guard body (suc d) left = unfolding-Shaped merge left (merge_of merge) (router place (of_record (level_key place exit guard (suc d)))) _

module _ (s : Setting) where
  abbrev P : Net → Type 0
  P net = Shaped (tree s net) (plan s.depth net)

  -- by the form of the network
  by-form : (z : Net-F Net) → Shaped (tree_step s (map-Net _ _ (tree s) z)) (plan_step s.depth (map-Net _ _ (plan s.depth) z)) → P (roll-Net z)
  by-form z h =
      subst₂ (λ (t : Network) (p : Plan). Shaped t p) (sym (fold-roll-Net Network (tree_step s) z)) (sym (fold-roll-Net Plan (plan_step s.depth) z)) h

  alone-Shaped : (answer : ModelItem → List ModelItem) → Shaped (alone_tree answer) (alone Alone)
  alone-Shaped answer = one-Shaped (λ p path goes b. new_node Alone p path goes) (λ p path goes b. refl) (alone_tree answer) refl (λ p path goes b. (refl, refl))

  -- the branches
  branch : (r : _) (es : List ((net : Net) × P net)) (c : ℕ) (p : Plan) → slice_get (map (plan s.depth) (map (λ e. e.0) es)) c ≡ Some p
      → Shaped (unwrap_or (slice_get (map (tree s) (map (λ e. e.0) es)) c) (passing {A = ModelItem} {S = CellState} r Passing)) p
  branch r [] c p h = cc
  branch r (e ∷ es) zero p h = let u : plan s.depth e.0 ≡ p = cc in subst (λ (q : Plan). Shaped (tree s e.0) q) u e.1
  branch r (e ∷ es) (suc c) p h = branch r es c p h

  pub all-Shaped : (net : Net) → P net
  all-Shaped = ind-Net P (λ x y is. subst (λ z. P (roll-Net z)) is
      (elim y as (λ z. P (roll-Net (map-Net _ _ (λ e. e.0) z))) [
        | Net-F.Box place number ↦ by-form (Net-F.Box place number) (alone-Shaped _)
        | Net-F.Filter filter ↦ by-form (Net-F.Filter filter) (alone-Shaped _)
        | Net-F.Sync place patterns ↦ by-form (Net-F.Sync place patterns)
            (one-Shaped (λ p path goes b. new_node (Cell patterns (new_cell patterns)) p path goes) (λ p path goes b. refl) (Component (cell place patterns) (new_cell patterns)) refl (λ p path goes b. (refl, refl)))
        | Net-F.Serial left right ↦ by-form (Net-F.Serial left.0 right.0) (series-Shaped (tree s left.0) (tree s right.0) (plan s.depth left.0) (plan s.depth right.0) left.1 right.1)
        | Net-F.Choice place merge branches faces ↦ by-form (Net-F.Choice place merge (map (λ e. e.0) branches) faces)
            (choice-Shaped merge (merge_of merge) (router place (of_record (choice_key faces)))
            (with_own (router place (of_record (choice_key faces))) Passing (branch_child (map (tree s) (map (λ e. e.0) branches)) (passing (router place (of_record (choice_key faces))) Passing)))
            (map (plan s.depth) (map (λ e. e.0) branches)) (branch (router place (of_record (choice_key faces))) branches))
        | Net-F.Star place merge body exit guard ↦ by-form (Net-F.Star place merge body.0 exit guard) (level-Shaped place merge exit guard (tree s body.0) s.depth s.depth)
        | Net-F.Split place merge body id ↦ by-form (Net-F.Split place merge body.0 id) (unfolding-Shaped merge 0 (merge_of merge) (router place (of_record (split_key id))) _)
      ]))
