-- What holds of each node that a plan makes.
use Rattle.std.proofs.Common.{ℕ, ◌+◌, ◌-◌, List, [], ◌∷◌, ◌++◌, map, length, Option, Some, None, ◌≡◌, refl, sym, subst}
use Rattle.sn_streams.specs.Keys.{Key}
use Rattle.sn_streams.specs.Keys as key
use Rattle.sn_record.specs.LabelSet.{Labels}
use Rattle.sn_net.specs.declared.net.Merge.{Merge as MergeKind}
use Rattle.sn_net.specs.declared.net.Net.{Net}
use Rattle.sn_net.specs.declared.net.Net.TheOpen.{Net-F}
use Rattle.sn_net.specs.declared.net.Net.TheFolds.{fold-roll-Net, ind-Net, map-Net}
use Rattle.sn_net.specs.declared.net.Net.TheViews.{roll-Net}
use Rattle.sn_net.specs.Cell.{new_cell}
use Rattle.sn_model.specs.declared.step.Step.{Step}
use Rattle.sn_model.specs.declared.step.Step.TheVariants as step
use Rattle.sn_view.specs.View.{Alone, Cell, State, Child, Target, ToChild, Node}
use Rattle.sn_view.specs.Next.{new_nodes}
use Rattle.sn_view.specs.Parts.{Plan, alone, new_node, own_child, dispatcher, unfolding_fork, branch_children, branch_nodes, plan, plan_step}
use Rattle.sn_view.proofs.Orders.{Each, each-append, each-cons, each-none}

-- nothing waits of the child's output
abbrev pub KeepsNone : Child → Type 0
KeepsNone child = child.kept ≡ []

-- it holds of new components and of new dispatchers
pub record HoldsAnew (P : Node → Type 0) : Type 0 where
  pub alone : (steps : List Step) (path : List ℕ) (goes : Target) → P (new_node Alone steps path goes)
  pub cell : (patterns : List Labels) (steps : List Step) (path : List ℕ) (goes : Target) → P (new_node (Cell patterns (new_cell patterns)) steps path goes)
  pub fork : (m : MergeKind) (left node : ℕ) (cs : List Child) (steps : List Step) (path : List ℕ) (goes : Target) → Each KeepsNone cs → P (dispatcher m left (own_child node ∷ cs) steps path goes)

branch-children : (i base : ℕ) (branches : List Plan) → Each KeepsNone (branch_children i base branches)
branch-children i base [] = each-none KeepsNone
branch-children i base (branch ∷ branches) = each-cons KeepsNone _ (branch_children (i + 1) (base + branch.width) branches) refl (branch-children (i + 1) (base + branch.width) branches)

module _ (P : Node → Type 0) (holds : HoldsAnew P) (depth : ℕ) where
  abbrev Makes : Plan → Type 0
  Makes p = (steps : List Step) (path : List ℕ) (goes : Target) (base : ℕ) → Each P (p.nodes steps path goes base)

  abbrev Q : Net → Type 0
  Q net = Makes (plan depth net)

  one : (st : State) → ((steps : List Step) (path : List ℕ) (goes : Target) → P (new_node st steps path goes)) → Makes (alone st)
  one st h steps path goes base = each-cons P (new_node st steps path goes) [] (h steps path goes) (each-none P)

  unfolding-one : (m : MergeKind) (left : ℕ) → Makes (unfolding_fork m left)
  unfolding-one m left steps path goes base = each-cons P (dispatcher m left (own_child base ∷ []) steps path goes) [] (holds.fork m left base [] steps path goes (each-none KeepsNone)) (each-none P)

  by-form : (z : Net-F Net) → Makes (plan_step depth (map-Net _ _ (plan depth) z)) → Q (roll-Net z)
  by-form z h = subst Makes (sym (fold-roll-Net Plan (plan_step depth) z)) h

  branches : (node i base : ℕ) (steps : List Step) (path : List ℕ) (es : List ((net : Net) × Q net)) → Each P (branch_nodes node i base steps path (map (plan depth) (map (λ e. e.0) es)))
  branches node i base steps path [] = each-none P
  branches node i base steps path (e ∷ es) = each-append P _ _ (e.1 _ _ _ _) (branches node (i + 1) _ steps path es)

  pub all-planned : (net : Net) → Q net
  all-planned = ind-Net Q (λ x y is. subst (λ z. Q (roll-Net z)) is
      (elim y as (λ z. Q (roll-Net (map-Net _ _ (λ e. e.0) z))) [
        | Net-F.Box place number ↦ by-form (Net-F.Box place number) (one Alone holds.alone)
        | Net-F.Filter filter ↦ by-form (Net-F.Filter filter) (one Alone holds.alone)
        | Net-F.Sync place patterns ↦ by-form (Net-F.Sync place patterns) (one (Cell patterns (new_cell patterns)) (holds.cell patterns))
        | Net-F.Serial left right ↦ by-form (Net-F.Serial left.0 right.0) (λ steps path goes base. each-append P _ _ (left.1 _ _ _ _) (right.1 _ _ _ _))
        | Net-F.Choice place merge parts faces ↦ by-form (Net-F.Choice place merge (map (λ e. e.0) parts) faces)
            (λ steps path goes base. each-cons P _ _ (holds.fork merge 0 base _ steps path goes (branch-children 0 (base + 1) _)) (branches base 0 (base + 1) steps path parts))
        | Net-F.Star place merge body exit guard ↦ by-form (Net-F.Star place merge body.0 exit guard) (unfolding-one merge depth)
        | Net-F.Split place merge body id ↦ by-form (Net-F.Split place merge body.0 id) (unfolding-one merge 0)
      ]))

  -- of those that Unfold makes
  pub all-made : (form : Option (Net-F Net)) (k : Key) (i : ℕ) (n : Node) (base : ℕ) → Each P (new_nodes depth form k i n base)
  all-made None k i n base = each-none P
  all-made (Some (Net-F.Box place number)) k i n base = each-none P
  all-made (Some (Net-F.Filter filter)) k i n base = each-none P
  all-made (Some (Net-F.Sync place patterns)) k i n base = each-none P
  all-made (Some (Net-F.Serial left right)) k i n base = each-none P
  all-made (Some (Net-F.Choice place merge parts faces)) k i n base = each-none P
  all-made (Some (Net-F.Star place merge body exit guard)) k i n base =
      each-append P _ _ (all-planned body _ _ _ _) (each-cons P _ [] (holds.fork merge (n.left - 1) _ [] (n.steps ++ step.Inside ∷ step.Right ∷ []) n.path (ToChild i (length n.children)) (each-none KeepsNone)) (each-none P))
  all-made (Some (Net-F.Split place merge body id)) key.Own i n base = each-none P
  all-made (Some (Net-F.Split place merge body id)) (key.Branch j) i n base = each-none P
  all-made (Some (Net-F.Split place merge body id)) key.Inside i n base = each-none P
  all-made (Some (Net-F.Split place merge body id)) (key.Value v) i n base = all-planned body _ _ _ _
