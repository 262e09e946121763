-- The nodes of a new child are those of the definition.
use Rattle.std.proofs.Common.{◌≡◌, ℕ, ℤ, List, [], ◌∷◌, ◌++◌, map, length, sym, ap, subst, ◌∙◌}
use Rattle.std.specs.Prelude.{Option, Some}
use Rattle.std.specs.Option.{option_map}
use Rattle.std.proofs.lemmas.List.{length-map}
use Rattle.std.proofs.lemmas.List.Elements.{All-head}
use Rattle.sn_record.specs.LabelSet.{Labels}
use Rattle.sn_tagexpr.specs.declared.expr.TagExpr.{TagExpr}
use Rattle.sn_streams.specs.Keys.{Key as StreamKey, Value}
use Rattle.sn_net.specs.declared.expr.BoxProgram.{BoxProgram}
use Rattle.sn_net.specs.declared.net.Merge.{Merge}
use Rattle.sn_net.specs.declared.net.Net.{Net}
use Rattle.sn_net.specs.declared.net.Net.TheOpen.{Net-F}
use Rattle.sn_net.specs.declared.net.Net.TheViews.{out-Net, out-roll-Net}
use Rattle.sn_net.specs.declared.net.Net.TheVariants as form
use Rattle.sn_net.specs.WellFormed.{FitsBoxes, IsWellFormed}
use Rattle.sn_net.proofs.Sound.{parts_formed}
use Rattle.sn_model.specs.declared.run.Run.{Run}
use Rattle.sn_model.specs.Run.{depth_of, net_of}
use Rattle.sn_model.specs.declared.step.Step.TheVariants as step
use Rattle.sn_view.specs.View.{ToChild}
use Rattle.sn_view.specs.Next.{new_nodes}
use Rattle.sn_view.specs.Parts.{plan, part_at}
use Rattle.sn_node.specs.Answered.{form_at}
use Rattle.sn_node.specs.Child.{child_of}
use Rattle.sn_node.specs.Seen.{node_of}
use Rattle.sn_node.specs.declared.node.Node.{Node}
use Rattle.sn_node.proofs.Sound.{part_fits}
use Rattle.sn_graph.specs.Grown.{level_nodes}
use mathlib.Core.Logic.{∥∥₁_map}

module _ (boxes : List BoxProgram) (net : Net) (path : List ℕ) (p : Net) (fits : FitsBoxes boxes net) (there : Some p ≡ part_at net path) where
  pub star_body : (place : ℕ) (merge : Merge) (body b : Net) (exit : Labels) (guard : Option TagExpr) → p ≡ form.Star place merge body exit guard → b ≡ body → FitsBoxes boxes b
  star_body place merge body b exit guard is same =
      ∥∥₁_map (part_fits boxes net path p fits (sym there)) (λ formed.
      let parts = parts_formed boxes (Net-F.Star place merge body exit guard) (subst (IsWellFormed boxes) (is ∙ sym (form.rolls-Star place merge body exit guard)) formed) in
      subst (IsWellFormed boxes) (sym same) (All-head (IsWellFormed boxes) body [] parts))

  pub split_body : (place : ℕ) (merge : Merge) (body b : Net) (id : ℕ) → p ≡ form.Split place merge body id → b ≡ body → FitsBoxes boxes b
  split_body place merge body b id is same =
      ∥∥₁_map (part_fits boxes net path p fits (sym there)) (λ formed.
      let parts = parts_formed boxes (Net-F.Split place merge body id) (subst (IsWellFormed boxes) (is ∙ sym (form.rolls-Split place merge body id)) formed) in
      subst (IsWellFormed boxes) (sym same) (All-head (IsWellFormed boxes) body [] parts))

module _ (net : Net) (path : List ℕ) (p : Net) (there : Some p ≡ part_at net path) where
  pub star_form : (place : ℕ) (merge : Merge) (body : Net) (exit : Labels) (guard : Option TagExpr) → p ≡ form.Star place merge body exit guard → form_at net path ≡ Some (Net-F.Star place merge body exit guard)
  star_form place merge body exit guard is =
      ap (option_map out-Net) (sym there) ∙ ap (λ f. Some f) (ap out-Net (is ∙ sym (form.rolls-Star place merge body exit guard)) ∙ out-roll-Net (Net-F.Star place merge body exit guard))

  pub split_form : (place : ℕ) (merge : Merge) (body : Net) (id : ℕ) → p ≡ form.Split place merge body id → form_at net path ≡ Some (Net-F.Split place merge body id)
  split_form place merge body id is =
      ap (option_map out-Net) (sym there) ∙ ap (λ f. Some f) (ap out-Net (is ∙ sym (form.rolls-Split place merge body id)) ∙ out-roll-Net (Net-F.Split place merge body id))

-- what is made for a star's next level, and for a split's replica
pub star_nodes : (run : Run) (i at : ℕ) (k : StreamKey) (a : Node) (path : List ℕ) (place : ℕ) (merge : Merge) (body b : Net) (exit : Labels) (guard : Option TagExpr) (count : ℕ)
    → form_at (net_of run) path ≡ Some (Net-F.Star place merge body exit guard) → path ≡ a.made.path → b ≡ body → count ≡ length a.children.list.items
    → level_nodes (depth_of run) merge b a.made.left a.made.steps a.made.path (ToChild i count) at ≡ new_nodes (depth_of run) (form_at (net_of run) a.made.path) k i (node_of a) at
star_nodes run i at k a path place merge body b exit guard count is here e1 e2 =
    let n : count ≡ length (map child_of a.children.list.items) = e2 ∙ sym (length-map a.children.list.items child_of) in
    ap (λ x. level_nodes (depth_of run) merge x a.made.left a.made.steps a.made.path (ToChild i count) at) e1
    ∙ ap (λ x. level_nodes (depth_of run) merge body a.made.left a.made.steps a.made.path (ToChild i x) at) n
    ∙ sym (ap (λ form. new_nodes (depth_of run) form k i (node_of a) at) (ap (form_at (net_of run)) (sym here) ∙ is))

pub split_nodes : (run : Run) (i at : ℕ) (v : ℤ) (a : Node) (path : List ℕ) (place : ℕ) (merge : Merge) (body b : Net) (id : ℕ) (count : ℕ)
    → form_at (net_of run) path ≡ Some (Net-F.Split place merge body id) → path ≡ a.made.path → b ≡ body → count ≡ length a.children.list.items
    → (plan (depth_of run) b).nodes (a.made.steps ++ step.Value v ∷ []) (a.made.path ++ 0 ∷ []) (ToChild i count) at ≡ new_nodes (depth_of run) (form_at (net_of run) a.made.path) (Value v) i (node_of a) at
split_nodes run i at v a path place merge body b id count is here e1 e2 =
    let n : count ≡ length (map child_of a.children.list.items) = e2 ∙ sym (length-map a.children.list.items child_of) in
    ap (λ x. (plan (depth_of run) x).nodes (a.made.steps ++ step.Value v ∷ []) (a.made.path ++ 0 ∷ []) (ToChild i count) at) e1
    ∙ ap (λ x. (plan (depth_of run) body).nodes (a.made.steps ++ step.Value v ∷ []) (a.made.path ++ 0 ∷ []) (ToChild i x) at) n
    ∙ sym (ap (λ form. new_nodes (depth_of run) form (Value v) i (node_of a) at) (ap (form_at (net_of run)) (sym here) ∙ is))
