-- A network where it stands is one tree.
use Rattle.std.proofs.Common.{◌≡◌, ℕ, List, [], ◌∷◌, map as each, Some, refl, sym, ap, ◌∙◌, subst}
use Rattle.std.proofs.lemmas.Option.{same_Some}
use Rattle.sn_ast.specs.declared.declaration.Decl.{Decl}
use Rattle.sn_ast.specs.declared.declaration.Decl.TheOpen.{Decl-F}
use Rattle.sn_ast.specs.declared.declaration.Decl.TheViews.{out-Decl}
use Rattle.sn_ast.specs.declared.declaration.NetDecl.{NetDecl}
use Rattle.sn_ast.specs.declared.label.Ident.{Ident}
use Rattle.sn_ast.specs.declared.network.NetExpr.{NetExpr}
use Rattle.sn_ast.specs.declared.network.NetForm.{NetForm}
use Rattle.sn_ast.specs.declared.network.NetForm.TheOpen.{NetForm-F}
use Rattle.sn_label_scope.specs.Labels.{variant_at}
use Rattle.sn_names.specs.Names.{label_number}
use Rattle.sn_net.specs.Face.{face}
use Rattle.sn_net.specs.declared.expr.BoxProgram.{BoxProgram}
use Rattle.sn_net.specs.declared.net.Net.{Net}
use Rattle.sn_net.specs.declared.net.Net.TheVariants as net
use Rattle.sn_scope.specs.Networks.{guard_at, merge_of}
use Rattle.sn_scope_rules.specs.Networks.{form_of, place_of}
use Rattle.sn_scope_rules.specs.Standing.{Beside}
use Rattle.sn_scope_rules.specs.Trees.{SeriesOf, TreeOf, TreesOf}
use Rattle.sn_scope_rules.specs.Trees.TreeOf.{cell, choice, filter, identity, in_series as series, name_of_box, name_of_net, placed, split, star}
use Rattle.sn_scope_rules.specs.Trees.SeriesOf.{several, two}
use Rattle.sn_scope_rules.specs.Trees.TreesOf.{branch, no_branch}
use Rattle.sn_scope_rules.specs.Visible.{Around, found_at}
use Rattle.sn_scope_rules.proofs.Trees.{FormTree, NamedTree, form_from, series_more, series_two}

module _ (names : List (List ℕ)) (boxes : List BoxProgram) where
  -- a tree by the form that the network has
  by_form : (around : Around) (network : NetExpr) (x : NetForm-F NetForm NetExpr) (t : Net) → form_of network ≡ x → TreeOf names boxes around network t
      → FormTree names boxes around (place_of network) x t
  by_form around network x t is one = subst (λ y. FormTree names boxes around (place_of network) y t) is (form_from names boxes around network t one)

  -- a tree by what its name stands for
  by_name : (around : Around) (name : Ident) (place : ℕ) (decl : Decl) (there : Around) (x : Decl-F Decl NetDecl) (t : Net) → found_at around name.text ≡ Some (decl, there)
      → out-Decl decl ≡ x
      → FormTree names boxes around place (NetForm-F.Name name) t → NamedTree names boxes x there name.at t
  by_name around name place decl there x t found at one =
      subst (λ y. NamedTree names boxes y there name.at t) at
      (subst (λ (f : Decl × Around). NamedTree names boxes (out-Decl f.0) f.1 name.at t) (same_Some one.0 (decl, there) (sym one.1 ∙ found)) one.2)

  mutual
    pub tree_once : (around : Around) (network : NetExpr) (t : Net) → TreeOf names boxes around network t → (u : Net) → TreeOf names boxes around network u → t ≡ u
    tree_once around network t (name_of_net {there} name decl called is found at one) u other =
        tree_once _ _ _ one u (by_name around name (place_of network) decl there (Decl-F.NetDecl called) u found at (by_form around network (NetForm-F.Name name) u is other))
    tree_once around network t (name_of_box {there} name decl declaration is found at) u other =
        sym (by_name around name (place_of network) decl there (Decl-F.BoxDecl declaration) u found at (by_form around network (NetForm-F.Name name) u is other))
    tree_once around network t (identity is) u other = sym (by_form around network NetForm-F.Identity u is other)
    tree_once around network t (filter pattern arms templates is) u other = sym (by_form around network (NetForm-F.Filter pattern arms templates) u is other)
    tree_once around network t (cell patterns is) u other = sym (by_form around network (NetForm-F.Sync patterns) u is other)
    tree_once around network t (series parts is one) u other = series_once _ _ _ one u (by_form around network (NetForm-F.Serial parts) u is other)
    tree_once around network t (choice det branches is all) u other =
        let found = by_form around network (NetForm-F.Choice det branches) u is other in
        ap (λ ts. net.Choice (place_of network) (merge_of det) ts (each (face boxes) ts)) (trees_once _ _ _ all found.0 found.1) ∙ sym found.2
    tree_once around network t (star det body exit guard is one) u other =
        let found = by_form around network (NetForm-F.Star det body exit guard) u is other in
        ap (λ m. net.Star (place_of network) (merge_of det) m (variant_at names exit) (guard_at names guard)) (tree_once _ _ _ one found.0 found.1) ∙ sym found.2
    tree_once around network t (split det spread body tag is one) u other =
        let found = by_form around network (NetForm-F.Split det spread body tag) u is other in
        ap (λ m. net.Split (place_of network) (merge_of det) m (label_number names tag.text)) (tree_once _ _ _ one found.0 found.1) ∙ sym found.2
    tree_once around network t (placed body node is one) u other = tree_once _ _ _ one u (by_form around network (NetForm-F.Placed body node) u is other)

    series_once : (around : Around) (parts : List NetExpr) (t : Net) → SeriesOf names boxes around parts t → (u : Net) → SeriesOf names boxes around parts u → t ≡ u
    series_once around parts t (two {first} {second} one more) u other =
        let found = series_two names boxes around first second u other in
        (λ i. net.Serial (tree_once _ _ _ one found.0 found.2 i) (tree_once _ _ _ more found.1 found.3 i)) ∙ sym found.4
    series_once around parts t (several {first} {second} {third} {more = rest} one more) u other =
        let found = series_more names boxes around first second third rest u other in
        (λ i. net.Serial (tree_once _ _ _ one found.0 found.2 i) (series_once _ _ _ more found.1 found.3 i)) ∙ sym found.4

    trees_once : (around : Around) (branches : List NetExpr) (ts : List Net) → TreesOf names boxes around branches ts → (us : List Net)
        → Beside (TreeOf names boxes around) branches us → ts ≡ us
    trees_once around branches ts no_branch [] other = refl
    trees_once around branches ts no_branch (u ∷ us) other = absurd other
    trees_once around branches ts (branch one more) [] other = absurd other
    trees_once around branches ts (branch one more) (u ∷ us) other = λ i. tree_once _ _ _ one u other.0 i ∷ trees_once _ _ _ more us other.1 i
