-- The labels of a network's tree are known where what stands around the network is held.
use Rattle.std.proofs.Common.{◌≡◌, ◌∙◌, ℕ, Bool, List, length, map as each, sym, subst}
use Rattle.std.specs.List.{list_any}
use Rattle.sn_ast.specs.declared.declaration.Decl.TheOpen.{Decl-F}
use Rattle.sn_ast.specs.declared.declaration.Decl.TheViews.{out-NetDecl}
use Rattle.sn_ast.specs.declared.network.NetExpr.{NetExpr}
use Rattle.sn_ast.specs.declared.network.NetForm.TheOpen.{NetForm-F}
use Rattle.sn_record.specs.declared.label.Kind.TheVariants as kind
use Rattle.sn_record.specs.declared.label.Label.{Label}
use Rattle.sn_record.specs.LabelSet.{contains}
use Rattle.sn_names.specs.Names.{label_number}
use Rattle.sn_net.specs.Face.{face}
use Rattle.sn_net.specs.declared.expr.BoxProgram.{BoxProgram}
use Rattle.sn_net.specs.declared.net.Net.{Net}
use Rattle.sn_net.specs.declared.net.Net.TheFolds.{fold-roll-Net, map-Net}
use Rattle.sn_net.specs.declared.net.Net.TheOpen.{Net-F}
use Rattle.sn_net.specs.declared.net.Net.TheVariants as net
use Rattle.sn_net.specs.declared.net.Net.TheViews.{roll-Net}
use Rattle.sn_label_scope.specs.Labels.{variant_at}
use Rattle.sn_scope.specs.Filters.{filter_at, identity_at}
use Rattle.sn_scope.specs.Networks.{guard_at, merge_of}
use Rattle.sn_labels.specs.Labels.{is_label, is_of_level, is_of_net}
use Rattle.sn_scope_rules.specs.Declared.{boxes_before}
use Rattle.sn_scope_rules.specs.Networks.{form_of, place_of}
use Rattle.sn_scope_rules.specs.Standing.StandsIn.{here, later}
use Rattle.sn_scope_rules.specs.Trees.{SeriesOf, TreeOf, TreesOf}
use Rattle.sn_scope_rules.specs.Trees.TreeOf.{cell, choice, filter, identity, in_series as series, name_of_box, name_of_net, placed, split, star}
use Rattle.sn_scope_rules.specs.Trees.SeriesOf.{several, two}
use Rattle.sn_scope_rules.specs.Trees.TreesOf.{branch, no_branch}
use Rattle.sn_scope_rules.specs.Visible.{Around}
use Rattle.sn_scope_rules.proofs.Held.{Each, HeldDeclLevel, HeldLevel, HeldNet, decl_level, each_cons, net_level}
use Rattle.sn_source_labels.proofs.Declared.{HeldAround, HeldDecls, found_held}
use Rattle.sn_source_labels.proofs.Parts.{Known, either_covered, filter_covered, identity_covered, label_covered, nothing_covered, number_known, patterns_covered, variant_covered}

module _ (names : List (List ℕ)) (boxes : List BoxProgram) where
  abbrev Covered : Net → Type 0
  Covered tree = Known names (is_of_net tree)

  rolled : (x : Net-F Net) → Known names (λ l. is_of_level l (map-Net _ _ (λ part. is_of_net part l) x)) → Covered (roll-Net x)
  rolled x known l there = known l (sym (fold-roll-Net Bool (is_of_level l) x) ∙ there)

  serial_covered : (left right : Net) → Covered left → Covered right → Covered (net.Serial left right)
  serial_covered left right first second = subst Covered (net.rolls-Serial left right) (rolled (Net-F.Serial left right) (either_covered names (is_of_net left) (is_of_net right) first second))

  level_of : (network : NetExpr) (x : _) → HeldNet names network → form_of network ≡ x → HeldLevel names x
  level_of network x held is = subst (HeldLevel names) is (net_level names network held)

  abbrev AnyCovered : List Net → Type 0
  AnyCovered trees = Known names (λ l. list_any (λ branch. branch) (each (λ part. is_of_net part l) trees))

  mutual
    pub tree_covered : (around : Around) (network : NetExpr) (t : Net) → TreeOf names boxes around network t → HeldAround names around → HeldNet names network → Covered t
    tree_covered around network t (name_of_net {there} name decl called is found at one) outside held =
        let got = found_held names around name.text (decl, there) outside found in
        let level : HeldDeclLevel names (Decl-F.NetDecl called) = subst (HeldDeclLevel names) at (decl_level names decl got.0) in
        tree_covered _ _ _ one (each_cons (HeldDecls names) (out-NetDecl called).decls there level.1 got.1) level.0.1
    tree_covered around network t (name_of_box {there} name decl declaration is found at) outside held =
        let number : ℕ = length (boxes_before there) in
        subst Covered (net.rolls-Box name.at number) (rolled (Net-F.Box name.at number) (nothing_covered names))
    tree_covered around network t (identity is) outside held =
        let made = identity_at (place_of network) in
        subst Covered (net.rolls-Filter made) (rolled (Net-F.Filter made) (identity_covered names (place_of network)))
    tree_covered around network t (filter pattern arms templates is) outside held =
        let made = filter_at names (place_of network) pattern arms templates in
        let level = level_of network (NetForm-F.Filter pattern arms templates) held is in
        subst Covered (net.rolls-Filter made) (rolled (Net-F.Filter made) (filter_covered names (place_of network) pattern arms templates level.0.0 level.0.1.0 level.0.1.1))
    tree_covered around network t (cell patterns is) outside held =
        let level = level_of network (NetForm-F.Sync patterns) held is in
        let sets = each (variant_at names) patterns in
        subst Covered (net.rolls-Sync (place_of network) sets) (rolled (Net-F.Sync (place_of network) sets) (patterns_covered names patterns level.0))
    tree_covered around network t (series parts is one) outside held = series_covered _ _ _ one outside (level_of network (NetForm-F.Serial parts) held is).1
    tree_covered around network t (choice {made} det branches is all) outside held =
        let faces = each (face boxes) made in
        subst Covered (net.rolls-Choice (place_of network) (merge_of det) made faces)
        (rolled (Net-F.Choice (place_of network) (merge_of det) made faces) (trees_covered _ _ _ all outside (level_of network (NetForm-F.Choice det branches) held is).1))
    tree_covered around network t (star {made} det body exit guard is one) outside held =
        let level = level_of network (NetForm-F.Star det body exit guard) held is in
        let set = variant_at names exit in
        let test = guard_at names guard in
        subst Covered (net.rolls-Star (place_of network) (merge_of det) made set test) (rolled (Net-F.Star (place_of network) (merge_of det) made set test)
        (either_covered names (is_of_net made) (contains set) (tree_covered _ _ _ one outside (level.1 body here)) (variant_covered names exit level.0.0)))
    tree_covered around network t (split {made} det spread body tag is one) outside held =
        let level = level_of network (NetForm-F.Split det spread body tag) held is in
        let id = label_number names tag.text in
        let label : Label = record { kind = kind.Tag; id = id } in
        subst Covered (net.rolls-Split (place_of network) (merge_of det) made id) (rolled (Net-F.Split (place_of network) (merge_of det) made id)
        (either_covered names (is_of_net made) (is_label label) (tree_covered _ _ _ one outside (level.1 body here)) (label_covered names label (number_known names kind.Tag tag level.0))))
    tree_covered around network t (placed body node is one) outside held = tree_covered _ _ _ one outside ((level_of network (NetForm-F.Placed body node) held is).1 body here)

    series_covered : (around : Around) (parts : List NetExpr) (t : Net) → SeriesOf names boxes around parts t → HeldAround names around → Each (HeldNet names) parts → Covered t
    series_covered around parts t (two {first} {second} {left} {right} one more) outside held =
        serial_covered left right (tree_covered _ _ _ one outside (held first here)) (tree_covered _ _ _ more outside (held second (later here)))
    series_covered around parts t (several {first} {left} {right} one more) outside held =
        serial_covered left right (tree_covered _ _ _ one outside (held first here)) (series_covered _ _ _ more outside (λ y at. held y (later at)))

    trees_covered : (around : Around) (branches : List NetExpr) (ts : List Net) → TreesOf names boxes around branches ts → HeldAround names around → Each (HeldNet names) branches → AnyCovered ts
    trees_covered around branches ts no_branch outside held = nothing_covered names
    trees_covered around branches ts (branch {first} {made} {more} one rest) outside held =
        either_covered names (is_of_net made) (λ l. list_any (λ b. b) (each (λ part. is_of_net part l) more)) (tree_covered _ _ _ one outside (held first here))
        (trees_covered _ _ _ rest outside (λ y at. held y (later at)))
