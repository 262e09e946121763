-- Which tree a network is where it stands: each name of a net stands for that net's own tree.
use Rattle.std.specs.Prelude.{◌≡◌, ℕ, Bool, List, [], ◌∷◌, length, map as each, Option, Some}
use Rattle.sn_ast.specs.declared.declaration.BoxDecl.{BoxDecl}
use Rattle.sn_ast.specs.declared.declaration.Decl.{Decl}
use Rattle.sn_ast.specs.declared.declaration.Decl.TheOpen.{Decl-F}
use Rattle.sn_ast.specs.declared.declaration.Decl.TheViews.{out-Decl, out-NetDecl}
use Rattle.sn_ast.specs.declared.declaration.NetDecl.{NetDecl}
use Rattle.sn_ast.specs.declared.label.Ident.{Ident}
use Rattle.sn_ast.specs.declared.label.Variant.{Variant}
use Rattle.sn_ast.specs.declared.network.ArmAt.{ArmAt}
use Rattle.sn_ast.specs.declared.network.NetExpr.{NetExpr}
use Rattle.sn_ast.specs.declared.network.NetForm.TheOpen.{NetForm-F}
use Rattle.sn_ast.specs.declared.network.TemplateAt.{TemplateAt}
use Rattle.sn_ast.specs.declared.tag_expr.TExpr.{TExpr}
use Rattle.sn_label_scope.specs.Labels.{variant_at}
use Rattle.sn_names.specs.Names.{label_number}
use Rattle.sn_net.specs.Face.{face}
use Rattle.sn_net.specs.declared.expr.BoxProgram.{BoxProgram}
use Rattle.sn_net.specs.declared.net.Net.{Net}
use Rattle.sn_net.specs.declared.net.Net.TheVariants as tree
use Rattle.sn_scope.specs.Filters.{filter_at, identity_at}
use Rattle.sn_scope.specs.Networks.{guard_at, merge_of}
use Rattle.sn_scope_rules.specs.Declared.{boxes_before}
use Rattle.sn_scope_rules.specs.Networks.{form_of, place_of}
use Rattle.sn_scope_rules.specs.Visible.{Around, found_at}

mutual
  -- the network, read where those declarations stand before, is the tree. A name of a net is the tree of that net's network, read where that net stands and behind its own
  -- declarations. A name of a box is a call, by how many boxes stand before that one
  pub data TreeOf (names : List (List ℕ)) (boxes : List BoxProgram) : Around → NetExpr → Net → Type 0 where
    name_of_net : {around there : Around} {network : NetExpr} {made : Net} (name : Ident) (decl : Decl) (net : NetDecl) →
        form_of network ≡ NetForm-F.Name name → found_at around name.text ≡ Some (decl, there) → out-Decl decl ≡ Decl-F.NetDecl net →
        TreeOf names boxes ((out-NetDecl net).decls ∷ there) (out-NetDecl net).connect made → TreeOf names boxes around network made
    name_of_box : {around there : Around} {network : NetExpr} (name : Ident) (decl : Decl) (declaration : BoxDecl) →
        form_of network ≡ NetForm-F.Name name → found_at around name.text ≡ Some (decl, there) → out-Decl decl ≡ Decl-F.BoxDecl declaration →
        TreeOf names boxes around network (tree.Box name.at (length (boxes_before there)))
    identity : {around : Around} {network : NetExpr} →
        form_of network ≡ NetForm-F.Identity → TreeOf names boxes around network (tree.Filter (identity_at (place_of network)))
    filter : {around : Around} {network : NetExpr} (pattern : Variant) (arms : List ArmAt) (templates : List TemplateAt) →
        form_of network ≡ NetForm-F.Filter pattern arms templates → TreeOf names boxes around network (tree.Filter (filter_at names (place_of network) pattern arms templates))
    cell : {around : Around} {network : NetExpr} (patterns : List Variant) →
        form_of network ≡ NetForm-F.Sync patterns → TreeOf names boxes around network (tree.Sync (place_of network) (each (variant_at names) patterns))
    in_series : {around : Around} {network : NetExpr} {made : Net} (parts : List NetExpr) →
        form_of network ≡ NetForm-F.Serial parts → SeriesOf names boxes around parts made → TreeOf names boxes around network made
    choice : {around : Around} {network : NetExpr} {made : List Net} (det : Bool) (branches : List NetExpr) →
        form_of network ≡ NetForm-F.Choice det branches → TreesOf names boxes around branches made →
        TreeOf names boxes around network (tree.Choice (place_of network) (merge_of det) made (each (face boxes) made))
    star : {around : Around} {network : NetExpr} {made : Net} (det : Bool) (body : NetExpr) (exit : Variant) (guard : Option TExpr) →
        form_of network ≡ NetForm-F.Star det body exit guard → TreeOf names boxes around body made →
        TreeOf names boxes around network (tree.Star (place_of network) (merge_of det) made (variant_at names exit) (guard_at names guard))
    split : {around : Around} {network : NetExpr} {made : Net} (det spread : Bool) (body : NetExpr) (tag : Ident) →
        form_of network ≡ NetForm-F.Split det spread body tag → TreeOf names boxes around body made →
        TreeOf names boxes around network (tree.Split (place_of network) (merge_of det) made (label_number names tag.text))
    placed : {around : Around} {network : NetExpr} {made : Net} (body : NetExpr) (node : ℕ) →
        form_of network ≡ NetForm-F.Placed body node → TreeOf names boxes around body made → TreeOf names boxes around network made

  -- two parts in series, or the first of several in series with the rest
  pub data SeriesOf (names : List (List ℕ)) (boxes : List BoxProgram) : Around → List NetExpr → Net → Type 0 where
    two : {around : Around} {first second : NetExpr} {left right : Net} →
        TreeOf names boxes around first left → TreeOf names boxes around second right → SeriesOf names boxes around (first ∷ second ∷ []) (tree.Serial left right)
    several : {around : Around} {first second third : NetExpr} {more : List NetExpr} {left right : Net} →
        TreeOf names boxes around first left → SeriesOf names boxes around (second ∷ third ∷ more) right →
        SeriesOf names boxes around (first ∷ second ∷ third ∷ more) (tree.Serial left right)

  -- the tree of each branch
  pub data TreesOf (names : List (List ℕ)) (boxes : List BoxProgram) : Around → List NetExpr → List Net → Type 0 where
    no_branch : {around : Around} → TreesOf names boxes around [] []
    branch : {around : Around} {first : NetExpr} {rest : List NetExpr} {made : Net} {more : List Net} →
        TreeOf names boxes around first made → TreesOf names boxes around rest more → TreesOf names boxes around (first ∷ rest) (made ∷ more)
