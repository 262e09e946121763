-- The tree of the built-in source, each part at its place.
use Rattle.std.proofs.Common.{ℕ, true, false, pos, List, [], ◌∷◌, codes, Some}
use Rattle.sn_ast.specs.BoxExprs.{applied, Variant as VariantHead}
use Rattle.sn_ast.specs.Declarations.{net_of}
use Rattle.sn_ast.specs.Networks.{same_item, computed_item, filter_at, serial_at, star_at, split_at}
use Rattle.sn_ast.specs.Operators.{box_operations, tag_operations}
use Rattle.sn_ast.specs.declared.box_expr.BExpr.{BExpr}
use Rattle.sn_ast.specs.declared.box_expr.BForm.TheVariants as box_form
use Rattle.sn_ast.specs.declared.declaration.BoxDecl.{BoxDecl}
use Rattle.sn_ast.specs.declared.declaration.Decl.{Decl}
use Rattle.sn_ast.specs.declared.declaration.Decl.TheVariants as decl_form
use Rattle.sn_ast.specs.declared.declaration.Program.{Program}
use Rattle.sn_ast.specs.declared.label.Ident.{Ident}
use Rattle.sn_ast.specs.declared.label.LabelAt.{LabelAt}
use Rattle.sn_ast.specs.declared.label.Sig.{Sig}
use Rattle.sn_ast.specs.declared.label.Sig.TheVariants.{Arrow}
use Rattle.sn_ast.specs.declared.label.Tuple.{Tuple}
use Rattle.sn_ast.specs.declared.label.TypePart.TheVariants.{Set}
use Rattle.sn_ast.specs.declared.label.Variant.{Variant}
use Rattle.sn_ast.specs.declared.network.NetExpr.{NetExpr}
use Rattle.sn_ast.specs.declared.network.NetForm.TheVariants as net_form
use Rattle.sn_ast.specs.declared.network.TemplateAt.{TemplateAt}
use Rattle.sn_ast.specs.declared.tag_expr.Operator.TheVariants.{Add, Sub, Eq}
use Rattle.sn_ast.specs.declared.tag_expr.TExpr.{TExpr}
use Rattle.sn_ast.specs.declared.tag_expr.TForm.TheVariants as tag_form

abbrev pub named : List ℕ → ℕ → Ident
named text at = record { text = text; at = at }

abbrev pub field_at : List ℕ → ℕ → LabelAt
field_at text at = record { tag = false; name = named text at }

abbrev pub tag_at : List ℕ → ℕ → LabelAt
tag_at text at = record { tag = true; name = named text at }

abbrev pub variant_at : ℕ → List LabelAt → Variant
variant_at at labels = record { labels = labels; at = at }

-- box twice ((v) -> (w)) { out 1(v + v) }
abbrev pub sum_of_v : BExpr
sum_of_v = box_operations.op Add 33 (record { at = 31; form = box_form.Name (named (codes "v") 31) }) (record { at = 35; form = box_form.Name (named (codes "v") 35) })

abbrev pub twice_body : BExpr
twice_body = applied (VariantHead 25 (pos 1)) (sum_of_v ∷ [])

abbrev pub twice_input : Tuple
twice_input = record { labels = field_at (codes "v") 12 ∷ []; at = 11 }

abbrev pub twice_output : Tuple
twice_output = record { labels = field_at (codes "w") 19 ∷ []; at = 18 }

abbrev pub twice_box : BoxDecl
twice_box = record { name = named (codes "twice") 4; input = twice_input; outputs = twice_output ∷ []; funs = []; body = twice_body }

abbrev pub twice : Decl
twice = decl_form.BoxDecl twice_box

-- {v,<k>,<n>} -> {w,<k>,<n>,<s>}
abbrev pub input_variant : Variant
input_variant = variant_at 50 (field_at (codes "v") 51 ∷ tag_at (codes "k") 53 ∷ tag_at (codes "n") 57 ∷ [])

abbrev pub output_variant : Variant
output_variant = variant_at 65 (field_at (codes "w") 66 ∷ tag_at (codes "k") 68 ∷ tag_at (codes "n") 72 ∷ tag_at (codes "s") 76 ∷ [])

abbrev pub main_type : Sig
main_type = Arrow (Set input_variant ∷ []) (Set output_variant ∷ [])

-- [{<n>} -> {<n>,<s>=0}]
abbrev pub zero_expr : TExpr
zero_expr = record { at = 118; form = tag_form.Number (pos 0) }

abbrev pub start_pattern : Variant
start_pattern = variant_at 100 (tag_at (codes "n") 101 ∷ [])

abbrev pub start_template : TemplateAt
start_template = record { items = same_item (tag_at (codes "n") 110) ∷ computed_item (named (codes "s") 114) zero_expr ∷ []; at = 109 }

abbrev pub start_filter : NetExpr
start_filter = filter_at 99 start_pattern [] (start_template ∷ [])

-- [{<n>,<s>} -> {<n>=<n>-1,<s>=<s>+<n>}]
abbrev pub one_less : TExpr
one_less = tag_operations.op Sub 149 (record { at = 146; form = tag_form.Tag (named (codes "n") 146) }) (record { at = 150; form = tag_form.Number (pos 1) })

abbrev pub sum_of_s : TExpr
sum_of_s = tag_operations.op Add 159 (record { at = 156; form = tag_form.Tag (named (codes "s") 156) }) (record { at = 160; form = tag_form.Tag (named (codes "n") 160) })

abbrev pub step_pattern : Variant
step_pattern = variant_at 128 (tag_at (codes "n") 129 ∷ tag_at (codes "s") 133 ∷ [])

abbrev pub step_template : TemplateAt
step_template = record { items = computed_item (named (codes "n") 142) one_less ∷ computed_item (named (codes "s") 152) sum_of_s ∷ []; at = 141 }

abbrev pub step_filter : NetExpr
step_filter = filter_at 127 step_pattern [] (step_template ∷ [])

-- ** {<n>} if (<n> == 0), and !! <k>
abbrev pub at_zero : TExpr
at_zero = tag_operations.op Eq 183 (record { at = 179; form = tag_form.Tag (named (codes "n") 179) }) (record { at = 186; form = tag_form.Number (pos 0) })

abbrev pub exit_pattern : Variant
exit_pattern = variant_at 169 (tag_at (codes "n") 170 ∷ [])

abbrev pub step_star : NetExpr
step_star = star_at true 166 exit_pattern (Some at_zero) step_filter

abbrev pub step_split : NetExpr
step_split = split_at true false 190 (named (codes "k") 193) step_star

abbrev pub twice_call : NetExpr
twice_call = record { at = 90; form = net_form.Name (named (codes "twice") 90) }

abbrev pub main_network : NetExpr
main_network = serial_at 96 (twice_call ∷ start_filter ∷ step_split ∷ [])

abbrev pub main : Decl
main = net_of (named (codes "main") 44) (Some main_type) [] main_network

abbrev pub source_tree : Program
source_tree = record { decls = twice ∷ main ∷ [] }
