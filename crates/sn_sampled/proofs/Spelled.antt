-- The words of the built-in source spell its tree.
use Rattle.std.proofs.Common.{◌≡◌, ℕ, List, [], ◌∷◌, Some, refl, arith}
use Rattle.sn_ast.specs.BoxExprs as box_expr
use Rattle.sn_ast.specs.Declarations.{box, rest_of_box, last_tuple, body, net, signature, no_inner, no_more, declaration}
use Rattle.sn_ast.specs.Labels.{last_label, more_labels, labels, variant, tuple, set, last_part, types, arrow}
use Rattle.sn_ast.specs.Measures.{measured}
use Rattle.sn_ast.specs.Networks as net_expr
use Rattle.sn_ast.specs.TagExprs as tag_expr
use Rattle.sn_ast.specs.Operators.{tag_operations, with_operator}
use Rattle.sn_ast.specs.Terminals.{infix_of}
use Rattle.sn_ast.specs.declared.box_expr.BExpr.{BExpr}
use Rattle.sn_ast.specs.declared.declaration.Decl.{Decl}
use Rattle.sn_ast.specs.declared.tag_expr.Operator.{Operator}
use Rattle.sn_ast.specs.declared.tag_expr.TExpr.{TExpr}
use Rattle.sn_ast.specs.declared.terminal.Infix.TheVariants.{Sum, Comparison}
use Rattle.sn_ast.specs.declared.terminal.Symbol.{Symbol as SomeSymbol}
use Rattle.sn_ast.specs.declared.terminal.Terminal.{Terminal}
use Rattle.sn_ast.specs.declared.terminal.Terminal.TheVariants.{Symbol}
use Rattle.sn_ast.specs.declared.measure.Measured.{Measured}
use Rattle.sn_parser.specs.Answer.{Spells, IsProgram}
use Rattle.sn_sampled.proofs.Source.{source_said}
use Rattle.sn_sampled.proofs.Tree.{twice, main, source_tree}

abbrev source_decls : List (ℕ × Measured Decl)
source_decls = (4, record { value = twice; height = 3; open_at_once = 0 }) ∷ (44, record { value = main; height = 5; open_at_once = 2 }) ∷ []

-- an operand alone, two with a sign between, and two that are compared, as expressions over tags
alone : {e : Measured TExpr} {ts us : List Terminal} → tag_expr.Operand measured ts e us → tag_expr.TagExpr measured ts e us
alone a =
    let one = tag_expr.sum (tag_expr.product a tag_expr.no_product) tag_expr.no_sum in
    tag_expr.plain (tag_expr.disjunction (tag_expr.conjunction (tag_expr.no_compare one) tag_expr.no_and) tag_expr.no_or)

added : {at : ℕ} {s : SomeSymbol} {op : Operator} {e f : Measured TExpr} {ts us vs : List Terminal} →
    tag_expr.Operand measured ts e (Symbol s at ∷ us) → infix_of s ≡ Some (Sum op) → tag_expr.Operand measured us f vs →
    tag_expr.TagExpr measured ts (with_operator measured tag_operations op at e f) vs
added a is b =
    let both = tag_expr.sum (tag_expr.product a tag_expr.no_product) (tag_expr.add is (tag_expr.product b tag_expr.no_product) tag_expr.no_sum) in
    tag_expr.plain (tag_expr.disjunction (tag_expr.conjunction (tag_expr.no_compare both) tag_expr.no_and) tag_expr.no_or)

compared : {at : ℕ} {s : SomeSymbol} {op : Operator} {e f : Measured TExpr} {ts us vs : List Terminal} →
    tag_expr.Operand measured ts e (Symbol s at ∷ us) → infix_of s ≡ Some (Comparison op) → tag_expr.Operand measured us f vs →
    tag_expr.TagExpr measured ts (with_operator measured tag_operations op at e f) vs
compared a is b =
    let left = tag_expr.sum (tag_expr.product a tag_expr.no_product) tag_expr.no_sum in
    let right = tag_expr.sum (tag_expr.product b tag_expr.no_product) tag_expr.no_sum in
    tag_expr.plain (tag_expr.disjunction (tag_expr.conjunction (tag_expr.compare left is right) tag_expr.no_and) tag_expr.no_or)

-- a sum in a box
summed : {e : Measured BExpr} {ts us : List Terminal} → box_expr.Sum measured ts e us → box_expr.BoxExpr measured ts e us
summed a = box_expr.plain (box_expr.disjunction (box_expr.conjunction (box_expr.no_compare a) box_expr.no_and) box_expr.no_or)

pub source_spelled : Spells source_said source_decls
source_spelled =
    declaration
    (box (rest_of_box (tuple (labels refl (last_label refl))) (tuple (labels refl (last_label refl))) last_tuple
    (body (box_expr.sequence
    (summed (box_expr.sum (box_expr.product
    (box_expr.out (box_expr.arguments
    (summed (box_expr.sum (box_expr.product box_expr.name box_expr.no_product) (box_expr.add refl (box_expr.product box_expr.name box_expr.no_product) box_expr.no_sum)))
    (box_expr.last_argument refl)))
    box_expr.no_product) box_expr.no_sum))
    box_expr.last_step))))
    (declaration
    (net
    (signature (arrow (types (set (variant (labels refl (more_labels refl (more_labels refl (last_label refl)))))) last_part)
    (types (set (variant (labels refl (more_labels refl (more_labels refl (more_labels refl (last_label refl))))))) last_part)))
    no_inner
    (net_expr.network (net_expr.serial (net_expr.post net_expr.name net_expr.bare)
    (net_expr.dots
    (net_expr.post (net_expr.filtered (net_expr.filter (variant (labels refl (last_label refl))) net_expr.no_arms
    (net_expr.last_templates
    (net_expr.template (net_expr.items (net_expr.same refl) (net_expr.more_items (net_expr.computed (alone tag_expr.number)) net_expr.last_item)))
    net_expr.last_template))) net_expr.bare)
    (net_expr.dots
    (net_expr.post (net_expr.parens (net_expr.network (net_expr.serial (net_expr.post
    (net_expr.parens (net_expr.network (net_expr.serial (net_expr.post
    (net_expr.filtered (net_expr.filter (variant (labels refl (more_labels refl (last_label refl)))) net_expr.no_arms
    (net_expr.last_templates
    (net_expr.template (net_expr.items
    (net_expr.computed (added tag_expr.tag refl tag_expr.number))
    (net_expr.more_items (net_expr.computed (added tag_expr.tag refl tag_expr.tag)) net_expr.last_item)))
    net_expr.last_template)))
    (net_expr.guarded_star refl (variant (labels refl (last_label refl))) (compared tag_expr.tag refl tag_expr.number) net_expr.bare))
    net_expr.last) net_expr.final))
    (net_expr.split refl net_expr.bare)) net_expr.last) net_expr.final)) net_expr.bare)
    net_expr.last))) net_expr.final))
    no_more)

pub source_program : IsProgram source_said source_tree
source_program = record { decls = source_decls; spelled = source_spelled; within = ((omega arith, omega arith), ((omega arith, omega arith), tt)); is = refl }
