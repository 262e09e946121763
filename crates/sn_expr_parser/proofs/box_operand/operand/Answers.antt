use Rattle.std.proofs.Common.{rules}
use Rattle.std.proofs.lemmas.Int.{to_z-of_z}
use Rattle.std.specs.Int.{w64}
use Rattle.std.specs.Prelude.{FitsSigned}
use Rattle.sn_expr_parser.proofs.BoxSteps.{number_from, number_to, literal_from, literal_to, tag_from, tag_to, named_from, named_to}
use Rattle.sn_expr_parser.proofs.box_operand.operand.Goals as goal

pub returns-in-Number : goal.returns-in-Number
returns-in-Number c =
    let n = c.in-Number in
    let fits : FitsSigned w64 n.value = search rules in
    let made = rw (to_z-of_z w64 n.value fits) at c.after_leaf.ensures in
    λ w t. rw (n.is, made) (number_from, number_to)

pub returns-in-Literal : goal.returns-in-Literal
returns-in-Literal c = λ w t. rw (c.in-Literal.is, c.after_leaf-in-Literal.ensures) (literal_from, literal_to)

pub returns-in-Tag : goal.returns-in-Tag
returns-in-Tag c = λ w t. rw (c.in-Tag.is, c.after_leaf-in-Tag.ensures) (tag_from, tag_to)

pub returns-in-Name : goal.returns-in-Name
returns-in-Name c = λ w t. rw c.in-Name.is (named_from, named_to)
