use Rattle.std.proofs.Common.{rules}
use Rattle.std.proofs.lemmas.Int.{to_z-of_z}
use Rattle.std.specs.Int.{w64}
use Rattle.std.specs.Prelude.{FitsSigned}
use Rattle.sn_expr_parser.proofs.TagSteps.{number_from, number_to, tag_from, tag_to, no_operand}
use Rattle.sn_expr_parser.proofs.tags.operand.Goals as goal

pub returns-in-Number : goal.returns-in-Number
returns-in-Number c =
    let n = c.in-Number in
    let fits : FitsSigned w64 n.value = search rules in
    let made = rw (to_z-of_z w64 n.value fits) at c.after_leaf.ensures in
    λ w t. rw (n.is, made) (number_from, number_to)

pub returns-in-Tag : goal.returns-in-Tag
returns-in-Tag c = λ w t. rw (c.in-Tag.is, c.after_leaf-in-Tag.ensures) (tag_from, tag_to)

pub returns-in_default : goal.returns-in_default
returns-in_default c = λ w t. no_operand c.in_default.not-Number c.in_default.not-Tag c.in_default.not-Symbol
