use Rattle.std.proofs.Common.{rules}
use Rattle.std.proofs.lemmas.Int.{to_z-of_z}
use Rattle.std.specs.Int.{w64}
use Rattle.std.specs.Prelude.{FitsSigned}
use Rattle.sn_expr_parser.proofs.BoxSteps.{out_number_from, out_number_to, no_number}
use Rattle.sn_expr_parser.proofs.box_operand.after_out.Goals as goal

pub returns-in_default : goal.returns-in_default
returns-in_default c = λ w t. no_number c.in_default.not-Number

pub returns : goal.returns
returns c =
    let n = c.in-Number in
    let fits : FitsSigned w64 n.value = search rules in
    let made = rw (to_z-of_z w64 n.value fits) at c.unsigned_abs-number.ensures.value in
    λ w t. rw (n.is, made) (out_number_from, out_number_to)
