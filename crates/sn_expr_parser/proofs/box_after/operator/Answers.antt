use Rattle.sn_expr_parser.proofs.BoxSteps.{operator_steps, operator_refused}
use Rattle.sn_expr_parser.proofs.box_after.operator.Goals as goal

pub returns-in_default : goal.returns-in_default
returns-in_default c =
    let a = c.args in
    λ s h. operator_refused a.frames a.level a.part a.between s a.at h (rw c.in_default.is at c.in_ok-level.ensures)

pub returns : goal.returns
returns c =
    let a = c.args in
    λ s h. operator_steps a.frames a.level c.in-Some.level a.part a.between s a.at h (rw c.in-Some.is at c.in_ok-level.ensures)
