use Rattle.std.proofs.Common.{◌∷◌, None}
use Rattle.sn_ast.specs.Terminals.{place_of}
use Rattle.sn_expr_parser.specs.BoxResidual.{NextSequence, NextExpr}
use Rattle.sn_expr_parser.specs.declared.box_frame.Frame.TheVariants.{Parens}
use Rattle.sn_expr_parser.proofs.BoxSteps.{step_from, step_to, through}
use Rattle.sn_expr_parser.proofs.box_operand.first_step.Goals as goal

pub returns : goal.returns
returns c =
    let a = c.args in
    through (NextSequence a.frames a.level) (NextExpr (Parens a.level (place_of a.token) None ∷ a.frames)) a.token c.begin.result (λ w t. (step_from, step_to)) (rw (c.in_ok-push.ensures.ok, c.place.ensures) at c.begin.ensures)
