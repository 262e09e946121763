use Rattle.std.proofs.Common.{◌≡◌, ◌∷◌, true, false}
use Rattle.sn_ast.specs.Kept.{kept}
use Rattle.sn_ast.specs.Rows.{no_parts}
use Rattle.sn_expr_parser.specs.BoxResidual.{closes, NextArguments, NextExpr}
use Rattle.sn_expr_parser.specs.declared.box_frame.Frame.TheVariants.{Arguments}
use Rattle.sn_expr_parser.proofs.BoxSteps.{none_from, none_to, first_from, first_to, through}
use Rattle.sn_expr_parser.proofs.box_operand.first_argument.Goals as goal

pub returns-then-closes : goal.returns-then-closes
returns-then-closes c =
    let e : closes c.args.head c.args.token ≡ true = cc in
    λ w t. rw (c.with_row-part.ensures, c.no_row-row.ensures) (none_from e, none_to c.args.head c.args.token e)

pub returns : goal.returns
returns c =
    let a = c.args in
    let e : closes a.head a.token ≡ false = cc in
    through (NextArguments a.frames a.level a.head) (NextExpr (Arguments a.level a.head (no_parts kept) ∷ a.frames)) a.token c.begin.result (λ w t. (first_from e, first_to)) (rw (c.in_ok-push.ensures.ok, c.no_row-row.ensures) at c.begin.ensures)
