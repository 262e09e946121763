use Rattle.std.proofs.Common.{◌≡◌, true, false}
use Rattle.sn_expr_parser.specs.BoxNodes.{is_closed_by}
use Rattle.sn_expr_parser.proofs.BoxSteps.{closed_from, closed_to, comma_from, comma_to, no_argument}
use Rattle.sn_expr_parser.proofs.box_after.in_arguments.Goals as goal

pub returns-then-is_closed_by : goal.returns-then-is_closed_by
returns-then-is_closed_by c =
    let a = c.args in
    let e : is_closed_by a.head a.symbol ≡ true = cc in
    λ at w t. rw (c.with_row-part.ensures, c.in_ok-row.ensures) (closed_from e, closed_to a.head a.symbol e)

pub returns-in_default : goal.returns-in_default
returns-in_default c =
    let e : is_closed_by c.args.head c.args.symbol ≡ false = cc in λ at w t. no_argument e c.in_default.not-Comma

pub returns : goal.returns
returns c = λ at w t. rw (c.in-Comma.is, c.in_ok-within.ensures, c.in_ok-row.ensures) (comma_from, comma_to)
