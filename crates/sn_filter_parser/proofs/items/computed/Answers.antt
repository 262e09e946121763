use Rattle.sn_filter_parser.proofs.ItemSteps.{expr_more, expr_refused, expr_ended}
use Rattle.sn_filter_parser.proofs.items.computed.Goals as goal

pub returns-in-Ok : goal.returns-in-Ok
returns-in-Ok c = let a = c.args in expr_more a.items a.tag a.expr c.in-Ok.expr a.token c.in-Ok.ensures

pub returns-in-Err-Refused : goal.returns-in-Err-Refused
returns-in-Err-Refused c =
    let a = c.args in
    let r = c.in-Err-Refused in
    expr_refused a.items a.tag a.expr a.token (rw r.field-0-is at r.ensures)

pub returns-in_ok-items-in-Err-Ended : goal.returns-in_ok-items-in-Err-Ended
returns-in_ok-items-in-Err-Ended c =
    let a = c.args in
    let e = c.in-Err-Ended in
    let next = c.in_ok-items-in-Err-Ended in
    expr_ended a.items next.items a.tag a.expr a.token e.part e.symbol e.at c.after.result (rw e.field-0-is at e.ensures) (rw c.compute.ensures at next.ensures) c.after.ensures
