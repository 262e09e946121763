use Rattle.std.proofs.lemmas.Result.{err_from_is_err_and}
use Rattle.sn_flow.proofs.Telling.{claim_refused, claim_told}
use Rattle.sn_flow.proofs.claims.accepted.Goals as goal

pub returns-in_err-routed : goal.returns-in_err-routed
returns-in_err-routed c =
    let p = err_from_is_err_and c.from_residual.result c.from_residual.ensures.1 in
    rw (p.1, p.2) (claim_refused c.args.boxes.now c.args.claim.now c.args.table.now c.in_err-routed.field-0.0 c.in_err-routed.ensures)

pub returns : goal.returns
returns c = claim_told c.args.boxes.now c.args.claim.now c.args.table.now c.declared.result c.in_ok-routed.ensures c.declared.ensures
