use Rattle.std.proofs.lemmas.Result.{err_from_is_err_and}
use Rattle.sn_typing.specs.Outline.{outline}
use Rattle.sn_flow.proofs.Telling.{flow_refused, flow_told}
use Rattle.sn_flow.proofs.claims.flow_in.Goals as goal

pub returns-in_err-routed : goal.returns-in_err-routed
returns-in_err-routed c =
    let p = err_from_is_err_and c.from_residual.result c.from_residual.ensures.1 in
    rw (p.1, p.2) (flow_refused (outline c.args.boxes.now c.args.net.now) c.args.variant.now c.args.table.now c.in_err-routed.field-0.0 c.in_err-routed.ensures)

pub returns : goal.returns
returns c = flow_told (outline c.args.boxes.now c.args.net.now) c.args.variant.now c.args.table.now c.in_ok-flow.flow c.ascending.result c.in_ok-routed.ensures c.in_ok-flow.ensures c.ascending.ensures
