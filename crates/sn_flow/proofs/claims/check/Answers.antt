use Rattle.std.proofs.Common.{List, Err, sym, subst}
use Rattle.sn_record.specs.LabelSet.{Labels}
use Rattle.sn_typing.specs.Outline.{outline}
use Rattle.sn_flow.specs.declared.fault.FlowFault.{FlowFault}
use Rattle.sn_flow.specs.Verdicts.{Checked}
use Rattle.sn_flow.specs.Whole.{EachVisited, IsWhole}
use Rattle.sn_flow.proofs.Telling.{claim_stopped}
use Rattle.sn_flow.proofs.claims.check.Goals as goal

pub returns-in-Err : goal.returns-in-Err
returns-in-Err c =
    subst (λ (f : FlowFault). Checked c.args.boxes.now c.args.claim.now (Err f)) (sym c.stopped.ensures)
    (claim_stopped c.args.boxes.now c.args.claim.now c.in-Err.stop
    (subst (λ (vs : List Labels). EachVisited (outline c.args.boxes.now c.args.claim.now.net) vs (Err c.in-Err.stop)) c.as_slice.ensures c.in-Err.ensures))

pub returns-in-Ok : goal.returns-in-Ok
returns-in-Ok c = c.accepted.ensures (subst (λ (vs : List Labels). IsWhole (outline c.args.boxes.now c.args.claim.now.net) vs c.in-Ok.table) c.as_slice.ensures c.in-Ok.ensures)
