use Rattle.std.proofs.Common.{List, Err, sym, subst}
use Rattle.sn_record.specs.LabelSet.{Labels}
use Rattle.sn_typing.specs.Outline.{outline}
use Rattle.sn_flow.specs.declared.fault.FlowFault.{FlowFault}
use Rattle.sn_flow.specs.Verdicts.{FlowFound}
use Rattle.sn_flow.specs.Whole.{EachVisited, IsWhole}
use Rattle.sn_flow.proofs.Telling.{flow_stopped}
use Rattle.sn_flow.proofs.claims.flow.Goals as goal

pub returns-in-Err : goal.returns-in-Err
returns-in-Err c =
    subst (λ (f : FlowFault). FlowFound (outline c.args.boxes.now c.args.net.now) c.args.variant.now (Err f)) (sym c.stopped.ensures)
    (flow_stopped (outline c.args.boxes.now c.args.net.now) c.args.variant.now c.in-Err.stop
    (subst (λ (vs : List Labels). EachVisited (outline c.args.boxes.now c.args.net.now) vs (Err c.in-Err.stop)) c.from_ref.ensures.value c.in-Err.ensures))

pub returns-in-Ok : goal.returns-in-Ok
returns-in-Ok c = c.flow_in.ensures (subst (λ (vs : List Labels). IsWhole (outline c.args.boxes.now c.args.net.now) vs c.in-Ok.table) c.from_ref.ensures.value c.in-Ok.ensures)
