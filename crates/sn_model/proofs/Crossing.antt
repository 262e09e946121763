-- A run may go to another thread, and threads may share one: part by part, for the closures of callers, at which a search over all would not end.
use denote.Param.Send.{IsSend, IsSync, recorded_send, recorded_sync, sendable}
use denote.Param.SendFields.{declared_send, declared_sync}
use Rattle.std.proofs.Crossing.{crosses}
use Rattle.sn_list.proofs.boxed.Boxed.TheSendSync as boxed
use Rattle.sn_list.proofs.seq.Seq.TheSendSync as seq
use Rattle.sn_record.proofs.label_map.LabelMap.TheSendSync as label_map
use Rattle.sn_record.proofs.label_set.LabelSet.TheSendSync as label_set
use Rattle.sn_record.proofs.value.Value.TheLaws.TheKnot as value
use Rattle.sn_tagexpr.proofs.expr.TagExpr.TheLaws.TheKnot as tag_expr
use Rattle.sn_net.proofs.expr.Expr.TheLaws.TheKnot as expr
use Rattle.sn_net.proofs.net.Net.TheLaws.TheKnot as net
use Rattle.sn_net.specs.contracts.filter.Arm as arm
use Rattle.sn_net.specs.contracts.filter.Filter as filter
use Rattle.sn_net.specs.contracts.net.Net as net_row
use Rattle.sn_model.specs.contracts.run.Run as run

pub ruleset parts = (
  sendable,
  crosses,
  boxed.the_send,
  boxed.the_sync,
  seq.the_send,
  seq.the_sync,
  label_map.the_send,
  label_map.the_sync,
  label_set.the_send,
  label_set.the_sync,
  value.send-Value,
  value.sync-Value,
  tag_expr.send-TagExpr,
  tag_expr.sync-TagExpr,
  expr.send-Expr,
  expr.sync-Expr,
  net.send-Net,
  net.sync-Net,
)

arm_send : IsSend arm.the_row
arm_send = search parts depth 60 fits 100000

arm_sync : IsSync arm.the_row
arm_sync = search parts depth 60 fits 100000

filter_send : IsSend (filter.the_field).row
filter_send = search (parts, arm_send) depth 60 fits 100000

filter_sync : IsSync (filter.the_field).row
filter_sync = search (parts, arm_sync) depth 60 fits 100000

net_send : IsSend (net_row.the_field).row
net_send =
    net.send-Net (search sendable) filter_send (search parts depth 60 fits 100000) (search parts depth 60 fits 100000)
    (search parts depth 60 fits 100000) (search parts depth 60 fits 100000) (search parts depth 60 fits 100000)
    (search parts depth 60 fits 100000) (search parts depth 60 fits 100000)

net_sync : IsSync (net_row.the_field).row
net_sync =
    net.sync-Net (search sendable) filter_sync (search parts depth 60 fits 100000) (search parts depth 60 fits 100000)
    (search parts depth 60 fits 100000) (search parts depth 60 fits 100000) (search parts depth 60 fits 100000)
    (search parts depth 60 fits 100000) (search parts depth 60 fits 100000)

pub run_send : IsSend run.the_row
run_send = declared_send run.the_type (
  recorded_send (net_row.the_field).row _ _ (net_row.the_field).into_one net_send,
  (
    search parts depth 60 fits 100000,
    (search sendable, (search sendable, (search sendable, (search parts depth 60 fits 100000, tt)))),
  ),
)

pub run_sync : IsSync run.the_row
run_sync = declared_sync run.the_type (
  recorded_sync (net_row.the_field).row _ _ (net_row.the_field).into_one net_sync,
  (
    search parts depth 60 fits 100000,
    (search sendable, (search sendable, (search sendable, (search parts depth 60 fits 100000, tt)))),
  ),
)
