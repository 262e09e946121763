use denote.Param.Send.{sendable}
use Rattle.std.proofs.Crossing.{crosses}
use Rattle.sn_model.proofs.Crossing.{run_send, run_sync}
use Rattle.sn_model.proofs.run.runs_may_cross.Goals as goal

pub may_cross-requires-send-T : goal.may_cross-requires-send-T
may_cross-requires-send-T c κs = search (run_send, sendable, crosses) depth 60 fits 100000

pub may_cross-requires-sync-T : goal.may_cross-requires-sync-T
may_cross-requires-sync-T c κs = search (run_sync, sendable, crosses) depth 60 fits 100000
