use denote.Param.Send.{sendable}
use Rattle.std.proofs.Crossing.{crosses}
use Rattle.sn_boxrun.proofs.Crossing.{done_send}
use Rattle.sn_boxrun.proofs.job.jobs_may_cross.Goals as goal

pub may_cross-requires-2-send-T : goal.may_cross-requires-2-send-T
may_cross-requires-2-send-T c κs = search (done_send, sendable, crosses) depth 60 fits 100000
