use denote.Param.Send.{sendable}
use Rattle.std.proofs.Crossing.{crosses}
use Rattle.sn_jobs.proofs.Crossing.{hand_send}
use Rattle.sn_workers.proofs.Crossing.{shared_sync}
use Rattle.sn_workers.proofs.work.fn.help.scope.Goals as goal

pub spawn-requires-send-F : goal.spawn-requires-send-F
spawn-requires-send-F g c κs within = search (sendable, crosses, hand_send, shared_sync) depth 60 fits 100000
