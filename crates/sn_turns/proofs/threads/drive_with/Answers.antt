use denote.Param.Send.{sendable}
use Rattle.std.proofs.Crossing.{crosses}
use Rattle.sn_jobs.proofs.Crossing.{hand_send}
use Rattle.sn_workers.proofs.Crossing.{shared_sync}
use Rattle.sn_turns.proofs.threads.drive_with.Goals as goal

pub join_mut-outcome-requires-send-F : goal.join_mut-outcome-requires-send-F
join_mut-outcome-requires-send-F g c κs within = search (sendable, crosses, hand_send, shared_sync) depth 60 fits 100000
