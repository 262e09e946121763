use denote.Param.Send.{sendable}
use Rattle.std.proofs.Crossing.{crosses}
use Rattle.sn_jobs.proofs.Crossing.{hand_send}
use Rattle.sn_model.proofs.Crossing.{run_send, run_sync}
use Rattle.sn_tests.proofs.jobs.another_thread_answers.Goals as goal

pub join-answered-requires-send-F : goal.join-answered-requires-send-F
join-answered-requires-send-F g c κs = search (sendable, crosses, hand_send, run_send, run_sync) depth 20
