use denote.Param.Send.{sendable}
use Rattle.std.proofs.Crossing.{crosses}
use Rattle.sn_stream.proofs.Crossing.{items_sync, put_end_send}
use Rattle.sn_tests.proofs.streams.goes_to_another_thread.Goals as goal

pub join-sent-requires-send-F : goal.join-sent-requires-send-F
join-sent-requires-send-F g c κs within = search (sendable, crosses, put_end_send, items_sync) depth 60 fits 100000
