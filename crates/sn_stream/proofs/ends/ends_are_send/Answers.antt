use denote.Param.Send.{sendable}
use Rattle.sn_stream.proofs.Crossing.{get_end_send, put_end_send}
use Rattle.sn_stream.proofs.ends.ends_are_send.Goals as goal

pub moves_between_threads-requires-send-T : goal.moves_between_threads-requires-send-T
moves_between_threads-requires-send-T c κs = search (sendable, put_end_send)

pub moves_between_threads-requires-2-send-T : goal.moves_between_threads-requires-2-send-T
moves_between_threads-requires-2-send-T c κs = search (sendable, get_end_send)
