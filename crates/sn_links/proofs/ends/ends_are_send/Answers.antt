use denote.Param.Send.{sendable}
use Rattle.sn_links.proofs.Crossing.{far_send, near_send}
use Rattle.sn_links.proofs.ends.ends_are_send.Goals as goal

pub moves_between_threads-requires-send-T : goal.moves_between_threads-requires-send-T
moves_between_threads-requires-send-T c κs = search (sendable, near_send)

pub moves_between_threads-requires-2-send-T : goal.moves_between_threads-requires-2-send-T
moves_between_threads-requires-2-send-T c κs = search (sendable, far_send)
