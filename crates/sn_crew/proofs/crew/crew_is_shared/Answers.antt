use denote.Param.Send.{sendable}
use Rattle.std.proofs.Crossing.{crosses}
use Rattle.sn_crew.proofs.Crossing.{crew_sync}
use Rattle.sn_crew.proofs.crew.crew_is_shared.Goals as goal

pub is_shared_between_threads-requires-sync-T : goal.is_shared_between_threads-requires-sync-T
is_shared_between_threads-requires-sync-T g c κs within = search (sendable, crosses, crew_sync) depth 60 fits 100000
