use Rattle.sn_routed.proofs.Routed.{no_stuck_passes}
use Rattle.sn_routed.proofs.laws.no_record_lacks_a_route_at_a_place.Goals as goal

pub returns : goal.returns
returns c = no_stuck_passes
