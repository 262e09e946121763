use Rattle.std.proofs.Common.{◌≡◌, drop}
use Rattle.sn_scope.specs.Trees.{claims_within, led_by, most_nodes}
use Rattle.sn_scope.proofs.resolution.claims.Given as goal

abbrev pub invariant-loop-pending : goal.invariant-loop-pending
invariant-loop-pending l = led_by l.made (claims_within l.declarations l.room (drop l.pending-index l.pending-items)) ≡ claims_within l.declarations most_nodes l.pending-items
