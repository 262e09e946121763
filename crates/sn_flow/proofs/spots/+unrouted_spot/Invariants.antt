use Rattle.std.proofs.Common.{◌≡◌, map}
use Rattle.sn_typing.specs.Outline.{branch_of, outline}
use Rattle.sn_flow.specs.Spots.{joined, least, spots}
use Rattle.sn_flow.specs.Tables.{child}
use Rattle.sn_flow.proofs.spots.+unrouted_spot.Given as goal

abbrev pub decreases-unrouted_spot : goal.decreases-unrouted_spot
decreases-unrouted_spot l = goal.size-unrouted_spot l

abbrev pub invariant-loop-i : goal.invariant-loop-i
invariant-loop-i l = l.best ≡ least l.initial.best (joined l.i (λ j. spots (branch_of (map (outline l.boxes) l.branches) j) (child l.fn.table j)))
