use Rattle.std.proofs.Common.{◌≡◌, take, drop, map, fold}
use Rattle.sn_scope.specs.Filters.{arm_at, arm_required}
use Rattle.sn_scope.proofs.filters.arms_at.Given as goal

abbrev pub invariant-loop-arm : goal.invariant-loop-arm
invariant-loop-arm l =
    (l.made ≡ map (arm_at l.names) (take l.arm-index l.arms))
    × (fold (arm_required l.names l.pattern) l.refusals (drop l.arm-index l.arms) ≡ fold (arm_required l.names l.pattern) l.initial.refusals l.arms)
