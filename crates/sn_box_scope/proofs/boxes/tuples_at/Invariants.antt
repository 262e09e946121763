use Rattle.std.proofs.Common.{◌≡◌, take, drop, map, fold}
use Rattle.sn_box_scope.specs.Boxes.{tuple_at, tuple_required}
use Rattle.sn_box_scope.proofs.boxes.tuples_at.Given as goal

abbrev pub invariant-loop-tuple : goal.invariant-loop-tuple
invariant-loop-tuple l =
    (l.made ≡ map (tuple_at l.names) (take l.tuple-index l.tuples))
    × (fold (tuple_required l.names) l.refusals (drop l.tuple-index l.tuples) ≡ fold (tuple_required l.names) l.initial.refusals l.tuples)
