use Rattle.std.proofs.Common.{◌≡◌, drop, fold}
use Rattle.sn_scope.specs.Numbering.{after_tuple}
use Rattle.sn_scope.proofs.numbering.enter_tuples.Given as goal

abbrev pub invariant-loop-tuple : goal.invariant-loop-tuple
invariant-loop-tuple l = fold after_tuple l.names (drop l.tuple-index l.tuples) ≡ fold after_tuple l.initial.names l.tuples
