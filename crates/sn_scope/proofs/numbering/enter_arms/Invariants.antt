use Rattle.std.proofs.Common.{◌≡◌, drop, fold}
use Rattle.sn_scope.specs.Numbering.{after_arm}
use Rattle.sn_scope.proofs.numbering.enter_arms.Given as goal

abbrev pub invariant-loop-arm : goal.invariant-loop-arm
invariant-loop-arm l = fold after_arm l.names (drop l.arm-index l.arms) ≡ fold after_arm l.initial.names l.arms
