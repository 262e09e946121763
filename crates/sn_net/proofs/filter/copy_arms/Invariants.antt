use Rattle.std.proofs.Common.{◌≡◌, take}
use Rattle.sn_net.proofs.filter.copy_arms.Given as goal

abbrev pub invariant-loop-arm : goal.invariant-loop-arm
invariant-loop-arm l = l.copies ≡ take l.arm-index l.arms
