use Rattle.std.proofs.Common.{take}
use Rattle.std.specs.List.{All}
use Rattle.sn_net.specs.Filter.{IsClosedArm}
use Rattle.sn_net.proofs.filter.Filter.is_closed.Given as goal

abbrev pub invariant-loop-arm : goal.invariant-loop-arm
invariant-loop-arm l = All (IsClosedArm l.self.pattern) (take l.arm-index l.arm-items)
