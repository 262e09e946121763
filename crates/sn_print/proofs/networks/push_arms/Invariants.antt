use Rattle.std.proofs.Common.{◌≡◌, ◌++◌, take}
use Rattle.std.specs.List.{flat_map}
use Rattle.sn_print.specs.Networks.{arm_text}
use Rattle.sn_print.proofs.networks.push_arms.Given as goal

abbrev pub invariant-loop-arm : goal.invariant-loop-arm
invariant-loop-arm l = l.text ≡ l.initial.text ++ flat_map arm_text (take l.arm-index l.arms)
