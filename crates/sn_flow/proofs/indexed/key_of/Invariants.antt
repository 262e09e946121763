use Rattle.std.proofs.Common.{◌≡◌, take}
use Rattle.std.specs.FinMap as labels
use Rattle.sn_flow.proofs.indexed.key_of.Given as goal

abbrev pub invariant-loop-i : goal.invariant-loop-i
invariant-loop-i l = l.key.items ≡ take l.i (labels.keys l.variant)
