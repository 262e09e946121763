use Rattle.std.proofs.Common.{◌≡◌, ◌++◌, take, drop}
use Rattle.sn_types.specs.RecordType.{minimal, minimal_from}
use Rattle.sn_types.proofs.variants.copy_minimal.Given as goal

abbrev pub invariant-loop-i : goal.invariant-loop-i
invariant-loop-i l = l.kept.items ++ minimal_from l.whole (take l.i l.whole) (drop l.i l.whole) ≡ minimal l.whole
