use Rattle.std.proofs.Common.{◌≡◌, ◌++◌}
use Rattle.std.specs.Vec.Iter.{into_iter_items}
use Rattle.sn_box_values.specs.Datum.{values_of}
use Rattle.sn_box_values.proofs.operators.separate.Given as goal

abbrev pub invariant-loop-datum : goal.invariant-loop-datum
invariant-loop-datum l = l.values ++ values_of (into_iter_items l.datum-iterator) ≡ values_of l.fn.shared
