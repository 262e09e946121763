use Rattle.std.proofs.Common.{◌≡◌}
use Rattle.std.specs.FinMap.{empty}
use Rattle.std.specs.Vec.Iter.{into_iter_items}
use Rattle.sn_net.specs.BoxEvaluation.{with_values}
use Rattle.sn_box_values.specs.Datum.{values_of}
use Rattle.sn_box_values.proofs.emission.record_of.Given as goal

abbrev pub invariant-loop-value : goal.invariant-loop-value
invariant-loop-value l = with_values l.left (values_of (into_iter_items l.value-iterator)) l.made ≡ with_values l.fn.labels (values_of l.fn.values) empty
