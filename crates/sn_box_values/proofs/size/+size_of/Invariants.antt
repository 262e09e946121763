use Rattle.std.proofs.Common.{◌≡◌, ◌+◌, drop, map, max, sum}
use Rattle.sn_record.specs.Value.{IsSound, nesting, weight, greatest}
use Rattle.sn_box_values.proofs.size.+size_of.Given as goal

abbrev pub invariant-loop-value : goal.invariant-loop-value
invariant-loop-value l = record {
  deep : nesting l.whole ≡ max l.levels (greatest (map nesting (drop l.value-index l.value-items))) + 1;
  weighs : weight l.whole ≡ l.weight + sum (map weight (drop l.value-index l.value-items));
  sound : IsSound l.whole;
}

abbrev pub decreases-size_of : goal.decreases-size_of
decreases-size_of l = goal.size-size_of l
