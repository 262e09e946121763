use Rattle.std.proofs.Common.{◌≡◌, ◌+◌, ◌↔◌, ◌≤◌, drop, map, sum}
use Rattle.sn_record.specs.Value.{nesting, weight, is_printable, greatest, every}
use Rattle.sn_record.proofs.value.Value.+room_left.Given as goal

abbrev pub invariant-loop-value : goal.invariant-loop-value
invariant-loop-value l = record {
  shallow : (nesting l.self ≤ l.levels) ↔ (greatest (map nesting (drop l.value-index l.value-items)) + 1 ≤ l.levels);
  light : weight l.self + l.left ≡ l.room + sum (map weight (drop l.value-index l.value-items));
  printable : is_printable l.self ≡ every (map is_printable (drop l.value-index l.value-items));
}
