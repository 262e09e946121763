use Rattle.std.proofs.Common.{◌≤◌, ◌-◌}
use Rattle.drive.proofs.nodes.count_nodes.Given as goal

abbrev pub invariant-loop-past : goal.invariant-loop-past
invariant-loop-past l = 1 ≤ l.past

abbrev pub decreases-loop-past : goal.decreases-loop-past
decreases-loop-past l = 2147483648 - l.past

abbrev pub invariant-loop-count : goal.invariant-loop-count
invariant-loop-count l = l.count ≤ l.past

abbrev pub decreases-loop-count : goal.decreases-loop-count
decreases-loop-count l = l.past - l.count
