use Rattle.std.proofs.Common.{◌≤◌, ◌-◌, length}
use Rattle.sn_explain.proofs.excerpt.window.Given as goal

abbrev pub invariant-loop-from : goal.invariant-loop-from
invariant-loop-from l = l.from ≤ l.place

abbrev pub decreases-loop-from : goal.decreases-loop-from
decreases-loop-from l = l.place - l.from

abbrev pub invariant-loop-to : goal.invariant-loop-to
invariant-loop-to l = (l.place ≤ l.to) × (l.to ≤ length l.line)

abbrev pub decreases-loop-to : goal.decreases-loop-to
decreases-loop-to l = l.to - l.place
