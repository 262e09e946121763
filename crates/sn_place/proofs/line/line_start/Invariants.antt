use Rattle.std.proofs.Common.{◌≡◌, ◌≤◌, ◌<◌, ℕ, get_or, false}
use Rattle.sn_place.specs.Place.{is_line_feed}
use Rattle.sn_place.proofs.line.line_start.Given as goal

abbrev pub invariant-loop-start : goal.invariant-loop-start
invariant-loop-start l = (l.start ≤ l.at) × ((k : ℕ) → l.start ≤ k → k < l.at → is_line_feed (get_or l.text k 0) ≡ false)

abbrev pub decreases-loop-start : goal.decreases-loop-start
decreases-loop-start l = l.start
