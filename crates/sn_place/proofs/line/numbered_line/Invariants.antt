use Rattle.std.proofs.Common.{◌≡◌, ◌<◌}
use Rattle.sn_place.specs.Place.{line_at}
use Rattle.sn_place.proofs.line.numbered_line.Given as goal

abbrev pub invariant-loop-i : goal.invariant-loop-i
invariant-loop-i l = (l.line ≡ line_at l.text l.i) × (l.line < l.number)
