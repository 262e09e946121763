use Rattle.std.proofs.Common.{◌≡◌}
use Rattle.sn_place.specs.Place.{line_at, column_at}
use Rattle.sn_place.proofs.position.walk.Given as goal

abbrev pub invariant-loop-i : goal.invariant-loop-i
invariant-loop-i l = (l.line ≡ line_at l.text l.i) × (l.column ≡ column_at l.text l.i)
