use Rattle.std.proofs.Common.{◌≡◌, ◌*◌, length}
use Rattle.sn_place.specs.Place.{IsAt, AreMarks}
use Rattle.sn_place.specs.declared.places.TheConstants.{STEP}
use Rattle.sn_place.proofs.places.Places.of.Given as goal

abbrev pub invariant-loop-k : goal.invariant-loop-k
invariant-loop-k l = (length l.marks ≡ l.k) × AreMarks l.text l.marks × IsAt l.text (STEP * l.k) l.position
