use Rattle.std.proofs.Common.{◌≡◌, drop}
use Rattle.std.specs.List.{list_any}
use Rattle.sn_types.specs.RecordType.{has_fit}
use Rattle.sn_flow.proofs.chosen.has_face.Given as goal

abbrev pub invariant-loop-face : goal.invariant-loop-face
invariant-loop-face l = list_any (λ face. has_fit face l.variant) (drop l.face-index l.faces) ≡ list_any (λ face. has_fit face l.variant) l.faces
