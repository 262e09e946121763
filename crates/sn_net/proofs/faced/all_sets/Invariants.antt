use Rattle.std.proofs.Common.{◌≡◌, take}
use Rattle.std.specs.List.{flat_map}
use Rattle.sn_net.proofs.faced.all_sets.Given as goal

abbrev pub invariant-loop-face : goal.invariant-loop-face
invariant-loop-face l = l.sets ≡ flat_map (λ face. face) (take l.face-index l.faces)
