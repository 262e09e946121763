use Rattle.std.proofs.Common.{◌≡◌, take}
use Rattle.sn_net.specs.Face.{variant_of}
use Rattle.sn_net.proofs.faces.variant_of.Given as goal

abbrev pub invariant-loop-label : goal.invariant-loop-label
invariant-loop-label l = l.variant ≡ variant_of (take l.label-index l.labels)
