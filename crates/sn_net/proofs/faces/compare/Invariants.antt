use Rattle.std.proofs.Common.{◌≡◌, ◌≤◌, drop}
use Rattle.std.specs.FinMap as map
use Rattle.std.specs.Cmp.Lexicographic.{slice_cmp}
use Rattle.sn_record.specs.Label.{label_cmp}
use Rattle.sn_net.specs.Face.{variant_cmp}
use Rattle.sn_net.proofs.faces.compare.Given as goal

abbrev pub invariant-loop-i : goal.invariant-loop-i
invariant-loop-i l = (l.i ≤ map.len l.right) × (slice_cmp label_cmp (drop l.i (map.keys l.left)) (drop l.i (map.keys l.right)) ≡ variant_cmp l.left l.right)
