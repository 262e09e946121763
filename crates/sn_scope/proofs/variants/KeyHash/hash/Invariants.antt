use Rattle.std.proofs.Common.{◌≡◌, ◌≤◌, fold, take, length}
use Rattle.std.specs.List.{flat_map}
use Rattle.std.specs.FinMap as map
use Rattle.sn_scope.specs.Keys.{label_writes}
use Rattle.sn_scope.proofs.variants.KeyHash.hash.Given as goal

abbrev pub invariant-loop-i : goal.invariant-loop-i
invariant-loop-i g l = (l.i ≤ length (map.keys l.self.set)) × (l.state ≡ fold g.H.Hasher.write l.initial.state (flat_map label_writes (take l.i (map.keys l.self.set))))
