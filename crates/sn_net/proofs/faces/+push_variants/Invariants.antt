use Rattle.std.proofs.Common.{◌≡◌, ◌++◌, take, map}
use Rattle.std.specs.List.{flat_map}
use Rattle.sn_net.specs.Face.{variants}
use Rattle.sn_net.proofs.faces.+push_variants.Given as goal

abbrev pub invariant-loop-branch : goal.invariant-loop-branch
invariant-loop-branch l = l.sets ≡ l.initial.sets ++ flat_map (λ branch. branch) (map (variants l.boxes) (take l.branch-index l.branch-items))

abbrev pub decreases-push_variants : goal.decreases-push_variants
decreases-push_variants l = goal.size-push_variants l
