use Rattle.std.proofs.Common.{◌≡◌, drop, map}
use Rattle.std.specs.List.{list_all}
use Rattle.sn_net.specs.Net.{all_deterministic}
use Rattle.sn_net.proofs.net.+all_det.Given as goal

abbrev pub invariant-loop-branch : goal.invariant-loop-branch
invariant-loop-branch l =
    list_all (λ b. b) (map all_deterministic (drop l.branch-index l.branch-items)) ≡ list_all (λ b. b) (map all_deterministic l.branch-items)

abbrev pub decreases-all_det : goal.decreases-all_det
decreases-all_det l = goal.size-all_det l
