use Rattle.std.proofs.Common.{◌≡◌, take, drop, fold, map}
use Rattle.sn_scope.specs.Networks.{network_at, network_required}
use Rattle.sn_scope.proofs.network.+network_at.Given as goal

abbrev pub invariant-networks_at-loop-network : goal.invariant-networks_at-loop-network
invariant-networks_at-loop-network l =
    (l.made ≡ map (network_at l.names l.scopes) (take l.network-index l.networks))
    × (fold (λ least check. check least) l.refusals (map (network_required l.names l.scopes) (drop l.network-index l.networks))
    ≡ fold (λ least check. check least) l.initial.refusals (map (network_required l.names l.scopes) l.networks))
