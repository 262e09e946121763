use Rattle.std.proofs.Common.{◌≡◌, drop, map}
use Rattle.sn_scope.specs.Numbering.{after_network, all_after}
use Rattle.sn_scope.proofs.numbering.+enter_network.Given as goal

abbrev pub invariant-enter_networks-loop-network : goal.invariant-enter_networks-loop-network
invariant-enter_networks-loop-network l =
    all_after (map after_network (drop l.network-index l.networks)) l.names ≡ all_after (map after_network l.networks) l.initial.names
