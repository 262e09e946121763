use Rattle.std.proofs.Common.{◌*◌, ◌+◌, drop}
use Rattle.sn_scope.specs.Built.{part_of}
use Rattle.sn_scope.proofs.Building.{IsPartly}
use Rattle.sn_scope.proofs.trees.+tree.Given as goal

abbrev pub decreases-tree : goal.decreases-tree
decreases-tree l = 5 * l.levels

abbrev pub decreases-series_tree : goal.decreases-series_tree
decreases-series_tree l = 5 * l.levels

abbrev pub decreases-node : goal.decreases-node
decreases-node l = 5 * l.levels + 4

abbrev pub decreases-series : goal.decreases-series
decreases-series l = 5 * l.levels + 3

abbrev pub decreases-rest : goal.decreases-rest
decreases-rest l = 5 * l.levels + 2

abbrev pub decreases-trees : goal.decreases-trees
decreases-trees l = 5 * l.levels + 2

abbrev pub decreases-part : goal.decreases-part
decreases-part l = 5 * l.levels + 1

abbrev pub invariant-trees-loop-network : goal.invariant-trees-loop-network
invariant-trees-loop-network l = IsPartly l.boxes (part_of l.boxes l.levels l.nets) l.networks (drop l.network-index l.networks) l.initial.room l.room l.made
