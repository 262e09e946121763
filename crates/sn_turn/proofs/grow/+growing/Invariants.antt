use Rattle.std.proofs.Common.{◌+◌, ◌*◌, map, max, take}
use Rattle.sn_net.proofs.net.Net.TheLaws.{the_size}
use Rattle.sn_fork.specs.Fork.{child_seen}
use Rattle.sn_turn.specs.Nodes.{Grown, below_branches, parts_of}
use Rattle.sn_turn.proofs.Making.{Branches}
use Rattle.sn_turn.proofs.grow.+growing.Given as goal

abbrev pub decreases-grow : goal.decreases-grow
decreases-grow l = 2 * goal.size-grow l + 1

abbrev pub decreases-grow_series : goal.decreases-grow_series
decreases-grow_series l = 2 * max (the_size l.left.now) (the_size l.right.now) + 2

abbrev pub decreases-grow_choice : goal.decreases-grow_choice
decreases-grow_choice l = 2 * goal.size-grow_choice l + 2

abbrev pub invariant-grow_choice-loop-i : goal.invariant-grow_choice-loop-i
invariant-grow_choice-loop-i l = record {
  children : Branches l.run.value l.spot.steps l.i (map child_seen l.children.items);
  nodes : Grown l.initial.nodes.items l.nodes.items (below_branches (map parts_of (take l.i l.branches)) 0 l.spot.path);
}
