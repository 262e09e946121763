use Rattle.std.proofs.Common.{◌+◌, ◌*◌, map, max, drop}
use Rattle.sn_net.proofs.net.Net.TheLaws.{the_size}
use Rattle.sn_model.specs.Run.{depth_of}
use Rattle.sn_view.specs.Parts.{plan, branch_nodes}
use Rattle.sn_graph.specs.Grown.{Leaves, next_of}
use Rattle.sn_graph.proofs.grow.+growing.Given as goal

abbrev pub decreases-grow : goal.decreases-grow
decreases-grow l = 2 * goal.size-grow l + 1

abbrev pub decreases-grow_series : goal.decreases-grow_series
decreases-grow_series l = 2 * max (the_size l.left.now) (the_size l.right.now) + 2

abbrev pub decreases-grow_choice : goal.decreases-grow_choice
decreases-grow_choice l = 2 * goal.size-grow_choice l + 2

abbrev pub invariant-grow_choice-loop-i : goal.invariant-grow_choice-loop-i
invariant-grow_choice-loop-i l =
    Leaves l.run (branch_nodes l.node l.i (next_of l.grown) l.steps l.path (drop l.i (map (plan (depth_of l.run)) l.branches)))
    (branch_nodes l.node 0 (next_of l.initial.grown) l.steps l.path (map (plan (depth_of l.run)) l.branches)) l.initial.grown l.grown
