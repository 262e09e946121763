use Rattle.std.proofs.Common.{◌≡◌, ◌-◌, map, take}
use Rattle.sn_view.specs.View.{rest_of}
use Rattle.sn_node.specs.Child.{child_of}
use Rattle.sn_graph.proofs.broadcast.entries_of.Given as goal

abbrev pub invariant-loop-c : goal.invariant-loop-c
invariant-loop-c l = l.entries.items ≡ take (l.c - 1) (map (λ child. child.entry) (rest_of (map child_of l.children.list.items)))
