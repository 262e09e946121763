use Rattle.std.proofs.Common.{◌≡◌, ◌++◌, ◌∷◌, [], map, drop}
use Rattle.sn_net.specs.declared.net.Merge.{Merge}
use Rattle.sn_view.specs.Parts.{plan, own_child, branch_children}
use Rattle.sn_node.specs.Seen.{node_of}
use Rattle.sn_graph.specs.Grown.{IsForkWith}
use Rattle.sn_graph.proofs.Branches.{FirstBranches}
use Rattle.sn_graph.proofs.grow.add_branches.Given as goal

abbrev pub invariant-loop-i : goal.invariant-loop-i
invariant-loop-i l = record {
  fork : (merge : Merge) → IsForkWith merge (own_child l.number ∷ []) (node_of l.initial.node) (node_of l.initial.node) → IsForkWith merge (node_of l.node).children (node_of l.initial.node) (node_of l.node);
  children : (node_of l.node).children ++ branch_children l.i l.entry (drop l.i (map (plan l.depth) l.branches)) ≡ own_child l.number ∷ branch_children 0 l.first (map (plan l.depth) l.branches);
  new : FirstBranches l.i (node_of l.node).children;
  made : l.node.made ≡ l.initial.node.made;
}
