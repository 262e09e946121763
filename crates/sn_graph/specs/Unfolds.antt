-- Children that are lacking.
use Rattle.std.specs.Prelude.{◌≡◌, ◌++◌, ℕ, List, true, None, Some, length, slice_get}
use Rattle.sn_streams.specs.Keys.{Key as StreamKey}
use Rattle.sn_net.specs.Dispatchers.{stream_key}
use Rattle.sn_net.specs.declared.routing.Key.{Key}
use Rattle.sn_model.specs.declared.run.Run.{Run}
use Rattle.sn_model.specs.Run.{net_of}
use Rattle.sn_view.specs.Next.{adds_child, child_of, is_fork}
use Rattle.sn_view.specs.View as view
use Rattle.sn_view.specs.View.{View, changed_at}
use Rattle.sn_node.specs.Answered.{form_at}
use Rattle.sn_node.specs.Routes.{GoesBy, routing_at}
use Rattle.sn_node.specs.Seen.{node_of}
use Rattle.sn_node.specs.declared.node.Node.{Node}
use Rattle.sn_graph.specs.declared.arena.Arena.{Arena}

-- the first entry of the dispatcher at i goes to the child of that key, which is not there
pub record Lacks (arena : Arena) (run : Run) (i : ℕ) (key : Key) : Type 0 where
  pub node : Node
  pub there : slice_get arena.nodes.items i ≡ Some node
  pub goes : GoesBy (routing_at (form_at (net_of run) node.made.path) (node_of node)) key
  pub fork : is_fork (node_of node).state ≡ true
  pub none : child_of (node_of node).children (stream_key key) ≡ None

-- the graph with nodes put behind the others, where the items of a new child of the dispatcher at i come in
abbrev pub adopted : ℕ → StreamKey → List view.Node → View → View
adopted i k more g = record g { nodes = changed_at i (adds_child k (length g.nodes)) g.nodes ++ more }
