-- A graph as contracts see it.
use Rattle.std.specs.Prelude.{◌≡◌, map}
use Rattle.std.specs.List.{All}
use Rattle.sn_net.specs.Item.{modelled}
use Rattle.sn_model.specs.declared.run.Run.{Run}
use Rattle.sn_view.specs.View.{View}
use Rattle.sn_node.specs.Entry.{entry_of}
use Rattle.sn_node.specs.Seen.{node_of}
use Rattle.sn_graph.specs.Grown.{IsOfRun}
use Rattle.sn_graph.specs.declared.arena.Arena.{Arena}

abbrev pub view_of : Arena → View
view_of arena = record {
  run = arena.run.value;
  nodes = map node_of arena.nodes.items;
  applied = arena.applied;
  calls = arena.calls;
  taken = arena.taken;
  ended = arena.ended;
  ready = map entry_of arena.ready.items;
  out = map modelled arena.out;
}

-- the run started the graph, and each node is of it
pub record IsOf (arena : Arena) (run : Run) : Type 0 where
  pub made : arena.run.value ≡ run
  pub nodes : All (IsOfRun run) arena.nodes.items
