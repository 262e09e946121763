-- A graph as its owner sees it.
use Rattle.std.specs.Prelude.{◌≡◌}
use Rattle.sn_model.specs.declared.run.Run.{Run}
use Rattle.sn_view.specs.View.{View}
use Rattle.sn_graph.specs.Arena.{view_of}
use Rattle.sn_graph.specs.declared.graph.Graph.{Graph}

abbrev pub seen : Graph → View
seen graph = view_of graph.arena

-- the run started the graph
abbrev pub IsGraphOf : Graph → Run → Type 0
IsGraphOf graph run = graph.arena.run.value ≡ run
