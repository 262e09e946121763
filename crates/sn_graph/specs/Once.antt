-- That nodes are of a run, as a fact with one proof alone.
use Rattle.std.specs.Coded.{Π_prop}
use Rattle.std.specs.Prelude.{List}
use Rattle.std.specs.List.{All}
use Rattle.sn_model.specs.declared.run.Run.{Run}
use Rattle.sn_node.specs.declared.node.Node.{Node}
use Rattle.sn_view.proofs.Coding.{run_once}
use Rattle.sn_graph.specs.Grown.{IsOfRun}

pub nodes_once : (run : Run) (nodes : List Node) → IsProp (All (IsOfRun run) nodes)
nodes_once run nodes = Π_prop (λ k. Π_prop (λ d. Π_prop (λ within. run_once _ _)))
