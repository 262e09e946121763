-- Nodes that are made.
use Rattle.std.specs.Prelude.{◌≡◌, ◌+◌, ◌-◌, ◌++◌, ◌∷◌, [], ℕ, List, length, map}
use Rattle.std.specs.List.{All}
use Rattle.sn_net.specs.declared.net.Merge.{Merge}
use Rattle.sn_net.specs.declared.net.Net.{Net}
use Rattle.sn_model.specs.declared.run.Run.{Run}
use Rattle.sn_model.specs.declared.step.Step.{Step}
use Rattle.sn_model.specs.declared.step.Step.TheVariants as step
use Rattle.sn_view.specs.Parts.{dispatcher, new_fork, own_child, plan}
use Rattle.sn_view.specs.View as view
use Rattle.sn_view.specs.View.{Target, ToNode}
use Rattle.sn_node.specs.Seen.{node_of}
use Rattle.sn_node.specs.declared.node.Node.{Node}
use Rattle.sn_graph.specs.declared.grow.NewNodes.{NewNodes}

-- the node is of the run
abbrev pub IsOfRun : Run → Node → Type 0
IsOfRun run n = n.made.run.value ≡ run

-- the number of the next node
abbrev pub next_of : NewNodes → ℕ
next_of grown = grown.base + length grown.nodes.items

-- these nodes, which are of the run, are put behind the others
pub record Puts (run : Run) (more : List view.Node) (old new : NewNodes) : Type 0 where
  pub base : new.base ≡ old.base
  pub nodes : map node_of new.nodes.items ≡ map node_of old.nodes.items ++ more
  pub of : All (IsOfRun run) old.nodes.items → All (IsOfRun run) new.nodes.items

-- of all these nodes some are still to be put
pub record Leaves (run : Run) (rest all : List view.Node) (old new : NewNodes) : Type 0 where
  pub base : new.base ≡ old.base
  pub nodes : map node_of new.nodes.items ++ rest ≡ map node_of old.nodes.items ++ all
  pub of : All (IsOfRun run) old.nodes.items → All (IsOfRun run) new.nodes.items

-- the node is `old` as a new dispatcher with these children
pub record IsForkWith (merge : Merge) (children : List view.Child) (old new : view.Node) : Type 0 where
  pub is : new ≡ record old { state = new_fork merge children; children = children }

-- the nodes of a replica of a star's body, and of the level behind it
abbrev pub level_nodes : ℕ → Merge → Net → ℕ → List Step → List ℕ → Target → ℕ → List view.Node
level_nodes depth merge body left steps path goes base =
    (plan depth body).nodes (steps ++ step.Inside ∷ step.Left ∷ []) (path ++ 0 ∷ []) (ToNode (base + (plan depth body).width)) base
    ++ dispatcher merge (left - 1) (own_child (base + (plan depth body).width) ∷ []) (steps ++ step.Inside ∷ step.Right ∷ []) path goes ∷ []
