-- The nodes of a part of a network.
use Rattle.std.specs.Prelude.{◌≡◌, ℕ, suc, List, [], ◌∷◌, ◌++◌, map}
use Rattle.sn_net.specs.declared.net.Net.{Net, fold-Net}
use Rattle.sn_net.specs.declared.net.Net.TheOpen.{Net-F}
use Rattle.sn_model.specs.declared.run.Run.{Run}
use Rattle.sn_component.specs.Seen.{Sourcing}
use Rattle.sn_fork.specs.Facts.{Each}
use Rattle.sn_turn.specs.Kinds.{HasBegun, path_of}
use Rattle.sn_turn.specs.declared.node.Kind.TheVariants as kind
use Rattle.sn_turn.specs.declared.node.Node.{Node}

-- the parts below the branches of a choice, of which the first has this number
abbrev pub below_branches : List (List ℕ → List (List ℕ)) → ℕ → List ℕ → List (List ℕ)
below_branches [] i path = []
below_branches (branch ∷ branches) i path = branch (path ++ i ∷ []) ++ below_branches branches (suc i) path

abbrev pub parts_step : Net-F (List ℕ → List (List ℕ)) → List ℕ → List (List ℕ)
parts_step (Net-F.Serial left right) path = left (path ++ 0 ∷ []) ++ right (path ++ 1 ∷ [])
parts_step (Net-F.Choice place merge branches faces) path = below_branches branches 0 path ++ path ∷ []
parts_step net path = path ∷ []

-- The parts of the network at a path that have a node before any replica is made: each box, filter and synchrocell, and behind its branches
-- each choice; of a star and a split the dispatcher alone.
abbrev pub parts_of : Net → List ℕ → List (List ℕ)
parts_of = fold-Net (List ℕ → List (List ℕ)) parts_step

-- a choice of these branches
abbrev pub parts_of_choice : List Net → List ℕ → List (List ℕ)
parts_of_choice branches path = below_branches (map parts_of branches) 0 path ++ path ∷ []

-- behind the nodes that were there stand new ones for these parts, which have received nothing
pub record Grown (before now : List Node) (parts : List (List ℕ)) : Type 0 where
  pub more : List Node
  pub behind : now ≡ before ++ more
  pub stand : map (λ (node : Node). path_of node.kind) more ≡ parts
  pub begun : Each (λ (node : Node). HasBegun node.kind) more

-- the source, which has given nothing
abbrev pub IsNewSource : Node → Type 0
IsNewSource node = (s : Sourcing) × (node.kind ≡ kind.Source s) × HasBegun node.kind

-- the source, and behind it the nodes of all parts of a run's network
pub record AreNodesOf (run : Run) (nodes : List Node) : Type 0 where
  pub source : Node
  pub first : IsNewSource source
  pub others : Grown (source ∷ []) nodes (parts_of run.net [])
