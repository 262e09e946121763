-- Which node makes a call, and whose calls a node may make.
use Rattle.std.specs.Prelude.{◌≡◌, ◌%◌, ℕ, ℤ, pos, unsigned_abs, List, [], ◌∷◌, Option, None, Some, slice_get, IsSomeAnd}
use Rattle.std.specs.Int.{int_rem_euclid}
use Rattle.sn_home.specs.declared.home.Home.{Home}
use Rattle.sn_home.specs.declared.home.Home.TheVariants.{Node, Spread, Here}
use Rattle.sn_model.specs.declared.step.Step.{Step}
use Rattle.sn_model.specs.declared.step.Step.TheVariants as step
use Rattle.sn_boxrun.specs.declared.job.Job.{Job}
use Rattle.sn_links.specs.declared.placement.Placement.{Placement}

-- the home of each box, and how many nodes there are
abbrev pub homes_of : Placement → List Home
homes_of placement = placement.homes

abbrev pub nodes_of : Placement → ℕ
nodes_of placement = placement.nodes

-- the values of the splits on the way, the outermost first
abbrev pub values_of : List Step → List ℤ
values_of [] = []
values_of (step.Left ∷ steps) = values_of steps
values_of (step.Right ∷ steps) = values_of steps
values_of (step.Branch n ∷ steps) = values_of steps
values_of (step.Inside ∷ steps) = values_of steps
values_of (step.Value v ∷ steps) = v ∷ values_of steps

-- values are counted round the nodes, those below 0 too; where there is no such split it is node 0
abbrev pub node_of_value : ℕ → ℤ → ℕ
node_of_value nodes value = unsigned_abs (int_rem_euclid value (pos nodes))

abbrev pub node_of_split : ℕ → Option ℤ → ℕ
node_of_split nodes (Some value) = node_of_value nodes value
node_of_split nodes None = 0

-- the node of the calls of a box with that home, to which these steps lead
abbrev pub node_of : ℕ → Home → List Step → ℕ
node_of nodes (Node number) steps = number % nodes
node_of nodes (Spread split) steps = node_of_split nodes (slice_get (values_of steps) split)
node_of nodes Here steps = 0

-- a node may make the calls of boxes whose home it is, and of those that are spread over the nodes
abbrev pub MayServe : ℕ → ℕ → Home → Type 0
MayServe nodes node (Node number) = number % nodes ≡ node
MayServe nodes node (Spread split) = Unit {0}
MayServe nodes node Here = ⊥

-- the home of the job's box lets a node make its calls
abbrev pub IsServed : Placement → ℕ → Job → Type 0
IsServed placement node job = IsSomeAnd (slice_get (homes_of placement) job.number) (MayServe (nodes_of placement) node)

-- these calls, to which the steps lead, are made by this node, which is for the home
abbrev pub IsMade : ℕ → ℕ → List Step → Home → Type 0
IsMade nodes node steps home = MayServe nodes node home × (node_of nodes home steps ≡ node)
