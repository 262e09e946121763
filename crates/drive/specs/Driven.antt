-- A graph that is driven.
use Rattle.std.specs.Prelude.{◌≡◌, ℕ, List}
use Rattle.sn_net.specs.Item.{ModelItem}
use Rattle.sn_model.specs.Run.{MayGive}
use Rattle.sn_model.specs.declared.run.Run.{Run}
use Rattle.sn_view.specs.Coming.{MayCome}
use Rattle.sn_view.specs.Placed.{AtRest}
use Rattle.sn_boxrun.specs.Job.{IsJobOf}
use Rattle.sn_graph.specs.Graph.{IsGraphOf, seen}
use Rattle.sn_graph.specs.declared.event.Effect.{Effect}
use Rattle.sn_graph.specs.declared.event.Effect.TheVariants as effect
use Rattle.sn_graph.specs.declared.graph.Graph.{Graph}

-- how many events happened
abbrev pub events_of : Graph → ℕ
events_of graph = (seen graph).applied

-- the merges allow of the run each stream that can still come
abbrev pub OnlyAllowed : Run → Graph → Type 0
OnlyAllowed run graph = (ys : List ModelItem) → MayCome (seen graph) ys → ∥ MayGive run ys ∥₁

-- a call that is to be made is one of the run
abbrev pub CallsOf : Run → Effect → Type 0
CallsOf run (effect.Call job) = IsJobOf run job
CallsOf run (effect.Out x) = Unit {0}
CallsOf run effect.Moved = Unit {0}

-- The graph of the run is at rest: nothing can come but what came out, and the merges allow that of the run.
pub record IsDriven (run : Run) (graph : Graph) : Type 0 where
  pub of : IsGraphOf graph run
  pub rest : AtRest (seen graph)
  pub only : (ys : List ModelItem) → MayCome (seen graph) ys → ys ≡ (seen graph).out
  pub allowed : ∥ MayGive run (seen graph).out ∥₁
