-- A graph that is driven, from event to event.
use Rattle.std.proofs.Common.{◌≡◌, ◌<◌, ◌≤◌, ℕ, List, [], length, ap, subst, arith}
use Rattle.std.specs.Prelude.{Result, Ok, Err, OnOk, OnErr}
use Rattle.std.specs.List.{All}
use mathlib.Core.Logic.{∥∥₁_elim, ∥∥₁_prop}
use Rattle.sn_net.specs.Item.{ModelItem}
use Rattle.sn_model.specs.Run.{MayGive}
use Rattle.sn_model.specs.declared.run.Run.{Run}
use Rattle.sn_view.specs.Coming.{MayCome}
use Rattle.sn_view.specs.Next.{Next}
use Rattle.sn_view.specs.Placed.{AtRest}
use Rattle.sn_view.specs.Seen.{Can}
use Rattle.sn_view.specs.View.{Happening, View}
use Rattle.sn_boxrun.specs.Job.{IsJobOf}
use Rattle.sn_boxrun.specs.declared.job.Job.{Job}
use Rattle.sn_graph.specs.Graph.{IsGraphOf, seen}
use Rattle.sn_graph.specs.declared.event.ApplyFault.{ApplyFault}
use Rattle.sn_graph.specs.declared.event.Effect.{Effect}
use Rattle.sn_graph.specs.declared.graph.Graph.{Graph}
use Rattle.drive.specs.Driven.{IsDriven, OnlyAllowed}

-- an event that happens is one more, and one that does not changes nothing
pub still_few : (most : ℕ) (old new : View) (e : Happening) (result : Result Effect ApplyFault) → OnOk result (new ≡ Next old e) → OnErr result (new ≡ old) → old.applied < most → new.applied ≤ most
still_few most old new e (Ok effect) next same few = omega (arith, ap (λ (g : View). g.applied) next)
still_few most old new e (Err fault) next same few = omega (arith, ap (λ (g : View). g.applied) same)

-- at rest, since something can still come and nothing can but what came out, that is allowed
pub driven : (run : Run) (graph : Graph) → IsGraphOf graph run → OnlyAllowed run graph → AtRest (seen graph)
    → ((ys : List ModelItem) → MayCome (seen graph) ys → ys ≡ (seen graph).out) → ∥ ((ys : List ModelItem) × Can (seen graph) ys) ∥₁ → IsDriven run graph
driven run graph of allowed rest only some = record {
  of = of;
  rest = rest;
  only = only;
  allowed = ∥∥₁_elim some ∥∥₁_prop (λ can. subst (λ ys. ∥ MayGive run ys ∥₁) (only can.0 ∣ can.1 ∣₁) (allowed can.0 ∣ can.1 ∣₁));
}

-- no call is begun
pub no_calls : (run : Run) (jobs : List Job) → jobs ≡ [] → All (IsJobOf run) jobs
no_calls run jobs none = λ k job within. absurd (omega (arith, ap length none, within))
