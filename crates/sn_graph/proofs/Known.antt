-- The labels of a call's record.
use Rattle.std.proofs.Common.{◌≡◌, ℕ, zero, suc, ◌<◌, List, [], ◌∷◌, length, refl, sym, ap, subst, arith}
use Rattle.std.specs.Prelude.{slice_get, Option, Some, Result, Ok, Err, IfOk, IfSome}
use Rattle.sn_model.specs.declared.run.Run.{Run}
use Rattle.sn_boxrun.specs.declared.job.Job.{Job}
use Rattle.sn_labels.specs.Flowing.{HasLabelsOf}
use Rattle.sn_labels.proofs.Came.{came_known}
use Rattle.sn_view.specs.Chains.{Comes}
use Rattle.sn_view.specs.Next.{HasCall}
use Rattle.sn_view.specs.View.{Emit, Finish, Happening, Local, Merge, Node, Route, Start, Take, Unfold, View}
use Rattle.sn_view.proofs.Counted.{some-place}
use Rattle.sn_graph.specs.Event.{Applies, HasCallLabels, Happened, IsBegun, happening_of}
use Rattle.sn_graph.specs.declared.event.ApplyFault.{ApplyFault}
use Rattle.sn_graph.specs.declared.event.Effect.{Effect}
use Rattle.sn_graph.specs.declared.event.Effect.TheVariants as effect
use Rattle.sn_graph.specs.declared.event.Event.{Event}
use Rattle.sn_graph.proofs.Sizes.{enabled_there, size_next}

node_there : (xs : List Node) (i : ℕ) → i < length xs → (n : Node) × (slice_get xs i ≡ Some n)
node_there [] i within = absurd (omega (arith, within))
node_there (n ∷ xs) zero within = (n, refl)
node_there (n ∷ xs) (suc i) within = node_there xs i (omega (arith, within))

begun_known : (run : Run) (i : ℕ) (job : Job) (old new : View) → ∥ Comes run new ∥₁ → i < length new.nodes → IsBegun run i job old new → HasLabelsOf run job.given
begun_known run i job old new came within begun =
    let (n, is) = node_there new.nodes i within in
    let flies : HasCall new job.call job.number job.place job.given n = subst (λ (o : Option Node). IfSome o (HasCall new job.call job.number job.place job.given)) is begun.flies in
    let (p, there) = some-place new i job.call job.given (record { node = n; there = is; flies = flies.flies }) in
    came_known run new came i p job.call job.given there

happened_known : (run : Run) (e : Happening) (effect : Effect) (old new : View) → ∥ Comes run new ∥₁ → Happened run e old new effect → HasCallLabels run effect
happened_known run e effect.Moved old new came is = tt
happened_known run e (effect.Out x) old new came is = tt
happened_known run (Start i) (effect.Call job) old new came is =
    begun_known run i job old new came (subst (λ n. i < n) (sym (ap (λ (g : View). length g.nodes) is.next)) (subst (λ n. i < n) (sym (size_next old (Start i) tt)) (enabled_there old (Start i) i refl is.may))) is.comes
happened_known run Take (effect.Call job) old new came is = absurd is.comes
happened_known run (Finish call number place given) (effect.Call job) old new came is = absurd is.comes
happened_known run (Local i) (effect.Call job) old new came is = absurd is.comes
happened_known run (Route i) (effect.Call job) old new came is = absurd is.comes
happened_known run (Unfold i) (effect.Call job) old new came is = absurd is.comes
happened_known run (Merge i c) (effect.Call job) old new came is = absurd is.comes
happened_known run Emit (effect.Call job) old new came is = absurd is.comes

pub applied_known : (run : Run) (event : Event) (old new : View) (r : Result Effect ApplyFault) → ∥ Comes run new ∥₁ → Applies run event old r new → IfOk r (HasCallLabels run)
applied_known run event old new (Ok effect) came is = happened_known run (happening_of event) effect old new came is
applied_known run event old new (Err fault) came is = tt
