use Rattle.std.proofs.Common.{◌≡◌, ap, arith, sym, subst, ◌∙◌}
use Rattle.sn_model.specs.Run.{MayGive}
use Rattle.sn_model.specs.declared.run.Run.{Run}
use Rattle.sn_view.specs.View.{View}
use Rattle.drive.proofs.Driven.{no_calls}
use Rattle.drive.proofs.driving.Drive.start.Goals as goal

-- the run that the graph was started with is the one that is kept
same_run : (c : goal.After-new) → c.deref.result.now ≡ c.in_ok-kept.kept.value
same_run c = c.deref.ensures ∙ sym c.in_ok-kept.ensures.cases

pub invariant_of-result : goal.invariant_of-result
invariant_of-result c = record {
  of = c.in_ok-graph.ensures.of ∙ same_run c;
  few = omega (arith, ap (λ (g : View). g.applied) c.in_ok-graph.ensures.view);
  allowed = λ ys may. subst (λ (run : Run). ∥ MayGive run ys ∥₁) (same_run c) ((c.in_ok-graph.ensures.can ys).0 may);
  begun = no_calls c.in_ok-kept.kept.value c.new.result.items c.new.ensures.items;
}
