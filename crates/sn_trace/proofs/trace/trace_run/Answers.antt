use Rattle.std.proofs.Common.{◌≤◌, rules, None, Some, ap, ◌∙◌, subst}
use Rattle.sn_io.specs.Causes.{Rose}
use Rattle.sn_view.specs.Next.{start_view}
use Rattle.sn_graph.specs.Graph.{seen}
use Rattle.sn_trace.specs.Watching.{state}
use Rattle.sn_trace.specs.Written.{HasTrace, HasTracePart}
use Rattle.sn_trace.proofs.Ending.{trace_faulted, trace_part, trace_rose, trace_whole, untraced}
use Rattle.sn_trace.proofs.trace.trace_run.Goals as goal

pub returns-in_default-clause-part : goal.returns-in_default-clause-part
returns-in_default-clause-part g c = untraced c.args.run.now.value (g.S.Sink.held c.args.out.now)

pub returns-in_default-with_capacity-clause-part : goal.returns-in_default-with_capacity-clause-part
returns-in_default-with_capacity-clause-part g c = untraced c.args.run.now.value (g.S.Sink.held c.args.out.now)

pub returns-clause-part : goal.returns-clause-part
returns-clause-part g c =
    subst (λ s. HasTracePart c.args.run.now.value (g.S.Sink.held c.args.out.now) (g.S.Sink.held s)) (search rules)
    (trace_part c.args.run.now.value (seen c.in-Ok.graph) _ (seen c.drive_watched-outcome.new.graph) (state g.S.Sink.held g.S.Sink.faults c.end.new.self) (c.in-Ok.ensures.view ∙ ap start_view c.deref.ensures) (search rules)
    c.end.result (c.end.ensures.ends _ _ _ c.drive_watched-outcome.ensures.goes.turns))

pub returns-clause-whole : goal.returns-clause-whole
returns-clause-whole g c is =
    subst (λ s. HasTrace c.args.run.now.value (g.S.Sink.held c.args.out.now) (g.S.Sink.held s) None) (search rules)
    (trace_whole c.args.run.now.value (seen c.in-Ok.graph) _ (seen c.drive_watched-outcome.new.graph) (state g.S.Sink.held g.S.Sink.faults c.end.new.self) (c.in-Ok.ensures.view ∙ ap start_view c.deref.ensures) (search rules)
    c.end.ensures.none c.end.result is (c.end.ensures.ends _ _ _ c.drive_watched-outcome.ensures.goes.turns))

pub returns-clause-faulted : goal.returns-clause-faulted
returns-clause-faulted g c fault is =
    subst (λ s. HasTrace c.args.run.now.value (g.S.Sink.held c.args.out.now) (g.S.Sink.held s) (Some fault)) (search rules)
    (trace_faulted c.args.run.now.value (seen c.in-Ok.graph) _ (seen c.drive_watched-outcome.new.graph) (state g.S.Sink.held g.S.Sink.faults c.end.new.self) (c.in-Ok.ensures.view ∙ ap start_view c.deref.ensures) (search rules)
    c.end.ensures.none c.end.result fault is (c.end.ensures.ends _ _ _ c.drive_watched-outcome.ensures.goes.turns))

pub returns-clause-rose : goal.returns-clause-rose
returns-clause-rose g c is =
    subst (λ s. Rose (g.S.Sink.faults c.args.out.now) (g.S.Sink.faults s)) (search rules)
    (trace_rose c.args.run.now.value (seen c.in-Ok.graph) _ (seen c.drive_watched-outcome.new.graph) (state g.S.Sink.held g.S.Sink.faults c.end.new.self) (c.in-Ok.ensures.view ∙ ap start_view c.deref.ensures) (search rules)
    c.end.result is (c.end.ensures.ends _ _ _ c.drive_watched-outcome.ensures.goes.turns))

pub returns-clause-later : goal.returns-clause-later
returns-clause-later g c =
    subst (λ s. g.S.Sink.faults c.args.out.now ≤ g.S.Sink.faults s) (search rules)
    (c.end.ensures.ends _ _ _ c.drive_watched-outcome.ensures.goes.turns).later
