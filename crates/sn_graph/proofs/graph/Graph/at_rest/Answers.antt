use Rattle.std.proofs.Common.{subst, ap, not, ◌∙◌}
use Rattle.sn_model.specs.declared.run.Run.{Run}
use Rattle.sn_view.specs.Chains.{Comes}
use Rattle.sn_view.proofs.Came.{may_rest}
use Rattle.sn_graph.specs.Graph.{seen}
use Rattle.sn_graph.proofs.Nexts.{if_none}
use Rattle.sn_graph.proofs.graph.Graph.at_rest.Goals as goal

pub returns-then-is_none-clause-only : goal.returns-then-is_none-clause-only
returns-then-is_none-clause-only c = λ none ys.
    let graph = c.args.self.now in
    let came : ∥ Comes c.args.run.now (seen graph) ∥₁ = subst (λ (r : Run). ∥ Comes r (seen graph) ∥₁) c.requires graph.came in
    may_rest c.args.run.now (seen graph) came c.args.run.now.formed ys
    (record { none_enabled = if_none c.next_event.result (c.is_none.ensures ∙ ap not c.if-is_none.true) c.next_event.ensures.none; no_call = c.none_in_flight.ensures.0 none })
