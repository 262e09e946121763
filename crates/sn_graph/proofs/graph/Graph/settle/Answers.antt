use Rattle.std.specs.List.{All}
use Rattle.std.proofs.Common.{ap, subst, sym}
use Rattle.sn_view.specs.Chains.{Comes}
use Rattle.sn_graph.specs.Arena.{view_of}
use Rattle.sn_graph.specs.Grown.{IsOfRun}
use Rattle.sn_graph.specs.declared.arena.Arena.{Arena}
use Rattle.sn_graph.proofs.Tabling.{tabled_same}
use Rattle.sn_graph.proofs.graph.Graph.settle.Goals as goal

pub invariant_of-self : goal.invariant_of-self
invariant_of-self c =
    let old = c.args.self.now in
    let same = c.settle.ensures.same in
    record {
      came = subst (λ (a : Arena). ∥ Comes a.run.value (view_of a) ∥₁) (sym same) old.came;
      of = subst (λ (a : Arena). All (IsOfRun a.run.value) a.nodes.items) (sym same) old.of;
      tabled = tabled_same old.arena c.settle.new.self (ap (λ (a : Arena). a.places.entries) same) (ap (λ (a : Arena). (view_of a).nodes) same) old.tabled;
      listed = c.settle.ensures.listed;
    }
