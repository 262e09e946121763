use Rattle.std.proofs.Common.{◌↔◌, List, subst, sym, ap, ◌∙◌}
use Rattle.sn_net.specs.Item.{ModelItem}
use Rattle.sn_model.specs.Run.{MayGive}
use Rattle.sn_view.specs.Chains.{Comes}
use Rattle.sn_view.specs.Coming.{MayCome}
use Rattle.sn_view.specs.View.{View}
use Rattle.sn_view.proofs.Came.{came_start, start_may}
use Rattle.sn_graph.specs.Arena.{view_of}
use Rattle.sn_graph.specs.declared.arena.Arena.{Arena}
use Rattle.sn_graph.proofs.Agendas.{settled_of}
use Rattle.sn_graph.proofs.Applying.{nodes_of_own}
use Rattle.sn_graph.proofs.Tabling.{tabled_same, tabled_start}
use Rattle.sn_graph.proofs.graph.Graph.start.Goals as goal

pub settle-requires-clause-came : goal.settle-requires-clause-came
settle-requires-clause-came c = subst (λ (g : View). ∥ Comes c.args.run.now g ∥₁) (sym c.in_ok-arena.ensures.view) (came_start c.args.run.now)

pub invariant_of-result : goal.invariant_of-result
invariant_of-result c =
    let new = c.settle.new.self in
    let first = c.in_ok-arena.arena in
    let view = ap view_of c.settle.ensures.same ∙ c.in_ok-arena.ensures.view in
    record {
      came = subst (λ (g : View). ∥ Comes g.run g ∥₁) (sym view) (came_start c.args.run.now);
      of = nodes_of_own new c.args.run.now (settled_of first new c.settle.ensures.same c.args.run.now c.in_ok-arena.ensures.of);
      tabled =
          tabled_same first new (ap (λ (a : Arena). a.places.entries) c.settle.ensures.same) (ap (λ (a : Arena). (view_of a).nodes) c.settle.ensures.same)
          (tabled_start first c.args.run.now c.in_ok-arena.ensures.view c.in_ok-arena.ensures.places);
      listed = c.settle.ensures.listed;
    }

pub returns-clause-can : goal.returns-clause-can
returns-clause-can c = λ (ys : List ModelItem).
    subst (λ (g : View). MayCome g ys ↔ ∥ MayGive c.args.run.now ys ∥₁) (sym (ap view_of c.settle.ensures.same ∙ c.in_ok-arena.ensures.view)) (start_may c.args.run.now ys)
