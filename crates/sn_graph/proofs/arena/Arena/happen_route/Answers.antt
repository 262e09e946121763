use Rattle.std.proofs.Common.{sym, ◌∙◌}
use Rattle.std.proofs.lemmas.Bool.{false≢true}
use Rattle.sn_view.specs.View as view
use Rattle.sn_graph.specs.Arena.{view_of}
use Rattle.sn_graph.proofs.CameHere.{came_elsewhere, came_few, came_first, came_is_routed}
use Rattle.sn_graph.proofs.Happening.{plain_happens, tabled_happens}
use Rattle.sn_graph.proofs.arena.Arena.happen_route.Goals as goal

pub route-moved-requires-clause-few : goal.route-moved-requires-clause-few
route-moved-requires-clause-few c = came_few c.args.run.now c.args.self.now c.requires.came c.args.i c.requires.few

pub route-moved-requires-clause-routed : goal.route-moved-requires-clause-routed
route-moved-requires-clause-routed c = came_is_routed c.args.run.now c.args.self.now c.requires.came c.args.i

pub route-moved-requires-clause-own : goal.route-moved-requires-clause-own
route-moved-requires-clause-own c = λ n there fork. came_first c.args.run.now c.args.self.now c.requires.came c.args.i n there fork

pub route-moved-requires-clause-doors : goal.route-moved-requires-clause-doors
route-moved-requires-clause-doors c = λ n d child there at is. came_elsewhere c.args.run.now c.args.self.now c.requires.came c.args.i n d child there at is

pub returns-clause-happens : goal.returns-clause-happens
returns-clause-happens c =
    plain_happens c.args.run.now (view.Route c.args.i) (view_of c.args.self.now) (view_of c.route-moved.new.self) (view_of c.counted.new.self) c.route-moved.result c.counted.result
    (λ is. is) (λ is may. false≢true (sym is ∙ may)) (λ next. tt) c.route-moved.ensures.enabled c.route-moved.ensures.after c.route-moved.ensures.err c.counted.ensures.answer c.counted.ensures.view

pub returns-clause-tabled : goal.returns-clause-tabled
returns-clause-tabled c =
    let happens =
    plain_happens c.args.run.now (view.Route c.args.i) (view_of c.args.self.now) (view_of c.route-moved.new.self) (view_of c.counted.new.self) c.route-moved.result c.counted.result
    (λ is. is) (λ is may. false≢true (sym is ∙ may)) (λ next. tt) c.route-moved.ensures.enabled c.route-moved.ensures.after c.route-moved.ensures.err c.counted.ensures.answer c.counted.ensures.view in
    tabled_happens c.args.run.now (view.Route c.args.i) c.args.self.now c.counted.new.self c.counted.result tt (c.counted.ensures.quiet.places ∙ c.route-moved.ensures.quiet.places) happens c.requires.tabled

pub returns-clause-of : goal.returns-clause-of
returns-clause-of c = c.counted.ensures.of c.args.run.now c.route-moved.ensures.of
