use Rattle.std.proofs.Common.{sym, ◌∙◌}
use Rattle.std.proofs.lemmas.Bool.{false≢true}
use Rattle.sn_view.specs.View as view
use Rattle.sn_graph.specs.Arena.{view_of}
use Rattle.sn_graph.proofs.CameHere.{came_apart, came_has_route}
use Rattle.sn_graph.proofs.Happening.{plain_happens, tabled_happens}
use Rattle.sn_graph.proofs.arena.Arena.happen_local.Goals as goal

pub local-moved-requires-clause-routed : goal.local-moved-requires-clause-routed
local-moved-requires-clause-routed c = came_has_route c.args.run.now c.args.self.now c.requires.came c.args.i

pub local-moved-requires-clause-apart : goal.local-moved-requires-clause-apart
local-moved-requires-clause-apart c = λ n there is. came_apart c.args.run.now c.args.self.now c.requires.came c.args.i n there is

pub returns-clause-happens : goal.returns-clause-happens
returns-clause-happens c =
    plain_happens c.args.run.now (view.Local c.args.i) (view_of c.args.self.now) (view_of c.local-moved.new.self) (view_of c.counted.new.self) c.local-moved.result c.counted.result
    (λ is. is) (λ is may. false≢true (sym is ∙ may)) (λ next. tt) c.local-moved.ensures.enabled c.local-moved.ensures.after c.local-moved.ensures.err c.counted.ensures.answer c.counted.ensures.view

pub returns-clause-tabled : goal.returns-clause-tabled
returns-clause-tabled c =
    let happens =
    plain_happens c.args.run.now (view.Local c.args.i) (view_of c.args.self.now) (view_of c.local-moved.new.self) (view_of c.counted.new.self) c.local-moved.result c.counted.result
    (λ is. is) (λ is may. false≢true (sym is ∙ may)) (λ next. tt) c.local-moved.ensures.enabled c.local-moved.ensures.after c.local-moved.ensures.err c.counted.ensures.answer c.counted.ensures.view in
    tabled_happens c.args.run.now (view.Local c.args.i) c.args.self.now c.counted.new.self c.counted.result tt (c.counted.ensures.quiet.places ∙ c.local-moved.ensures.quiet.places) happens c.requires.tabled

pub returns-clause-of : goal.returns-clause-of
returns-clause-of c = c.counted.ensures.of c.args.run.now c.local-moved.ensures.of
