use Rattle.std.proofs.Common.{sym, ◌∙◌}
use Rattle.std.proofs.lemmas.Bool.{false≢true}
use Rattle.sn_view.specs.View as view
use Rattle.sn_graph.specs.Arena.{view_of}
use Rattle.sn_graph.proofs.Happening.{plain_happens, tabled_happens}
use Rattle.sn_graph.proofs.arena.Arena.happen_take.Goals as goal

pub returns-clause-happens : goal.returns-clause-happens
returns-clause-happens c =
    plain_happens c.args.run.now view.Take (view_of c.args.self.now) (view_of c.take-moved.new.self) (view_of c.counted.new.self) c.take-moved.result c.counted.result
    (λ is. is) (λ is may. false≢true (sym is ∙ may)) (λ next. tt) c.take-moved.ensures.enabled c.take-moved.ensures.after c.take-moved.ensures.err c.counted.ensures.answer c.counted.ensures.view

pub returns-clause-tabled : goal.returns-clause-tabled
returns-clause-tabled c =
    let happens =
    plain_happens c.args.run.now view.Take (view_of c.args.self.now) (view_of c.take-moved.new.self) (view_of c.counted.new.self) c.take-moved.result c.counted.result
    (λ is. is) (λ is may. false≢true (sym is ∙ may)) (λ next. tt) c.take-moved.ensures.enabled c.take-moved.ensures.after c.take-moved.ensures.err c.counted.ensures.answer c.counted.ensures.view in
    tabled_happens c.args.run.now view.Take c.args.self.now c.counted.new.self c.counted.result tt (c.counted.ensures.quiet.places ∙ c.take-moved.ensures.quiet.places) happens c.requires.tabled

pub returns-clause-of : goal.returns-clause-of
returns-clause-of c = c.counted.ensures.of c.args.run.now c.take-moved.ensures.of
