use Rattle.std.proofs.Common.{sym, ◌∙◌}
use Rattle.std.proofs.lemmas.Bool.{false≢true}
use Rattle.sn_view.specs.View as view
use Rattle.sn_graph.specs.Arena.{view_of}
use Rattle.sn_graph.proofs.Happening.{plain_happens, tabled_happens}
use Rattle.sn_graph.proofs.arena.Arena.happen_unfold.Goals as goal

pub returns-clause-happens : goal.returns-clause-happens
returns-clause-happens c =
    plain_happens c.args.run.now (view.Unfold c.args.i) (view_of c.args.self.now) (view_of c.unfold-moved.new.self) (view_of c.counted.new.self) c.unfold-moved.result c.counted.result
    (λ is. is) (λ is may. false≢true (sym is ∙ may)) (λ next. tt) c.unfold-moved.ensures.enabled c.unfold-moved.ensures.after c.unfold-moved.ensures.err c.counted.ensures.answer c.counted.ensures.view

pub returns-clause-tabled : goal.returns-clause-tabled
returns-clause-tabled c =
    let happens =
    plain_happens c.args.run.now (view.Unfold c.args.i) (view_of c.args.self.now) (view_of c.unfold-moved.new.self) (view_of c.counted.new.self) c.unfold-moved.result c.counted.result
    (λ is. is) (λ is may. false≢true (sym is ∙ may)) (λ next. tt) c.unfold-moved.ensures.enabled c.unfold-moved.ensures.after c.unfold-moved.ensures.err c.counted.ensures.answer c.counted.ensures.view in
    tabled_happens c.args.run.now (view.Unfold c.args.i) c.args.self.now c.counted.new.self c.counted.result tt (c.counted.ensures.quiet.places ∙ c.unfold-moved.ensures.places) happens c.requires.tabled

pub returns-clause-of : goal.returns-clause-of
returns-clause-of c = c.counted.ensures.of c.args.run.now c.unfold-moved.ensures.of
