use Rattle.std.proofs.Common.{sym, ◌∙◌}
use Rattle.std.proofs.lemmas.Bool.{false≢true}
use Rattle.sn_view.specs.View as view
use Rattle.sn_graph.specs.Arena.{view_of}
use Rattle.sn_graph.proofs.CameHere.{came_apart}
use Rattle.sn_graph.proofs.Happening.{plain_happens, tabled_happens}
use Rattle.sn_graph.proofs.arena.Arena.happen_merge.Goals as goal

pub merge-moved-requires : goal.merge-moved-requires
merge-moved-requires c = record { apart = came_apart c.args.run.now c.args.self.now c.requires.came c.args.i }

pub returns-clause-happens : goal.returns-clause-happens
returns-clause-happens c =
    plain_happens c.args.run.now (view.Merge c.args.i c.args.c) (view_of c.args.self.now) (view_of c.merge-moved.new.self) (view_of c.counted.new.self) c.merge-moved.result c.counted.result
    (λ is. is) (λ is may. false≢true (sym is ∙ may)) (λ next. tt) c.merge-moved.ensures.enabled c.merge-moved.ensures.after c.merge-moved.ensures.err c.counted.ensures.answer c.counted.ensures.view

pub returns-clause-tabled : goal.returns-clause-tabled
returns-clause-tabled c =
    let happens =
    plain_happens c.args.run.now (view.Merge c.args.i c.args.c) (view_of c.args.self.now) (view_of c.merge-moved.new.self) (view_of c.counted.new.self) c.merge-moved.result c.counted.result
    (λ is. is) (λ is may. false≢true (sym is ∙ may)) (λ next. tt) c.merge-moved.ensures.enabled c.merge-moved.ensures.after c.merge-moved.ensures.err c.counted.ensures.answer c.counted.ensures.view in
    tabled_happens c.args.run.now (view.Merge c.args.i c.args.c) c.args.self.now c.counted.new.self c.counted.result tt (c.counted.ensures.quiet.places ∙ c.merge-moved.ensures.quiet.places) happens c.requires.tabled

pub returns-clause-of : goal.returns-clause-of
returns-clause-of c = c.counted.ensures.of c.args.run.now (c.merge-moved.ensures.of c.args.run.now c.requires.of)
