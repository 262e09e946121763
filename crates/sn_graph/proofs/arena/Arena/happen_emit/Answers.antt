use Rattle.std.proofs.Common.{refl, ap}
use Rattle.sn_graph.proofs.Happening.{tabled_emit}
use Rattle.sn_graph.proofs.Tabling.{tabled_same}
use Rattle.sn_view.specs.View.{View}
use Rattle.sn_graph.proofs.arena.Arena.happen_emit.Goals as goal

pub returns-in-Ok-No-clause-tabled : goal.returns-in-Ok-No-clause-tabled
returns-in-Ok-No-clause-tabled c =
    tabled_emit c.args.self.now c.emit.new.self c.emit.new.self _ c.in-Ok-No.ensures.after c.emit.ensures.quiet.places refl refl c.requires.tabled

pub returns-in-Ok-Nothing-clause-tabled : goal.returns-in-Ok-Nothing-clause-tabled
returns-in-Ok-Nothing-clause-tabled c =
    tabled_emit c.args.self.now c.emit.new.self _ _ c.in-Ok-Nothing.ensures.after c.emit.ensures.quiet.places refl refl c.requires.tabled

pub returns-in-Ok-Item-clause-tabled : goal.returns-in-Ok-Item-clause-tabled
returns-in-Ok-Item-clause-tabled c =
    tabled_emit c.args.self.now c.emit.new.self _ _ c.in-Ok-Item.ensures.after c.emit.ensures.quiet.places refl refl c.requires.tabled

pub returns-in-Err-clause-tabled : goal.returns-in-Err-clause-tabled
returns-in-Err-clause-tabled c =
    tabled_same c.args.self.now c.emit.new.self (ap (λ p. p.entries) c.emit.ensures.quiet.places) (ap (λ (g : View). g.nodes) c.in-Err.ensures.err) c.requires.tabled
