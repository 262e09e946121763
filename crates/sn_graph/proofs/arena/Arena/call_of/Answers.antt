use Rattle.std.proofs.Common.{ap, sym}
use Rattle.std.specs.Option.{option_map}
use Rattle.sn_graph.specs.declared.arena.Place.{Place}
use Rattle.sn_graph.proofs.Calling.{unwanted, unwanted_at}
use Rattle.sn_graph.proofs.arena.Arena.call_of.Goals as goal

pub returns-in-None-call_at-clause-none : goal.returns-in-None-call_at-clause-none
returns-in-None-call_at-clause-none c =
    unwanted_at c.args.self.now c.args.run.now c.requires.of.made c.args.job.now c.requires.tabled c.in-Some.begun.now.node
    (ap (option_map (λ (place : Place). place.node)) (sym c.in-Some.ensures.value)) c.in-None-call_at.ensures.none

pub returns-in-None-clause-none : goal.returns-in-None-clause-none
returns-in-None-clause-none c =
    unwanted c.args.self.now c.args.run.now c.requires.of.made c.args.job.now c.requires.tabled (ap (option_map (λ (place : Place). place.node)) (sym c.in-None.ensures.value))
