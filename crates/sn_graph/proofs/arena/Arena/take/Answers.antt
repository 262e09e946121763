use Rattle.std.proofs.Common.{◌∙◌, refl}
use Rattle.std.proofs.lemmas.Result.{IfOk-from_err}
use Rattle.sn_graph.proofs.Changes.{on_err}
use Rattle.sn_graph.proofs.arena.Arena.take.Goals as goal

pub returns-in_err-item-clause-enabled : goal.returns-in_err-item-clause-enabled
returns-in_err-item-clause-enabled c = IfOk-from_err c.from_residual.result _ c.from_residual.ensures.0

pub returns-in_err-item-clause-after : goal.returns-in_err-item-clause-after
returns-in_err-item-clause-after c = IfOk-from_err c.from_residual.result _ c.from_residual.ensures.0

pub returns-in_err-item-clause-err : goal.returns-in_err-item-clause-err
returns-in_err-item-clause-err c = on_err c.from_residual.result refl

pub returns-in_err-item-clause-of : goal.returns-in_err-item-clause-of
returns-in_err-item-clause-of c = c.requires

pub returns-in_err-item-clause-quiet : goal.returns-in_err-item-clause-quiet
returns-in_err-item-clause-quiet c = record { places = refl; agenda = refl }

pub returns-in_err-reserve-clause-enabled : goal.returns-in_err-reserve-clause-enabled
returns-in_err-reserve-clause-enabled c = IfOk-from_err c.from_residual-in_err-reserve.result _ c.from_residual-in_err-reserve.ensures.0

pub returns-in_err-reserve-clause-after : goal.returns-in_err-reserve-clause-after
returns-in_err-reserve-clause-after c = IfOk-from_err c.from_residual-in_err-reserve.result _ c.from_residual-in_err-reserve.ensures.0

pub returns-in_err-reserve-clause-err : goal.returns-in_err-reserve-clause-err
returns-in_err-reserve-clause-err c = on_err c.from_residual-in_err-reserve.result c.reserve.ensures.view

pub returns-in_err-reserve-clause-of : goal.returns-in_err-reserve-clause-of
returns-in_err-reserve-clause-of c = c.reserve.ensures.of c.args.run.now c.requires

pub returns-in_err-reserve-clause-quiet : goal.returns-in_err-reserve-clause-quiet
returns-in_err-reserve-clause-quiet c = c.reserve.ensures.quiet

pub send-requires : goal.send-requires
send-requires c = c.in_ok-reserve.ensures.room

pub returns-then-self-len-clause-err : goal.returns-then-self-len-clause-err
returns-then-self-len-clause-err c = tt

pub returns-then-self-len-clause-of : goal.returns-then-self-len-clause-of
returns-then-self-len-clause-of c = let of = c.send.ensures.of c.args.run.now (c.reserve.ensures.of c.args.run.now c.requires) in record { made = of.made; nodes = of.nodes }

pub returns-then-self-len-clause-quiet : goal.returns-then-self-len-clause-quiet
returns-then-self-len-clause-quiet c = record {
  places = c.send.ensures.quiet.places ∙ c.reserve.ensures.quiet.places;
  agenda = c.send.ensures.quiet.agenda ∙ c.reserve.ensures.quiet.agenda;
}

pub returns-then-self-clause-after : goal.returns-then-self-clause-after
returns-then-self-clause-after c = refl

pub returns-then-self-clause-err : goal.returns-then-self-clause-err
returns-then-self-clause-err c = tt

pub returns-then-self-clause-of : goal.returns-then-self-clause-of
returns-then-self-clause-of c = c.requires

pub returns-then-self-clause-quiet : goal.returns-then-self-clause-quiet
returns-then-self-clause-quiet c = record { places = refl; agenda = refl }

pub returns-in_err-reserve-2-clause-enabled : goal.returns-in_err-reserve-2-clause-enabled
returns-in_err-reserve-2-clause-enabled c = IfOk-from_err c.from_residual-in_err-reserve-2.result _ c.from_residual-in_err-reserve-2.ensures.0

pub returns-in_err-reserve-2-clause-after : goal.returns-in_err-reserve-2-clause-after
returns-in_err-reserve-2-clause-after c = IfOk-from_err c.from_residual-in_err-reserve-2.result _ c.from_residual-in_err-reserve-2.ensures.0

pub returns-in_err-reserve-2-clause-err : goal.returns-in_err-reserve-2-clause-err
returns-in_err-reserve-2-clause-err c = on_err c.from_residual-in_err-reserve-2.result c.reserve-2.ensures.view

pub returns-in_err-reserve-2-clause-of : goal.returns-in_err-reserve-2-clause-of
returns-in_err-reserve-2-clause-of c = c.reserve-2.ensures.of c.args.run.now c.requires

pub returns-in_err-reserve-2-clause-quiet : goal.returns-in_err-reserve-2-clause-quiet
returns-in_err-reserve-2-clause-quiet c = c.reserve-2.ensures.quiet

pub send-requires-2 : goal.send-requires-2
send-requires-2 c = c.in_ok-reserve-2.ensures.room

pub returns-clause-err : goal.returns-clause-err
returns-clause-err c = tt

pub returns-clause-of : goal.returns-clause-of
returns-clause-of c = let of = c.send-2.ensures.of c.args.run.now (c.reserve-2.ensures.of c.args.run.now c.requires) in record { made = of.made; nodes = of.nodes }

pub returns-clause-quiet : goal.returns-clause-quiet
returns-clause-quiet c = record {
  places = c.send-2.ensures.quiet.places ∙ c.reserve-2.ensures.quiet.places;
  agenda = c.send-2.ensures.quiet.agenda ∙ c.reserve-2.ensures.quiet.agenda;
}
