use Rattle.std.proofs.Common.{refl, ◌∙◌, length}
use Rattle.std.proofs.lemmas.Result.{IfOk-from_err}
use Rattle.sn_node.specs.Local.{given_of}
use Rattle.sn_graph.proofs.Changes.{on_err}
use Rattle.sn_graph.proofs.Locals.{counted_after, counted_enabled, few_here, of_changed, same_view, stays_disabled, still_within, there_in}
use Rattle.sn_graph.proofs.Reserving.{room_less, room_stays}
use Rattle.sn_graph.proofs.arena.Arena.local_counted.Goals as goal

pub returns-in_err-given-clause-err : goal.returns-in_err-given-clause-err
returns-in_err-given-clause-err c =
    on_err c.from_residual-in_err-given.result
    (same_view c.args.self.now c.reserve.new.self c.args.i c.index_mut.result.now c.pass.new.self c.reserve.ensures.view c.index_mut.ensures.value c.in_err-given.ensures.err)

pub send_given-requires : goal.send_given-requires
send_given-requires c =
    let passes = rw c.in-Some.is at c.in_ok-given.ensures.ok in
    let es = given_of c.in-Some.given in
    let within = still_within c.args.self.now c.reserve.new.self c.args.i c.reserve.ensures.view c.requires.within in
    room_stays c.index.result.now.made.goes (length es) c.args.i c.pass.new.self c.reserve.new.self _ refl refl
    (c.requires.apart c.index.result.now (there_in c.args.self.now.nodes.items c.args.i c.index.result.now c.requires.within c.index.ensures))
    (room_less c.index.result.now.made.goes c.args.most (length es) c.reserve.new.self
    (few_here c.args.self.now c.reserve.new.self c.args.i c.index.result.now c.index_mut.result.now c.pass.new.self c.reserve.ensures.view c.requires.within c.index.ensures within c.index_mut.ensures.value
    c.args.run.now (c.reserve.ensures.of c.args.run.now c.requires.of).made c.args.most es c.requires.counts passes)
    c.in_ok-reserve.ensures.room)

pub returns-in-Some-clause-enabled : goal.returns-in-Some-clause-enabled
returns-in-Some-clause-enabled c =
    let within = still_within c.args.self.now c.reserve.new.self c.args.i c.reserve.ensures.view c.requires.within in
    counted_enabled c.args.self.now c.reserve.new.self c.args.i c.index.result.now c.index_mut.result.now c.pass.new.self c.reserve.ensures.view c.requires.within c.index.ensures within c.index_mut.ensures.value
    c.args.run.now (c.reserve.ensures.of c.args.run.now c.requires.of).made (given_of c.in-Some.given) (rw c.in-Some.is at c.in_ok-given.ensures.ok)

pub returns-in-Some-clause-after : goal.returns-in-Some-clause-after
returns-in-Some-clause-after c =
    let within = still_within c.args.self.now c.reserve.new.self c.args.i c.reserve.ensures.view c.requires.within in
    c.send_given.ensures.view
    ∙ counted_after c.args.self.now c.reserve.new.self c.args.i c.index.result.now c.index_mut.result.now c.pass.new.self c.reserve.ensures.view c.requires.within c.index.ensures within c.index_mut.ensures.value
    c.args.run.now (c.reserve.ensures.of c.args.run.now c.requires.of).made (given_of c.in-Some.given) (rw c.in-Some.is at c.in_ok-given.ensures.ok)

pub returns-in-Some-clause-of : goal.returns-in-Some-clause-of
returns-in-Some-clause-of c =
    let within = still_within c.args.self.now c.reserve.new.self c.args.i c.reserve.ensures.view c.requires.within in
    c.send_given.ensures.of c.args.run.now
    (of_changed c.reserve.new.self _ c.args.run.now c.args.i c.index_mut.result.now c.pass.new.self within c.index_mut.ensures.value c.pass.ensures.made refl refl (c.reserve.ensures.of c.args.run.now c.requires.of))

pub returns-in-None-clause-enabled : goal.returns-in-None-clause-enabled
returns-in-None-clause-enabled c =
    let within = still_within c.args.self.now c.reserve.new.self c.args.i c.reserve.ensures.view c.requires.within in
    stays_disabled c.args.self.now c.reserve.new.self c.args.i c.index.result.now c.index_mut.result.now c.pass.new.self c.reserve.ensures.view c.requires.within c.index.ensures within c.index_mut.ensures.value
    c.args.run.now (c.reserve.ensures.of c.args.run.now c.requires.of).made (rw c.in-None.is at c.in_ok-given.ensures.ok)

pub returns-in-None-clause-after : goal.returns-in-None-clause-after
returns-in-None-clause-after c =
    let stays = rw c.in-None.is at c.in_ok-given.ensures.ok in
    same_view c.args.self.now c.reserve.new.self c.args.i c.index_mut.result.now c.pass.new.self c.reserve.ensures.view c.index_mut.ensures.value stays.same

pub returns-in_err-reserve-clause-enabled : goal.returns-in_err-reserve-clause-enabled
returns-in_err-reserve-clause-enabled c = IfOk-from_err c.from_residual.result _ c.from_residual.ensures.0

pub returns-in_err-reserve-clause-after : goal.returns-in_err-reserve-clause-after
returns-in_err-reserve-clause-after c = IfOk-from_err c.from_residual.result _ c.from_residual.ensures.0

pub returns-in_err-reserve-clause-err : goal.returns-in_err-reserve-clause-err
returns-in_err-reserve-clause-err c = on_err c.from_residual.result c.reserve.ensures.view

pub returns-in_err-reserve-clause-of : goal.returns-in_err-reserve-clause-of
returns-in_err-reserve-clause-of c = c.reserve.ensures.of c.args.run.now c.requires.of

pub returns-in_err-reserve-clause-quiet : goal.returns-in_err-reserve-clause-quiet
returns-in_err-reserve-clause-quiet c = c.reserve.ensures.quiet

pub returns-in_err-given-clause-enabled : goal.returns-in_err-given-clause-enabled
returns-in_err-given-clause-enabled c = IfOk-from_err c.from_residual-in_err-given.result _ c.from_residual-in_err-given.ensures.0

pub returns-in_err-given-clause-after : goal.returns-in_err-given-clause-after
returns-in_err-given-clause-after c = IfOk-from_err c.from_residual-in_err-given.result _ c.from_residual-in_err-given.ensures.0

pub returns-in_err-given-clause-of : goal.returns-in_err-given-clause-of
returns-in_err-given-clause-of c =
    let within = still_within c.args.self.now c.reserve.new.self c.args.i c.reserve.ensures.view c.requires.within in
    of_changed c.reserve.new.self _ c.args.run.now c.args.i c.index_mut.result.now c.pass.new.self within c.index_mut.ensures.value c.pass.ensures.made refl refl (c.reserve.ensures.of c.args.run.now c.requires.of)

pub returns-in_err-given-clause-quiet : goal.returns-in_err-given-clause-quiet
returns-in_err-given-clause-quiet c = record { places = c.reserve.ensures.quiet.places; agenda = c.reserve.ensures.quiet.agenda }

pub returns-in-Some-clause-err : goal.returns-in-Some-clause-err
returns-in-Some-clause-err c = tt

pub returns-in-Some-clause-quiet : goal.returns-in-Some-clause-quiet
returns-in-Some-clause-quiet c = record {
  places = c.send_given.ensures.quiet.places ∙ c.reserve.ensures.quiet.places;
  agenda = c.send_given.ensures.quiet.agenda ∙ c.reserve.ensures.quiet.agenda;
}

pub returns-in-None-clause-err : goal.returns-in-None-clause-err
returns-in-None-clause-err c = tt

pub returns-in-None-clause-of : goal.returns-in-None-clause-of
returns-in-None-clause-of c =
    let within = still_within c.args.self.now c.reserve.new.self c.args.i c.reserve.ensures.view c.requires.within in
    of_changed c.reserve.new.self _ c.args.run.now c.args.i c.index_mut.result.now c.pass.new.self within c.index_mut.ensures.value c.pass.ensures.made refl refl (c.reserve.ensures.of c.args.run.now c.requires.of)

pub returns-in-None-clause-quiet : goal.returns-in-None-clause-quiet
returns-in-None-clause-quiet c = record { places = c.reserve.ensures.quiet.places; agenda = c.reserve.ensures.quiet.agenda }
