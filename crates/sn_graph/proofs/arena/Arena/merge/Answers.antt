use Rattle.std.proofs.Common.{arith, rules, refl, ap, ◌∙◌, [], ◌∷◌}
use Rattle.std.proofs.lemmas.Result.{IfOk-from_err}
use Rattle.sn_node.specs.Entry.{entry_of}
use Rattle.sn_node.specs.Seen.{node_of}
use Rattle.sn_graph.specs.Arena.{view_of}
use Rattle.sn_graph.proofs.Changes.{on_err, unchanged}
use Rattle.sn_graph.proofs.Here.{get_read, here, of_set, still_within}
use Rattle.sn_graph.proofs.Merges.{moved_after, nothing_after, unmoved_enabled}
use Rattle.sn_graph.proofs.Reserving.{room_stays}
use Rattle.sn_graph.proofs.arena.Arena.merge.Goals as goal

pub send-requires : goal.send-requires
send-requires c =
    room_stays c.index-2.result.now.made.goes 1 c.args.i c.merge.new.self c.reserve.new.self _ refl refl
    (c.requires.apart c.index-2.result.now (get_read c.args.self.now.nodes.items c.args.i c.index-2.result.now (search (rules, arith)) c.index-2.ensures)) c.in_ok-reserve.ensures.room

pub returns-in-No-clause-enabled : goal.returns-in-No-clause-enabled
returns-in-No-clause-enabled c =
    unmoved_enabled c.args.self.now c.reserve.new.self c.args.i c.args.c c.index_mut.result.now c.merge.new.self c.reserve.ensures.view (still_within c.args.self.now c.reserve.new.self c.args.i c.reserve.ensures.view (search (rules, arith))) c.index_mut.ensures.value c.in-No.ensures.merged

pub returns-in-No-clause-after : goal.returns-in-No-clause-after
returns-in-No-clause-after c =
    ap (λ ns. record (view_of c.reserve.new.self) { nodes = ns })
    (unchanged node_of c.reserve.new.self.nodes.items c.args.i c.index_mut.result.now c.merge.new.self c.index_mut.ensures.value c.in-No.ensures.merged.same)
    ∙ c.reserve.ensures.view

pub returns-in-Nothing-clause-after : goal.returns-in-Nothing-clause-after
returns-in-Nothing-clause-after c =
    nothing_after c.args.self.now c.reserve.new.self c.args.i c.args.c c.index-2.result.now c.index_mut.result.now c.merge.new.self c.reserve.ensures.view
    (here c.args.self.now c.args.i c.index-2.result.now (search (rules, arith)) c.index-2.ensures) (still_within c.args.self.now c.reserve.new.self c.args.i c.reserve.ensures.view (search (rules, arith))) c.index_mut.ensures.value c.in-Nothing.ensures.merged

pub returns-in-Gives-clause-after : goal.returns-in-Gives-clause-after
returns-in-Gives-clause-after c =
    c.send.ensures.view
    ∙ moved_after c.args.self.now c.reserve.new.self c.args.i c.args.c c.index-2.result.now c.index_mut.result.now c.merge.new.self c.reserve.ensures.view
    (here c.args.self.now c.args.i c.index-2.result.now (search (rules, arith)) c.index-2.ensures) (still_within c.args.self.now c.reserve.new.self c.args.i c.reserve.ensures.view (search (rules, arith))) c.index_mut.ensures.value (entry_of c.in-Gives.entry ∷ []) c.in-Gives.ensures.merged

pub returns-in-Gives-clause-of : goal.returns-in-Gives-clause-of
returns-in-Gives-clause-of c = λ run of. c.send.ensures.of run (of_set c.reserve.new.self _ run c.args.i c.index_mut.result.now c.merge.new.self refl refl (still_within c.args.self.now c.reserve.new.self c.args.i c.reserve.ensures.view (search (rules, arith))) c.index_mut.ensures.value c.merge.ensures.made (c.reserve.ensures.of run of))

pub returns-in-Nothing-clause-of : goal.returns-in-Nothing-clause-of
returns-in-Nothing-clause-of c = λ run of. of_set c.reserve.new.self _ run c.args.i c.index_mut.result.now c.merge.new.self refl refl (still_within c.args.self.now c.reserve.new.self c.args.i c.reserve.ensures.view (search (rules, arith))) c.index_mut.ensures.value c.merge.ensures.made (c.reserve.ensures.of run of)

pub returns-then-i-len-clause-after : goal.returns-then-i-len-clause-after
returns-then-i-len-clause-after c = refl

pub returns-then-i-len-clause-err : goal.returns-then-i-len-clause-err
returns-then-i-len-clause-err c = tt

pub returns-then-i-len-clause-of : goal.returns-then-i-len-clause-of
returns-then-i-len-clause-of c = λ run of. of

pub returns-then-i-len-clause-quiet : goal.returns-then-i-len-clause-quiet
returns-then-i-len-clause-quiet c = record { places = refl; agenda = refl }

pub returns-then-not-may_merge-clause-after : goal.returns-then-not-may_merge-clause-after
returns-then-not-may_merge-clause-after c = refl

pub returns-then-not-may_merge-clause-err : goal.returns-then-not-may_merge-clause-err
returns-then-not-may_merge-clause-err c = tt

pub returns-then-not-may_merge-clause-of : goal.returns-then-not-may_merge-clause-of
returns-then-not-may_merge-clause-of c = λ run of. of

pub returns-then-not-may_merge-clause-quiet : goal.returns-then-not-may_merge-clause-quiet
returns-then-not-may_merge-clause-quiet c = record { places = refl; agenda = refl }

pub returns-in_err-reserve-clause-enabled : goal.returns-in_err-reserve-clause-enabled
returns-in_err-reserve-clause-enabled c = IfOk-from_err c.from_residual.result _ c.from_residual.ensures.0

pub returns-in_err-reserve-clause-after : goal.returns-in_err-reserve-clause-after
returns-in_err-reserve-clause-after c = IfOk-from_err c.from_residual.result _ c.from_residual.ensures.0

pub returns-in_err-reserve-clause-err : goal.returns-in_err-reserve-clause-err
returns-in_err-reserve-clause-err c = on_err c.from_residual.result c.reserve.ensures.view

pub returns-in_err-reserve-clause-of : goal.returns-in_err-reserve-clause-of
returns-in_err-reserve-clause-of c = c.reserve.ensures.of

pub returns-in_err-reserve-clause-quiet : goal.returns-in_err-reserve-clause-quiet
returns-in_err-reserve-clause-quiet c = c.reserve.ensures.quiet

pub returns-in-No-clause-err : goal.returns-in-No-clause-err
returns-in-No-clause-err c = tt

pub returns-in-No-clause-of : goal.returns-in-No-clause-of
returns-in-No-clause-of c = λ run of. of_set c.reserve.new.self _ run c.args.i c.index_mut.result.now c.merge.new.self refl refl (still_within c.args.self.now c.reserve.new.self c.args.i c.reserve.ensures.view (search (rules, arith))) c.index_mut.ensures.value c.merge.ensures.made (c.reserve.ensures.of run of)

pub returns-in-No-clause-quiet : goal.returns-in-No-clause-quiet
returns-in-No-clause-quiet c = record { places = c.reserve.ensures.quiet.places; agenda = c.reserve.ensures.quiet.agenda }

pub returns-in-Nothing-clause-err : goal.returns-in-Nothing-clause-err
returns-in-Nothing-clause-err c = tt

pub returns-in-Nothing-clause-quiet : goal.returns-in-Nothing-clause-quiet
returns-in-Nothing-clause-quiet c = record { places = c.reserve.ensures.quiet.places; agenda = c.reserve.ensures.quiet.agenda }

pub returns-in-Gives-clause-err : goal.returns-in-Gives-clause-err
returns-in-Gives-clause-err c = tt

pub returns-in-Gives-clause-quiet : goal.returns-in-Gives-clause-quiet
returns-in-Gives-clause-quiet c = record {
  places = c.send.ensures.quiet.places ∙ c.reserve.ensures.quiet.places;
  agenda = c.send.ensures.quiet.agenda ∙ c.reserve.ensures.quiet.agenda;
}
