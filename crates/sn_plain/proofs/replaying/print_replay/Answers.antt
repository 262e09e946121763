use Rattle.std.proofs.Common.{refl, subst, sym, inl}
use Rattle.std.proofs.lemmas.Result.{err_from_is_err_and}
use Rattle.sn_load.specs.Load.{limits_of}
use Rattle.sn_plain.specs.Ready.{setting_at}
use Rattle.sn_plain.specs.Seen.{Sink, seen_sink}
use Rattle.sn_plain.specs.Stopping.{WhyUnplayable}
use Rattle.sn_plain.proofs.Replayed.{cut_off, printed_all, refused}
use Rattle.sn_plain.proofs.replaying.print_replay.Goals as goal

pub returns-in_err-run-clause-ended : goal.returns-in_err-run-clause-ended
returns-in_err-run-clause-ended g c =
    let p = err_from_is_err_and c.from_residual.result c.from_residual.ensures.1 in
    rw (p.1, p.2) (inl refl)

pub returns-in-Ok-clause-done : goal.returns-in-Ok-clause-done
returns-in-Ok-clause-done g c =
    let out : Sink = seen_sink g.O.Sink.held g.O.Sink.faults c.args.out.now c.print_items.new.out in
    printed_all c.args.text.now (setting_at c.args.ready (limits_of c.args.fuel c.args.depth)) c.args.ready.net c.args.ready.records c.args.ready.names out c.in_ok-run.field-0.run.value c.in_ok-run.ensures.run c.in-Ok.items c.in-Ok.ensures.answer
    c.print_items.result c.print_items.ensures.ended (rw c.in_ok-run.ensures.names at c.print_items.ensures.whole)

pub returns-in-Ok-clause-ended : goal.returns-in-Ok-clause-ended
returns-in-Ok-clause-ended g c =
    let out : Sink = seen_sink g.O.Sink.held g.O.Sink.faults c.args.out.now c.print_items.new.out in
    cut_off c.args.text.now (setting_at c.args.ready (limits_of c.args.fuel c.args.depth)) c.args.ready.net c.args.ready.records c.args.ready.names out c.in_ok-run.field-0.run.value c.in_ok-run.ensures.run c.in-Ok.items c.in-Ok.ensures.answer
    c.print_items.result (rw c.in_ok-run.ensures.names at c.print_items.ensures.stopped)

pub returns-clause-ended : goal.returns-clause-ended
returns-clause-ended g c =
    let out : Sink = seen_sink g.O.Sink.held g.O.Sink.faults c.args.out.now c.args.out.now in
    subst (WhyUnplayable c.args.text.now (setting_at c.args.ready (limits_of c.args.fuel c.args.depth)) c.args.ready.net c.args.ready.records c.args.ready.names out) (sym c.stop_of.ensures)
    (refused c.args.text.now (setting_at c.args.ready (limits_of c.args.fuel c.args.depth)) c.args.ready.net c.args.ready.records c.args.ready.names out c.in_ok-run.field-0.run.value c.in_ok-run.ensures.run c.in-Err.fault c.in-Err.ensures.answer refl)
