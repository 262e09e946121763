use Rattle.std.proofs.Common.{Some, None, refl, inl, inr}
use Rattle.std.proofs.lemmas.Result.{err_from_is_err_and}
use Rattle.sn_load.specs.Load.{limits_of}
use Rattle.sn_plain.specs.Ready.{setting_at}
use Rattle.sn_plain.specs.Seen.{Sink, seen_sink}
use Rattle.sn_top.proofs.Traced.{trace_begun, trace_printed}
use Rattle.sn_top.proofs.tracing.trace_with_workers.Goals as goal

pub returns-in_err-run-clause-ended : goal.returns-in_err-run-clause-ended
returns-in_err-run-clause-ended g c =
    let p = err_from_is_err_and c.from_residual.result c.from_residual.ensures.1 in
    rw (p.1, p.2) (inl refl)

pub returns-in-Whole-clause-done : goal.returns-in-Whole-clause-done
returns-in-Whole-clause-done g c =
    let out : Sink = seen_sink g.O.Sink.held g.O.Sink.faults c.args.out.now c.trace_run.new.out in
    trace_printed (setting_at c.args.ready (limits_of c.args.setup.fuel c.args.setup.depth)) c.args.ready.net c.args.ready.records c.args.ready.names out c.in_ok-run.field-0.run.value c.in_ok-run.ensures.run None
    (c.trace_run.ensures.whole c.in-Whole.is)

pub returns-in-Faulted-clause-done : goal.returns-in-Faulted-clause-done
returns-in-Faulted-clause-done g c =
    let out : Sink = seen_sink g.O.Sink.held g.O.Sink.faults c.args.out.now c.trace_run.new.out in
    trace_printed (setting_at c.args.ready (limits_of c.args.setup.fuel c.args.setup.depth)) c.args.ready.net c.args.ready.records c.args.ready.names out c.in_ok-run.field-0.run.value c.in_ok-run.ensures.run (Some c.in-Faulted.fault)
    (c.trace_run.ensures.faulted c.in-Faulted.fault c.in-Faulted.is)

pub returns-in-WriteFault-clause-ended : goal.returns-in-WriteFault-clause-ended
returns-in-WriteFault-clause-ended g c =
    let out : Sink = seen_sink g.O.Sink.held g.O.Sink.faults c.args.out.now c.trace_run.new.out in (
      c.trace_run.ensures.rose c.in-WriteFault.is,
      trace_begun (setting_at c.args.ready (limits_of c.args.setup.fuel c.args.setup.depth)) c.args.ready.net c.args.ready.records c.args.ready.names out c.in_ok-run.field-0.run.value c.in_ok-run.ensures.run
          c.trace_run.ensures.part,
    )

pub returns-clause-ended : goal.returns-clause-ended
returns-clause-ended g c =
    let out : Sink = seen_sink g.O.Sink.held g.O.Sink.faults c.args.out.now c.trace_run.new.out in
    inr (trace_begun (setting_at c.args.ready (limits_of c.args.setup.fuel c.args.setup.depth)) c.args.ready.net c.args.ready.records c.args.ready.names out c.in_ok-run.field-0.run.value c.in_ok-run.ensures.run
    c.trace_run.ensures.part)
