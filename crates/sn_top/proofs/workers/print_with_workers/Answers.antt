use Rattle.std.proofs.Common.{Some, None, refl, inl, inr}
use Rattle.std.proofs.lemmas.Result.{err_from_is_err_and}
use Rattle.sn_load.specs.Load.{limits_of}
use Rattle.sn_plain.specs.Seen.{Sink, seen_sink}
use Rattle.sn_top.proofs.Working.{farm_begun, farm_printed}
use Rattle.sn_top.proofs.workers.print_with_workers.Goals as goal

pub returns-in_err-run-clause-ended : goal.returns-in_err-run-clause-ended
returns-in_err-run-clause-ended g c =
    let p = err_from_is_err_and c.from_residual.result c.from_residual.ensures.1 in
    rw (p.1, p.2) (inl refl)

pub returns-in-Whole-clause-done : goal.returns-in-Whole-clause-done
returns-in-Whole-clause-done g c =
    let out : Sink = seen_sink g.O.Sink.held g.O.Sink.faults c.args.out.now c.run_together.new.out in
    farm_printed (limits_of c.args.setup.fuel c.args.setup.depth) c.args.ready out c.requires.formed c.requires.typed c.in_ok-run.field-0.run.value c.in_ok-run.ensures.run None
    (rw c.in_ok-run.ensures.names at c.run_together.ensures.whole c.in-Whole.is)

pub returns-in-Faulted-clause-done : goal.returns-in-Faulted-clause-done
returns-in-Faulted-clause-done g c =
    let out : Sink = seen_sink g.O.Sink.held g.O.Sink.faults c.args.out.now c.run_together.new.out in
    farm_printed (limits_of c.args.setup.fuel c.args.setup.depth) c.args.ready out c.requires.formed c.requires.typed c.in_ok-run.field-0.run.value c.in_ok-run.ensures.run (Some c.in-Faulted.fault)
    (rw c.in_ok-run.ensures.names at c.run_together.ensures.faulted c.in-Faulted.fault c.in-Faulted.is)

pub returns-in-WriteFault-clause-ended : goal.returns-in-WriteFault-clause-ended
returns-in-WriteFault-clause-ended g c =
    let out : Sink = seen_sink g.O.Sink.held g.O.Sink.faults c.args.out.now c.run_together.new.out in (
      c.run_together.ensures.rose c.in-WriteFault.is,
      farm_begun (limits_of c.args.setup.fuel c.args.setup.depth) c.args.ready out c.requires.formed c.requires.typed c.in_ok-run.field-0.run.value c.in_ok-run.ensures.run
          (rw c.in_ok-run.ensures.names at c.run_together.ensures.part),
    )

pub returns-clause-ended : goal.returns-clause-ended
returns-clause-ended g c =
    let out : Sink = seen_sink g.O.Sink.held g.O.Sink.faults c.args.out.now c.run_together.new.out in
    inr (farm_begun (limits_of c.args.setup.fuel c.args.setup.depth) c.args.ready out c.requires.formed c.requires.typed c.in_ok-run.field-0.run.value c.in_ok-run.ensures.run
    (rw c.in_ok-run.ensures.names at c.run_together.ensures.part))
