use Rattle.std.proofs.Common.{refl, None, Some, inl}
use Rattle.std.proofs.lemmas.Result.{err_from_is_err_and}
use Rattle.sn_load.specs.Load.{limits_of}
use Rattle.sn_plain.specs.Runs.{WithWorkers}
use Rattle.sn_plain.specs.Seen.{File, Sink, seen_file, seen_sink}
use Rattle.sn_plain.specs.Ready.{ready_of}
use Rattle.sn_plain.proofs.Planned.{printed_as, unfinished_as}
use Rattle.sn_plain.proofs.Serving.{finds_printed, not_finished, not_ready}
use Rattle.sn_top.proofs.serve.run_with_workers.Goals as goal

pub returns-in_err-checked-clause-stopped : goal.returns-in_err-checked-clause-stopped
returns-in_err-checked-clause-stopped g c =
    let p = err_from_is_err_and c.from_residual.result c.from_residual.ensures.1 in
    let source : File = seen_file g.F.Files.bytes_of g.F.Files.faults c.args.files.now c.check_files.new.files c.args.source_name.now in
    let input : File = seen_file g.F.Files.bytes_of g.F.Files.faults c.args.files.now c.check_files.new.files c.args.input_name.now in
    let out : Sink = seen_sink g.O.Sink.held g.O.Sink.faults c.args.out.now c.args.out.now in
    rw (p.1, p.2) (not_ready WithWorkers WithWorkers (limits_of c.args.setup.fuel c.args.setup.depth) source input out refl c.in_err-checked.field-0.0 c.in_err-checked.ensures.stopped)

pub returns-in_err-ready-clause-stopped : goal.returns-in_err-ready-clause-stopped
returns-in_err-ready-clause-stopped g c =
    let p = err_from_is_err_and c.from_residual-in_err-ready.result c.from_residual-in_err-ready.ensures.1 in
    rw (p.1, p.2) (inl refl)

pub returns-in_err-print_with_workers-clause-stopped : goal.returns-in_err-print_with_workers-clause-stopped
returns-in_err-print_with_workers-clause-stopped g c =
    let p = err_from_is_err_and c.from_residual-in_err-print_with_workers.result c.from_residual-in_err-print_with_workers.ensures.1 in
    let source : File = seen_file g.F.Files.bytes_of g.F.Files.faults c.args.files.now c.check_files.new.files c.args.source_name.now in
    let input : File = seen_file g.F.Files.bytes_of g.F.Files.faults c.args.files.now c.check_files.new.files c.args.input_name.now in
    let out : Sink = seen_sink g.O.Sink.held g.O.Sink.faults c.args.out.now c.print_with_workers.new.out in
    rw (p.1, p.2) (not_finished WithWorkers WithWorkers (limits_of c.args.setup.fuel c.args.setup.depth) source input out (ready_of c.in_ok-checked.checked) c.in_ok-checked.ensures.ready c.in_err-print_with_workers.field-0.0
    (unfinished_as (limits_of c.args.setup.fuel c.args.setup.depth) (ready_of c.in_ok-checked.checked) c.in_ok-ready.ready c.in_ok-ready.ensures.alike out c.in_err-print_with_workers.field-0.0 c.in_err-print_with_workers.ensures.ended))

pub returns-in-None-clause-done : goal.returns-in-None-clause-done
returns-in-None-clause-done g c =
    let source : File = seen_file g.F.Files.bytes_of g.F.Files.faults c.args.files.now c.check_files.new.files c.args.source_name.now in
    let input : File = seen_file g.F.Files.bytes_of g.F.Files.faults c.args.files.now c.check_files.new.files c.args.input_name.now in
    let out : Sink = seen_sink g.O.Sink.held g.O.Sink.faults c.args.out.now c.print_with_workers.new.out in
    finds_printed WithWorkers WithWorkers (limits_of c.args.setup.fuel c.args.setup.depth) source input out (ready_of c.in_ok-checked.checked) c.in_ok-checked.ensures.ready c.in_ok-print_with_workers.field-0 None
    (printed_as (limits_of c.args.setup.fuel c.args.setup.depth) (ready_of c.in_ok-checked.checked) c.in_ok-ready.ready c.in_ok-ready.ensures.alike out c.in_ok-print_with_workers.field-0 c.in_ok-print_with_workers.ensures.done) c.in-None.is

pub returns-in-Some-clause-stopped : goal.returns-in-Some-clause-stopped
returns-in-Some-clause-stopped g c =
    let source : File = seen_file g.F.Files.bytes_of g.F.Files.faults c.args.files.now c.check_files.new.files c.args.source_name.now in
    let input : File = seen_file g.F.Files.bytes_of g.F.Files.faults c.args.files.now c.check_files.new.files c.args.input_name.now in
    let out : Sink = seen_sink g.O.Sink.held g.O.Sink.faults c.args.out.now c.print_with_workers.new.out in
    finds_printed WithWorkers WithWorkers (limits_of c.args.setup.fuel c.args.setup.depth) source input out (ready_of c.in_ok-checked.checked) c.in_ok-checked.ensures.ready c.in_ok-print_with_workers.field-0 (Some c.in-Some.fault)
    (printed_as (limits_of c.args.setup.fuel c.args.setup.depth) (ready_of c.in_ok-checked.checked) c.in_ok-ready.ready c.in_ok-ready.ensures.alike out c.in_ok-print_with_workers.field-0 c.in_ok-print_with_workers.ensures.done) c.in-Some.is
