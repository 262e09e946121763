use Rattle.std.proofs.Common.{refl}
use Rattle.std.proofs.lemmas.Result.{err_from_is_err_and}
use Rattle.sn_io.specs.Told.{AppendsPrefix}
use Rattle.sn_plain.specs.Seen.{File, Sink, seen_file, seen_sink}
use Rattle.sn_load.specs.Load.{IsLoaded}
use Rattle.sn_plain.proofs.Checking.{finds_report, not_reported, report_cut, report_unread}
use Rattle.sn_plain.proofs.Serving.{HasBytes}
use Rattle.sn_plain.proofs.serve.run_report.Goals as goal

pub returns-in_err-source-clause-stopped : goal.returns-in_err-source-clause-stopped
returns-in_err-source-clause-stopped g c =
    let p = err_from_is_err_and c.from_residual.result c.from_residual.ensures.1 in
    let source : File = seen_file g.F.Files.bytes_of g.F.Files.faults c.args.files.now c.read_file.new.files c.args.source_name.now in
    let out : Sink = seen_sink g.O.Sink.held g.O.Sink.faults c.args.out.now c.args.out.now in
    rw (p.1, p.2) (report_unread c.args.report source out refl c.in_err-source.field-0.0 c.in_err-source.ensures.unread)

pub returns-in_err-program-clause-stopped : goal.returns-in_err-program-clause-stopped
returns-in_err-program-clause-stopped g c =
    let p = err_from_is_err_and c.from_residual-in_err-program.result c.from_residual-in_err-program.ensures.1 in
    let source : File = seen_file g.F.Files.bytes_of g.F.Files.faults c.args.files.now c.read_file.new.files c.args.source_name.now in
    let out : Sink = seen_sink g.O.Sink.held g.O.Sink.faults c.args.out.now c.args.out.now in
    let read : HasBytes source _ c.in_ok-source.source = record { told = c.in_ok-source.ensures.whole; within = c.in_ok-source.ensures.within } in
    rw (p.1, p.2) (not_reported c.args.report source out c.in_ok-source.source read refl c.in_err-program.field-0.0 (rw c.as_slice.ensures at c.in_err-program.ensures.ended))

pub report_text-requires-clause-formed : goal.report_text-requires-clause-formed
report_text-requires-clause-formed g c = c.in_ok-program.ensures.loaded.formed

pub report_text-requires-clause-accepted : goal.report_text-requires-clause-accepted
report_text-requires-clause-accepted g c = c.in_ok-program.ensures.loaded.accepted

pub returns-in_err-write_whole-clause-stopped : goal.returns-in_err-write_whole-clause-stopped
returns-in_err-write_whole-clause-stopped g c =
    let p = err_from_is_err_and c.from_residual-in_err-write_whole.result c.from_residual-in_err-write_whole.ensures.1 in
    let source : File = seen_file g.F.Files.bytes_of g.F.Files.faults c.args.files.now c.read_file.new.files c.args.source_name.now in
    let out : Sink = seen_sink g.O.Sink.held g.O.Sink.faults c.args.out.now c.write_whole.new.sink in
    let read : HasBytes source _ c.in_ok-source.source = record { told = c.in_ok-source.ensures.whole; within = c.in_ok-source.ensures.within } in
    let program : IsLoaded c.in_ok-source.source c.in_ok-program.program = rw c.as_slice.ensures at c.in_ok-program.ensures.loaded in
    let part : AppendsPrefix out.before out.now c.in_ok-text.text = rw c.as_slice-2.ensures at c.in_err-write_whole.ensures.part in
    rw (p.1, p.2) (report_cut c.args.report source out c.in_ok-source.source read c.in_ok-program.program program c.in_ok-text.text c.in_ok-text.ensures part c.in_err-write_whole.ensures.cause.failed)

pub returns-clause-done : goal.returns-clause-done
returns-clause-done g c =
    let source : File = seen_file g.F.Files.bytes_of g.F.Files.faults c.args.files.now c.read_file.new.files c.args.source_name.now in
    let out : Sink = seen_sink g.O.Sink.held g.O.Sink.faults c.args.out.now c.write_whole.new.sink in
    let read : HasBytes source _ c.in_ok-source.source = record { told = c.in_ok-source.ensures.whole; within = c.in_ok-source.ensures.within } in
    let program : IsLoaded c.in_ok-source.source c.in_ok-program.program = rw c.as_slice.ensures at c.in_ok-program.ensures.loaded in
    let whole = rw c.as_slice-2.ensures at c.in_ok-write_whole.ensures.whole in
    (c.in_ok-text.text, finds_report c.args.report source out c.in_ok-source.source read c.in_ok-program.program program c.in_ok-text.text c.in_ok-text.ensures, whole)
