use Rattle.std.proofs.Common.{refl}
use Rattle.std.proofs.lemmas.Result.{err_from_is_err_and}
use Rattle.sn_io.specs.Told.{AppendsPrefix}
use Rattle.sn_plain.specs.Seen.{File, Sink, seen_file, seen_sink}
use Rattle.sn_load.specs.Source.{HasText}
use Rattle.sn_plain.proofs.Printed.{finds_text, no_text, text_cut, text_unread}
use Rattle.sn_plain.proofs.Serving.{HasBytes}
use Rattle.sn_plain.proofs.serve.run_print.Goals as goal

pub returns-in_err-source-clause-stopped : goal.returns-in_err-source-clause-stopped
returns-in_err-source-clause-stopped g c =
    let p = err_from_is_err_and c.from_residual.result c.from_residual.ensures.1 in
    let source : File = seen_file g.F.Files.bytes_of g.F.Files.faults c.args.files.now c.read_file.new.files c.args.source_name.now in
    let out : Sink = seen_sink g.O.Sink.held g.O.Sink.faults c.args.out.now c.args.out.now in
    rw (p.1, p.2) (text_unread source out refl c.in_err-source.field-0.0 c.in_err-source.ensures.unread)

pub returns-in_err-text-clause-stopped : goal.returns-in_err-text-clause-stopped
returns-in_err-text-clause-stopped g c =
    let p = err_from_is_err_and c.from_residual-in_err-text.result c.from_residual-in_err-text.ensures.1 in
    let source : File = seen_file g.F.Files.bytes_of g.F.Files.faults c.args.files.now c.read_file.new.files c.args.source_name.now in
    let out : Sink = seen_sink g.O.Sink.held g.O.Sink.faults c.args.out.now c.args.out.now in
    let read : HasBytes source _ c.in_ok-source.source = record { told = c.in_ok-source.ensures.whole; within = c.in_ok-source.ensures.within } in
    let why = rw c.as_slice.ensures at c.in_err-text.ensures in
    rw (p.1, p.2) (no_text source out c.in_ok-source.source read refl c.in_err-text.field-0.0 why)

pub returns-in_err-write_whole-clause-stopped : goal.returns-in_err-write_whole-clause-stopped
returns-in_err-write_whole-clause-stopped g c =
    let p = err_from_is_err_and c.from_residual-in_err-write_whole.result c.from_residual-in_err-write_whole.ensures.1 in
    let source : File = seen_file g.F.Files.bytes_of g.F.Files.faults c.args.files.now c.read_file.new.files c.args.source_name.now in
    let out : Sink = seen_sink g.O.Sink.held g.O.Sink.faults c.args.out.now c.write_whole.new.sink in
    let read : HasBytes source _ c.in_ok-source.source = record { told = c.in_ok-source.ensures.whole; within = c.in_ok-source.ensures.within } in
    let text : HasText c.in_ok-source.source c.in_ok-text.text = rw c.as_slice.ensures at c.in_ok-text.ensures in
    let part : AppendsPrefix out.before out.now c.in_ok-text.text = rw c.as_slice-2.ensures at c.in_err-write_whole.ensures.part in
    rw (p.1, p.2) (text_cut source out c.in_ok-source.source read c.in_ok-text.text text part c.in_err-write_whole.ensures.cause.failed)

pub returns-clause-done : goal.returns-clause-done
returns-clause-done g c =
    let source : File = seen_file g.F.Files.bytes_of g.F.Files.faults c.args.files.now c.read_file.new.files c.args.source_name.now in
    let out : Sink = seen_sink g.O.Sink.held g.O.Sink.faults c.args.out.now c.write_whole.new.sink in
    let read : HasBytes source _ c.in_ok-source.source = record { told = c.in_ok-source.ensures.whole; within = c.in_ok-source.ensures.within } in
    let text : HasText c.in_ok-source.source c.in_ok-text.text = rw c.as_slice.ensures at c.in_ok-text.ensures in
    let whole = rw c.as_slice-2.ensures at c.in_ok-write_whole.ensures.whole in
    (c.in_ok-text.text, finds_text source out c.in_ok-source.source read c.in_ok-text.text text, whole)
