use Rattle.std.proofs.Common.{refl, None, Some}
use Rattle.std.proofs.lemmas.Result.{err_from_is_err_and}
use Rattle.sn_load.specs.Load.{IsLoaded, limits_of}
use Rattle.sn_plain.specs.Seen.{File, Sink, seen_file, seen_sink}
use Rattle.sn_plain.proofs.FedFiles.{feed_not_loaded, feed_printed, feed_stopped, feed_unread}
use Rattle.sn_plain.proofs.Serving.{HasBytes}
use Rattle.sn_plain.proofs.serve.run_feed.Goals as goal

pub returns-in_err-source-clause-stopped : goal.returns-in_err-source-clause-stopped
returns-in_err-source-clause-stopped g c =
    let p = err_from_is_err_and c.from_residual.result c.from_residual.ensures.1 in
    let source : File = seen_file g.F.Files.bytes_of g.F.Files.faults c.args.files.now c.read_file.new.files c.args.source_name.now in
    let input : File = seen_file g.F.Files.bytes_of g.F.Files.faults c.args.files.now c.read_file.new.files c.args.input_name.now in
    let out : Sink = seen_sink g.O.Sink.held g.O.Sink.faults c.args.out.now c.args.out.now in
    rw (p.1, p.2) (feed_unread (limits_of c.args.fuel c.args.depth) source input out refl c.in_err-source.field-0.0 c.in_err-source.ensures.unread)

pub returns-in_err-program-clause-stopped : goal.returns-in_err-program-clause-stopped
returns-in_err-program-clause-stopped g c =
    let p = err_from_is_err_and c.from_residual-in_err-program.result c.from_residual-in_err-program.ensures.1 in
    let source : File = seen_file g.F.Files.bytes_of g.F.Files.faults c.args.files.now c.read_file.new.files c.args.source_name.now in
    let input : File = seen_file g.F.Files.bytes_of g.F.Files.faults c.args.files.now c.read_file.new.files c.args.input_name.now in
    let out : Sink = seen_sink g.O.Sink.held g.O.Sink.faults c.args.out.now c.args.out.now in
    let read : HasBytes source _ c.in_ok-source.source = record { told = c.in_ok-source.ensures.whole; within = c.in_ok-source.ensures.within } in
    rw (p.1, p.2) (feed_not_loaded (limits_of c.args.fuel c.args.depth) source input out c.in_ok-source.source read refl c.in_err-program.field-0.0 (rw c.as_slice.ensures at c.in_err-program.ensures.ended))

pub returns-in_err-feed_program-clause-stopped : goal.returns-in_err-feed_program-clause-stopped
returns-in_err-feed_program-clause-stopped g c =
    let p = err_from_is_err_and c.from_residual-in_err-feed_program.result c.from_residual-in_err-feed_program.ensures.1 in
    let source : File = seen_file g.F.Files.bytes_of g.F.Files.faults c.args.files.now c.feed_program.new.files c.args.source_name.now in
    let input : File = seen_file g.F.Files.bytes_of g.F.Files.faults c.args.files.now c.feed_program.new.files c.args.input_name.now in
    let between : File = seen_file g.F.Files.bytes_of g.F.Files.faults c.read_file.new.files c.feed_program.new.files c.args.input_name.now in
    let out : Sink = seen_sink g.O.Sink.held g.O.Sink.faults c.args.out.now c.feed_program.new.out in
    let read : HasBytes source _ c.in_ok-source.source = record { told = c.in_ok-source.ensures.whole; within = c.in_ok-source.ensures.within } in
    let loaded : IsLoaded c.in_ok-source.source c.in_ok-program.program = rw c.as_slice.ensures at c.in_ok-program.ensures.loaded in
    rw (p.1, p.2) (feed_stopped (limits_of c.args.fuel c.args.depth) source input out c.in_ok-source.source read c.in_ok-program.program loaded between
    (c.read_file.ensures.same c.args.input_name.now) (c.read_file.ensures.later c.args.input_name.now) refl c.in_err-feed_program.field-0.0 c.in_err-feed_program.ensures.stopped)

pub returns-in-None-clause-done : goal.returns-in-None-clause-done
returns-in-None-clause-done g c =
    let source : File = seen_file g.F.Files.bytes_of g.F.Files.faults c.args.files.now c.feed_program.new.files c.args.source_name.now in
    let input : File = seen_file g.F.Files.bytes_of g.F.Files.faults c.args.files.now c.feed_program.new.files c.args.input_name.now in
    let between : File = seen_file g.F.Files.bytes_of g.F.Files.faults c.read_file.new.files c.feed_program.new.files c.args.input_name.now in
    let out : Sink = seen_sink g.O.Sink.held g.O.Sink.faults c.args.out.now c.feed_program.new.out in
    let read : HasBytes source _ c.in_ok-source.source = record { told = c.in_ok-source.ensures.whole; within = c.in_ok-source.ensures.within } in
    let loaded : IsLoaded c.in_ok-source.source c.in_ok-program.program = rw c.as_slice.ensures at c.in_ok-program.ensures.loaded in
    feed_printed (limits_of c.args.fuel c.args.depth) source input out c.in_ok-source.source read c.in_ok-program.program loaded between
    (c.read_file.ensures.same c.args.input_name.now) (c.read_file.ensures.later c.args.input_name.now) refl c.in_ok-feed_program.field-0 None c.in_ok-feed_program.ensures.done c.in-None.is

pub returns-clause-stopped : goal.returns-clause-stopped
returns-clause-stopped g c =
    let source : File = seen_file g.F.Files.bytes_of g.F.Files.faults c.args.files.now c.feed_program.new.files c.args.source_name.now in
    let input : File = seen_file g.F.Files.bytes_of g.F.Files.faults c.args.files.now c.feed_program.new.files c.args.input_name.now in
    let between : File = seen_file g.F.Files.bytes_of g.F.Files.faults c.read_file.new.files c.feed_program.new.files c.args.input_name.now in
    let out : Sink = seen_sink g.O.Sink.held g.O.Sink.faults c.args.out.now c.feed_program.new.out in
    let read : HasBytes source _ c.in_ok-source.source = record { told = c.in_ok-source.ensures.whole; within = c.in_ok-source.ensures.within } in
    let loaded : IsLoaded c.in_ok-source.source c.in_ok-program.program = rw c.as_slice.ensures at c.in_ok-program.ensures.loaded in
    feed_printed (limits_of c.args.fuel c.args.depth) source input out c.in_ok-source.source read c.in_ok-program.program loaded between
    (c.read_file.ensures.same c.args.input_name.now) (c.read_file.ensures.later c.args.input_name.now) refl c.in_ok-feed_program.field-0 (Some c.in-Some.fault) c.in_ok-feed_program.ensures.done c.in-Some.is
