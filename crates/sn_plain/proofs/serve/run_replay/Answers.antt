use Rattle.std.proofs.Common.{refl, None, Some, subst, sym, ◌≡◌}
use Rattle.std.specs.Prelude.{IfSome}
use Rattle.std.proofs.lemmas.Result.{err_from_is_err_and}
use Rattle.sn_load.specs.Load.{limits_of}
use Rattle.sn_plain.specs.Ready.{IsReady}
use Rattle.sn_plain.specs.Seen.{File, Sink, seen_file, seen_sink}
use Rattle.sn_plain.proofs.Replayed.{finds_played, not_played, trace_unread, unplayed}
use Rattle.sn_plain.proofs.Serving.{HasBytes}
use Rattle.sn_plain.proofs.serve.run_replay.Goals as goal

pub returns-in_err-ready-clause-stopped : goal.returns-in_err-ready-clause-stopped
returns-in_err-ready-clause-stopped g c =
    let p = err_from_is_err_and c.from_residual.result c.from_residual.ensures.1 in
    let source : File = seen_file g.F.Files.bytes_of g.F.Files.faults c.args.files.now c.prepare.new.files c.args.source_name.now in
    let input : File = seen_file g.F.Files.bytes_of g.F.Files.faults c.args.files.now c.prepare.new.files c.args.input_name.now in
    let trace : File = seen_file g.F.Files.bytes_of g.F.Files.faults c.args.files.now c.prepare.new.files c.args.trace_name.now in
    let out : Sink = seen_sink g.O.Sink.held g.O.Sink.faults c.args.out.now c.args.out.now in
    rw (p.1, p.2) (unplayed (limits_of c.args.fuel c.args.depth) source input trace out refl c.in_err-ready.field-0.0 c.in_err-ready.ensures.stopped)

pub returns-in_err-text-clause-stopped : goal.returns-in_err-text-clause-stopped
returns-in_err-text-clause-stopped g c =
    let p = err_from_is_err_and c.from_residual-in_err-text.result c.from_residual-in_err-text.ensures.1 in
    let source : File = seen_file g.F.Files.bytes_of g.F.Files.faults c.args.files.now c.read_file.new.files c.args.source_name.now in
    let input : File = seen_file g.F.Files.bytes_of g.F.Files.faults c.args.files.now c.read_file.new.files c.args.input_name.now in
    let trace : File = seen_file g.F.Files.bytes_of g.F.Files.faults c.args.files.now c.read_file.new.files c.args.trace_name.now in
    let out : Sink = seen_sink g.O.Sink.held g.O.Sink.faults c.args.out.now c.args.out.now in
    let between : File = seen_file g.F.Files.bytes_of g.F.Files.faults c.prepare.new.files c.read_file.new.files c.args.trace_name.now in
    rw (p.1, p.2) (trace_unread (limits_of c.args.fuel c.args.depth) source input trace out c.in_ok-ready.ready c.in_ok-ready.ensures.ready refl between
    (c.prepare.ensures.same c.args.trace_name.now) (c.prepare.ensures.later c.args.trace_name.now) refl c.in_err-text.field-0.0 c.in_err-text.ensures.unread)

pub print_replay-requires-clause-formed : goal.print_replay-requires-clause-formed
print_replay-requires-clause-formed g c = rw c.into_inner.ensures c.in_ok-ready.ensures.formed

pub print_replay-requires-clause-typed : goal.print_replay-requires-clause-typed
print_replay-requires-clause-typed g c = rw c.into_inner.ensures c.in_ok-ready.ensures.typed

pub print_replay-requires-clause-short : goal.print_replay-requires-clause-short
print_replay-requires-clause-short g c = rw c.as_slice.ensures c.in_ok-text.ensures.within

pub returns-in_err-print_replay-clause-stopped : goal.returns-in_err-print_replay-clause-stopped
returns-in_err-print_replay-clause-stopped g c =
    let p = err_from_is_err_and c.from_residual-in_err-print_replay.result c.from_residual-in_err-print_replay.ensures.1 in
    let source : File = seen_file g.F.Files.bytes_of g.F.Files.faults c.args.files.now c.read_file.new.files c.args.source_name.now in
    let input : File = seen_file g.F.Files.bytes_of g.F.Files.faults c.args.files.now c.read_file.new.files c.args.input_name.now in
    let trace : File = seen_file g.F.Files.bytes_of g.F.Files.faults c.args.files.now c.read_file.new.files c.args.trace_name.now in
    let out : Sink = seen_sink g.O.Sink.held g.O.Sink.faults c.args.out.now c.print_replay.new.out in
    let ready : IsReady source.told input.told c.into_inner.result = subst (IsReady source.told input.told) (sym c.into_inner.ensures) c.in_ok-ready.ensures.ready in
    let has : HasBytes trace _ c.in_ok-text.text = record { told = subst (λ t. IfSome t (λ x. c.in_ok-text.text ≡ x)) (c.prepare.ensures.same c.args.trace_name.now) c.in_ok-text.ensures.whole; within = c.in_ok-text.ensures.within } in
    rw (p.1, p.2) (not_played (limits_of c.args.fuel c.args.depth) source input trace out c.into_inner.result ready c.in_ok-text.text has c.in_err-print_replay.field-0.0 (rw c.as_slice.ensures at c.in_err-print_replay.ensures.ended))

pub returns-in-None-clause-done : goal.returns-in-None-clause-done
returns-in-None-clause-done g c =
    let source : File = seen_file g.F.Files.bytes_of g.F.Files.faults c.args.files.now c.read_file.new.files c.args.source_name.now in
    let input : File = seen_file g.F.Files.bytes_of g.F.Files.faults c.args.files.now c.read_file.new.files c.args.input_name.now in
    let trace : File = seen_file g.F.Files.bytes_of g.F.Files.faults c.args.files.now c.read_file.new.files c.args.trace_name.now in
    let out : Sink = seen_sink g.O.Sink.held g.O.Sink.faults c.args.out.now c.print_replay.new.out in
    let ready : IsReady source.told input.told c.into_inner.result = subst (IsReady source.told input.told) (sym c.into_inner.ensures) c.in_ok-ready.ensures.ready in
    let has : HasBytes trace _ c.in_ok-text.text = record { told = subst (λ t. IfSome t (λ x. c.in_ok-text.text ≡ x)) (c.prepare.ensures.same c.args.trace_name.now) c.in_ok-text.ensures.whole; within = c.in_ok-text.ensures.within } in
    finds_played (limits_of c.args.fuel c.args.depth) source input trace out c.into_inner.result ready c.in_ok-text.text has c.in_ok-print_replay.field-0 None (rw c.as_slice.ensures at c.in_ok-print_replay.ensures.done) c.in-None.is

pub returns-clause-stopped : goal.returns-clause-stopped
returns-clause-stopped g c =
    let source : File = seen_file g.F.Files.bytes_of g.F.Files.faults c.args.files.now c.read_file.new.files c.args.source_name.now in
    let input : File = seen_file g.F.Files.bytes_of g.F.Files.faults c.args.files.now c.read_file.new.files c.args.input_name.now in
    let trace : File = seen_file g.F.Files.bytes_of g.F.Files.faults c.args.files.now c.read_file.new.files c.args.trace_name.now in
    let out : Sink = seen_sink g.O.Sink.held g.O.Sink.faults c.args.out.now c.print_replay.new.out in
    let ready : IsReady source.told input.told c.into_inner.result = subst (IsReady source.told input.told) (sym c.into_inner.ensures) c.in_ok-ready.ensures.ready in
    let has : HasBytes trace _ c.in_ok-text.text = record { told = subst (λ t. IfSome t (λ x. c.in_ok-text.text ≡ x)) (c.prepare.ensures.same c.args.trace_name.now) c.in_ok-text.ensures.whole; within = c.in_ok-text.ensures.within } in
    finds_played (limits_of c.args.fuel c.args.depth) source input trace out c.into_inner.result ready c.in_ok-text.text has c.in_ok-print_replay.field-0 (Some c.in-Some.fault) (rw c.as_slice.ensures at c.in_ok-print_replay.ensures.done) c.in-Some.is
