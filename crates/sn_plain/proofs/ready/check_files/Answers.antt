use Rattle.std.proofs.Common.{◌≡◌, refl, sym, ap, subst}
use Rattle.std.specs.Prelude.{IfSome}
use Rattle.std.proofs.lemmas.Result.{err_from_is_err_and}
use Rattle.sn_typing.specs.Accepted.{IsAccepted}
use Rattle.sn_plain.specs.Seen.{File, seen_file}
use Rattle.sn_load.specs.Load.{IsLoaded}
use Rattle.sn_plain.proofs.Serving.{source_unread, not_loaded, input_unread, not_read, is_ready, HasBytes}
use Rattle.sn_plain.proofs.ready.check_files.Goals as goal

pub returns-in_err-source-clause-stopped : goal.returns-in_err-source-clause-stopped
returns-in_err-source-clause-stopped g c =
    let p = err_from_is_err_and c.from_residual.result c.from_residual.ensures.1 in
    let source : File = seen_file g.F.Files.bytes_of g.F.Files.faults c.args.files.now c.read_file.new.files c.args.source_name.now in
    let input : File = seen_file g.F.Files.bytes_of g.F.Files.faults c.args.files.now c.read_file.new.files c.args.input_name.now in
    rw (p.1, p.2) (source_unread source input c.in_err-source.field-0.0 c.in_err-source.ensures.unread)

pub returns-in_err-program-clause-stopped : goal.returns-in_err-program-clause-stopped
returns-in_err-program-clause-stopped g c =
    let p = err_from_is_err_and c.from_residual-in_err-program.result c.from_residual-in_err-program.ensures.1 in
    let source : File = seen_file g.F.Files.bytes_of g.F.Files.faults c.args.files.now c.read_file.new.files c.args.source_name.now in
    let input : File = seen_file g.F.Files.bytes_of g.F.Files.faults c.args.files.now c.read_file.new.files c.args.input_name.now in
    let read : HasBytes source _ c.in_ok-source.source = record { told = c.in_ok-source.ensures.whole; within = c.in_ok-source.ensures.within } in
    rw (p.1, p.2) (not_loaded source input c.in_ok-source.source read c.in_err-program.field-0.0 (rw c.as_slice.ensures at c.in_err-program.ensures.ended))

pub returns-in_err-input-clause-stopped : goal.returns-in_err-input-clause-stopped
returns-in_err-input-clause-stopped g c =
    let p = err_from_is_err_and c.from_residual-in_err-input.result c.from_residual-in_err-input.ensures.1 in
    let source : File = seen_file g.F.Files.bytes_of g.F.Files.faults c.args.files.now c.read_file-2.new.files c.args.source_name.now in
    let input : File = seen_file g.F.Files.bytes_of g.F.Files.faults c.args.files.now c.read_file-2.new.files c.args.input_name.now in
    let read : HasBytes source _ c.in_ok-source.source = record { told = c.in_ok-source.ensures.whole; within = c.in_ok-source.ensures.within } in
    let program : IsLoaded c.in_ok-source.source c.in_ok-program.program = rw c.as_slice.ensures at c.in_ok-program.ensures.loaded in
    let between : File = seen_file g.F.Files.bytes_of g.F.Files.faults c.read_file.new.files c.read_file-2.new.files c.args.input_name.now in
    rw (p.1, p.2) (input_unread source input c.in_ok-source.source read c.in_ok-program.program program between
    (c.read_file.ensures.same c.args.input_name.now) (c.read_file.ensures.later c.args.input_name.now) refl c.in_err-input.field-0.0 c.in_err-input.ensures.unread)

pub returns-in_err-records-clause-stopped : goal.returns-in_err-records-clause-stopped
returns-in_err-records-clause-stopped g c =
    let p = err_from_is_err_and c.from_residual-in_err-records.result c.from_residual-in_err-records.ensures.1 in
    let source : File = seen_file g.F.Files.bytes_of g.F.Files.faults c.args.files.now c.read_file-2.new.files c.args.source_name.now in
    let input : File = seen_file g.F.Files.bytes_of g.F.Files.faults c.args.files.now c.read_file-2.new.files c.args.input_name.now in
    let read : HasBytes source _ c.in_ok-source.source = record { told = c.in_ok-source.ensures.whole; within = c.in_ok-source.ensures.within } in
    let program : IsLoaded c.in_ok-source.source c.into_inner-names.result = subst (λ p. IsLoaded c.in_ok-source.source p) (sym c.into_inner-names.ensures) (rw c.as_slice.ensures at c.in_ok-program.ensures.loaded) in
    let has : HasBytes input _ c.in_ok-input.input = record { told = subst (λ t. IfSome t (λ x. c.in_ok-input.input ≡ x)) (c.read_file.ensures.same c.args.input_name.now) c.in_ok-input.ensures.whole; within = c.in_ok-input.ensures.within } in
    rw (p.1, p.2) (not_read source input c.in_ok-source.source read c.into_inner-names.result program c.in_ok-input.input has c.in_err-records.field-0.0 (rw c.as_slice-2.ensures at c.in_err-records.ensures.ended))

pub returns-clause-ready : goal.returns-clause-ready
returns-clause-ready g c =
    let source : File = seen_file g.F.Files.bytes_of g.F.Files.faults c.args.files.now c.read_file-2.new.files c.args.source_name.now in
    let input : File = seen_file g.F.Files.bytes_of g.F.Files.faults c.args.files.now c.read_file-2.new.files c.args.input_name.now in
    let read : HasBytes source _ c.in_ok-source.source = record { told = c.in_ok-source.ensures.whole; within = c.in_ok-source.ensures.within } in
    let program : IsLoaded c.in_ok-source.source c.into_inner-names.result = subst (λ p. IsLoaded c.in_ok-source.source p) (sym c.into_inner-names.ensures) (rw c.as_slice.ensures at c.in_ok-program.ensures.loaded) in
    let has : HasBytes input _ c.in_ok-input.input = record { told = subst (λ t. IfSome t (λ x. c.in_ok-input.input ≡ x)) (c.read_file.ensures.same c.args.input_name.now) c.in_ok-input.ensures.whole; within = c.in_ok-input.ensures.within } in
    let made = c.into_inner-boxes.ensures in
    is_ready source input c.in_ok-source.source read c.into_inner-names.result program c.in_ok-input.input has c.in_ok-records.field-0 (rw c.as_slice-2.ensures at c.in_ok-records.ensures.read) _
    (ap (λ (x : _). x.1.net) made) (ap (λ (x : _). x.0) made) refl refl

pub returns-clause-formed : goal.returns-clause-formed
returns-clause-formed g c = rw (c.into_inner-boxes.ensures, c.into_inner-names.ensures) c.in_ok-program.ensures.loaded.formed

pub returns-clause-accepted : goal.returns-clause-accepted
returns-clause-accepted g c = rw (c.into_inner-boxes.ensures, c.into_inner-names.ensures) c.in_ok-program.ensures.loaded.accepted

pub returns-clause-of_type : goal.returns-clause-of_type
returns-clause-of_type g c = rw c.into_inner-boxes.ensures c.in_ok-records.ensures.read.typed

pub returns-clause-typed : goal.returns-clause-typed
returns-clause-typed g c =
    let accepted : IsAccepted c.into_inner-names.result.boxes c.into_inner-names.result.claim = rw c.into_inner-names.ensures c.in_ok-program.ensures.loaded.accepted in
    rw c.into_inner-boxes.ensures (c.in_ok-records.ensures.typed c.into_inner-names.result.boxes accepted)
