use Rattle.std.proofs.Common.{refl, None, Some}
use Rattle.std.proofs.lemmas.Result.{err_from_is_err_and}
use Rattle.sn_io.specs.Told.{AppendsPrefix}
use Rattle.sn_sample.specs.Counts.{counts_of}
use Rattle.sn_sample.specs.Tally.{counts_line}
use Rattle.sn_sample.specs.Source.{source_text}
use Rattle.sn_load.specs.Load.{IsLoaded}
use Rattle.sn_plain.specs.Seen.{Sink, seen_sink}
use Rattle.sn_counts.proofs.Sampling.{finds_line, line_cut, not_counted, not_loaded, source_short}
use Rattle.sn_top.proofs.serve.run_sample.Goals as goal

pub load_source-requires : goal.load_source-requires
load_source-requires g c = rw c.sample_source.ensures source_short

pub returns-in_err-program-clause-stopped : goal.returns-in_err-program-clause-stopped
returns-in_err-program-clause-stopped g c =
    let p = err_from_is_err_and c.from_residual.result c.from_residual.ensures.1 in
    let out : Sink = seen_sink g.O.Sink.held g.O.Sink.faults c.args.out.now c.args.out.now in
    rw (p.1, p.2) (not_loaded c.args.number c.args.count out refl c.in_err-program.field-0.0 (rw c.sample_source.ensures at c.in_err-program.ensures.ended))

pub count_sample-requires-clause-formed : goal.count_sample-requires-clause-formed
count_sample-requires-clause-formed g c κs within = c.in_ok-program.ensures.loaded.formed

pub count_sample-requires-clause-accepted : goal.count_sample-requires-clause-accepted
count_sample-requires-clause-accepted g c κs within = c.in_ok-program.ensures.loaded.accepted

pub returns-in_err-tally-clause-stopped : goal.returns-in_err-tally-clause-stopped
returns-in_err-tally-clause-stopped g c =
    let p = err_from_is_err_and c.from_residual-in_err-tally.result c.from_residual-in_err-tally.ensures.1 in
    let out : Sink = seen_sink g.O.Sink.held g.O.Sink.faults c.args.out.now c.args.out.now in
    let program : IsLoaded source_text c.in_ok-program.program = rw c.sample_source.ensures at c.in_ok-program.ensures.loaded in
    rw (p.1, p.2) (not_counted c.args.number c.args.count out c.in_ok-program.program program refl c.in_err-tally.field-0.0 c.in_err-tally.ensures.ended)

pub returns-in_err-write_whole-clause-stopped : goal.returns-in_err-write_whole-clause-stopped
returns-in_err-write_whole-clause-stopped g c =
    let p = err_from_is_err_and c.from_residual-in_err-write_whole.result c.from_residual-in_err-write_whole.ensures.1 in
    let out : Sink = seen_sink g.O.Sink.held g.O.Sink.faults c.args.out.now c.write_whole.new.sink in
    let program : IsLoaded source_text c.in_ok-program.program = rw c.sample_source.ensures at c.in_ok-program.ensures.loaded in
    let part : AppendsPrefix out.before out.now (counts_line (counts_of c.in_ok-tally.tally)) = rw (c.as_slice.ensures, c.in_ok-push_line.ensures, c.new-line.ensures) at c.in_err-write_whole.ensures.part in
    rw (p.1, p.2) (line_cut c.args.number c.args.count out c.in_ok-program.program program (counts_of c.in_ok-tally.tally) c.in_ok-tally.fault c.in_ok-tally.ensures.counted part c.in_err-write_whole.ensures.cause.failed)

pub returns-in-None-clause-done : goal.returns-in-None-clause-done
returns-in-None-clause-done g c =
    let out : Sink = seen_sink g.O.Sink.held g.O.Sink.faults c.args.out.now c.write_whole.new.sink in
    let program : IsLoaded source_text c.in_ok-program.program = rw c.sample_source.ensures at c.in_ok-program.ensures.loaded in
    let wrote = rw (c.as_slice.ensures, c.in_ok-push_line.ensures, c.new-line.ensures) at c.in_ok-write_whole.ensures.whole in
    (counts_line (counts_of c.in_ok-tally.tally), finds_line c.args.number c.args.count out c.in_ok-program.program program (counts_of c.in_ok-tally.tally) c.in_ok-tally.fault c.in_ok-tally.ensures.counted None c.in-None.is, wrote)

pub returns-clause-stopped : goal.returns-clause-stopped
returns-clause-stopped g c =
    let out : Sink = seen_sink g.O.Sink.held g.O.Sink.faults c.args.out.now c.write_whole.new.sink in
    let program : IsLoaded source_text c.in_ok-program.program = rw c.sample_source.ensures at c.in_ok-program.ensures.loaded in
    let wrote = rw (c.as_slice.ensures, c.in_ok-push_line.ensures, c.new-line.ensures) at c.in_ok-write_whole.ensures.whole in
    (counts_line (counts_of c.in_ok-tally.tally), finds_line c.args.number c.args.count out c.in_ok-program.program program (counts_of c.in_ok-tally.tally) c.in_ok-tally.fault c.in_ok-tally.ensures.counted (Some c.in-Some.fault) c.in-Some.is, wrote)
