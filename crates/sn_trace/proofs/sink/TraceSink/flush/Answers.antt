use Rattle.std.proofs.Common.{ap, ◌∙◌}
use Rattle.std.proofs.lemmas.Result.{on_err_weaker, on_ok_weaker}
use Rattle.sn_io.specs.Told.{appended}
use Rattle.sn_trace.specs.Watching.{state}
use Rattle.sn_trace.proofs.Keeping.{prefix_same, writes, writes_some}
use Rattle.sn_trace.proofs.sink.TraceSink.flush.Goals as goal

pub returns-clause-whole : goal.returns-clause-whole
returns-clause-whole g c =
    on_ok_weaker c.write_whole-written.result
    (λ held. writes (state g.S.Sink.held g.S.Sink.faults c.args.self.now) (state g.S.Sink.held g.S.Sink.faults c.forget.new.self)
    (ap (λ sink. g.S.Sink.held sink.now) c.forget.ensures.sink ∙ held ∙ ap (appended (g.S.Sink.held c.args.self.now.sink.now)) c.as_slice.ensures) c.forget.ensures.none)
    c.write_whole-written.ensures.whole

pub returns-clause-part : goal.returns-clause-part
returns-clause-part g c =
    on_err_weaker c.write_whole-written.result
    (λ part. writes_some (state g.S.Sink.held g.S.Sink.faults c.args.self.now) (state g.S.Sink.held g.S.Sink.faults c.forget.new.self)
    (prefix_same _ _ _ _ _ (ap (λ sink. g.S.Sink.held sink.now) c.forget.ensures.sink) c.as_slice.ensures part) c.forget.ensures.none)
    c.write_whole-written.ensures.part
