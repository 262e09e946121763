use Rattle.sn_trace.specs.Watching.{state}
use Rattle.sn_trace.proofs.Keeping.{ends_unwritten, ends_written}
use Rattle.sn_trace.proofs.sink.TraceSink.end.Goals as goal

pub returns-in-Ok-clause-ends : goal.returns-in-Ok-clause-ends
returns-in-Ok-clause-ends g c = λ first last before goes.
    ends_written first last before (state g.S.Sink.held g.S.Sink.faults c.args.self.now) (state g.S.Sink.held g.S.Sink.faults c.flush.new.self) c.args.outcome c.in-Ok.ensures.cause.later c.in-Ok.ensures.whole goes

pub returns-in-Err-clause-ends : goal.returns-in-Err-clause-ends
returns-in-Err-clause-ends g c = λ first last before goes.
    ends_unwritten first last before (state g.S.Sink.held g.S.Sink.faults c.args.self.now) (state g.S.Sink.held g.S.Sink.faults c.flush.new.self) c.args.outcome c.in-Err.ensures.cause.later c.in-Err.ensures.cause.failed
    c.in-Err.ensures.part goes
