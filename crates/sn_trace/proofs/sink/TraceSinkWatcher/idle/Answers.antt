use Rattle.sn_trace.specs.Watching.{waits, waits_no_more}
use Rattle.sn_trace.proofs.sink.TraceSinkWatcher.idle.Goals as goal

pub returns-in-Ok : goal.returns-in-Ok
returns-in-Ok g c = λ graph.
    waits g.S.Sink.held g.S.Sink.faults graph c.args.self.now c.flush.new.self c.in-Ok.ensures.whole c.in-Ok.ensures.cause.later c.flush.ensures.same_sink

pub returns-in-Err : goal.returns-in-Err
returns-in-Err g c = λ graph.
    waits_no_more g.S.Sink.held g.S.Sink.faults graph c.args.self.now c.flush.new.self c.in-Err.ensures.part c.in-Err.ensures.cause.later c.in-Err.ensures.cause.failed c.flush.ensures.same_sink
