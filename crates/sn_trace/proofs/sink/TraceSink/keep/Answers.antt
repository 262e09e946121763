use Rattle.std.proofs.Common.{ap}
use Rattle.sn_trace_lines.specs.Lines.{text_of}
use Rattle.sn_trace.specs.Watching.{state}
use Rattle.sn_trace.proofs.Keeping.{drops}
use Rattle.sn_trace.proofs.sink.TraceSink.keep.Goals as goal

pub returns-then-is_err-clause-part : goal.returns-then-is_err-clause-part
returns-then-is_err-clause-part g c =
    drops (state g.S.Sink.held g.S.Sink.faults c.args.self.now) (state g.S.Sink.held g.S.Sink.faults c.forget.new.self) (text_of c.args.line)
    (ap (λ sink. g.S.Sink.held sink.now) c.forget.ensures.sink) c.forget.ensures.none
