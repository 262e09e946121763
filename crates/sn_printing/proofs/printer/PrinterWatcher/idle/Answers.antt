use Rattle.sn_printing.specs.Watching.{waits}
use Rattle.sn_printing.proofs.printer.PrinterWatcher.idle.Goals as goal

pub returns : goal.returns
returns g c = λ graph. waits g.S.Sink.held g.S.Sink.faults graph c.args.self.now
