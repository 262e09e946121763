use Rattle.sn_graph.specs.declared.event.Effect.TheVariants as effect
use Rattle.sn_printing.proofs.Telling.{emitted}
use Rattle.sn_printing.proofs.printer.PrinterWatcher.tell.Goals as goal

pub returns-in-Out : goal.returns-in-Out
returns-in-Out g c old new came = record {
  turns = c.write.ensures.goes old new (emitted c.args._line old new c.args.effect.now (effect.Out c.in-Out.item) c.in-Out.is came);
  names = c.write.ensures.names;
  same_sink = c.write.ensures.same_sink;
}
