use Rattle.std.proofs.Common.{arith, ◌∙◌}
use Rattle.sn_graph.specs.Event.{happening_of}
use Rattle.sn_graph.specs.Graph.{seen}
use Rattle.drive.specs.declared.driving.TheConstants.{MOST_EVENTS}
use Rattle.drive.proofs.Driven.{still_few}
use Rattle.drive.proofs.driving.Drive.apply_once.Goals as goal

pub invariant_of-self-2 : goal.invariant_of-self-2
invariant_of-self-2 c = record {
  of = c.apply.ensures.of ∙ c.deref.ensures;
  few =
      still_few MOST_EVENTS (seen c.args.self.now.graph) (seen c.apply.new.self) (happening_of c.args.event) c.apply.result c.apply.ensures.next c.apply.ensures.unchanged
      (omega (arith, c.applied.ensures, c.if-applied-ge-MOST_EVENTS.false));
  allowed = λ ys may. c.args.self.now.allowed ys (c.apply.ensures.before ys may);
  begun = c.args.self.now.begun;
}
