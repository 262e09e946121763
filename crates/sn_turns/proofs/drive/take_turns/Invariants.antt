use Rattle.sn_graph.specs.Graph.{IsGraphOf, seen}
use Rattle.sn_turns.specs.declared.turn.Turn.TheVariants.{Went}
use Rattle.sn_turns.proofs.drive.take_turns.Given as goal

abbrev pub invariant-loop : goal.invariant-loop
invariant-loop g l = record {
  ready : (goal.iterator-loop g).can_next l.iterator' × (goal.iterator-loop g).is_finite l.iterator';
  callers : g.C.Callers.are_of l.callers l.shared.run.now.value;
  of : IsGraphOf l.graph l.shared.run.now.value;
  goes : g.W.Watcher.goes (seen l.fn.graph) l.fn.watcher (seen l.graph) l.watcher Went;
}
