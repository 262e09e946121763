use Rattle.sn_graph.proofs.Marking.{AreSent}
use Rattle.sn_graph.proofs.arena.Arena.send_marks.Given as goal

abbrev pub invariant-loop-k : goal.invariant-loop-k
invariant-loop-k l = AreSent l.entries l.k l.initial.self l.self
