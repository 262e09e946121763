use Rattle.sn_graph.proofs.Marking.{AreUnsent}
use Rattle.sn_graph.proofs.arena.Arena.unsend_marks.Given as goal

abbrev pub invariant-loop-k : goal.invariant-loop-k
invariant-loop-k l = AreUnsent l.entries l.fn.n l.k l.initial.self l.self

abbrev pub decreases-loop-k : goal.decreases-loop-k
decreases-loop-k l = l.k
