use Rattle.std.proofs.Common.{subst, sym}
use Rattle.sn_graph.specs.Tabled.{IsTabled}
use Rattle.sn_graph.proofs.arena.Arena.happen.Goals as goal
use Rattle.sn_graph.proofs.arena.Arena.happen.Goals.{in-Take, in-Start, in-Local, in-Route, in-Unfold, in-Merge, in-Emit}

pub returns-clause-tabled : goal.returns-clause-tabled
returns-clause-tabled c = elim c.match-event.branch [
  | in-Take w ↦ subst IsTabled (sym w.self-is) w.happen_take-answer.ensures.tabled
  | in-Start w ↦ subst IsTabled (sym w.self-is) w.happen_start-answer.ensures.tabled
  | in-Local w ↦ subst IsTabled (sym w.self-is) w.happen_local-answer.ensures.tabled
  | in-Route w ↦ subst IsTabled (sym w.self-is) w.happen_route-answer.ensures.tabled
  | in-Unfold w ↦ subst IsTabled (sym w.self-is) w.happen_unfold-answer.ensures.tabled
  | in-Merge w ↦ subst IsTabled (sym w.self-is) w.happen_merge-answer.ensures.tabled
  | in-Emit w ↦ subst IsTabled (sym w.self-is) w.happen_emit-answer.ensures.tabled
]
