use Rattle.std.proofs.Common.{◌≡◌}
use Rattle.sn_net.specs.BoxEvaluation.{evaluated}
use Rattle.sn_boxrun.specs.Machine.{outcome_from, progress_of, under, variables_of, work}
use Rattle.sn_boxrun.proofs.machine.Machine.run.Given as goal

abbrev pub invariant-loop-next : goal.invariant-loop-next
invariant-loop-next l =
    let m = l.initial.self in
    outcome_from l.self l.turn ≡ under m (evaluated m.program.now l.body (variables_of m) (progress_of m))

abbrev pub decreases-loop-next : goal.decreases-loop-next
decreases-loop-next l = work l.self l.turn
