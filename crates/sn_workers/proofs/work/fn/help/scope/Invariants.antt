use Rattle.std.proofs.Common.{◌≡◌}
use Rattle.sn_workers.proofs.work.fn.help.scope.Given as goal

abbrev pub invariant-loop : goal.invariant-loop
invariant-loop g l = l.hand.made.run ≡ l.shared.now.run.now.value
