use Rattle.std.proofs.Common.{◌≡◌}
use Rattle.sn_tests.proofs.jobs.works_off.Given as goal

abbrev pub invariant-loop : goal.invariant-loop
invariant-loop g l = l.hand.made ≡ l.fn.hand.made
