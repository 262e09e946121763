use Rattle.std.proofs.Common.{◌≡◌}
use Rattle.sn_jobs.specs.Queues.{IsDoneOf}
use Rattle.sn_workers.proofs.work.answer.Given as goal

abbrev pub invariant-loop : goal.invariant-loop
invariant-loop g l = record {
  ready : (goal.iterator-loop g).can_next l.iterator' × (goal.iterator-loop g).is_finite l.iterator';
  made : l.hand.made ≡ l.fn.hand.made;
  of_run : IsDoneOf l.fn.hand.made.run l.waiting;
}
