use Rattle.std.proofs.Common.{◌≡◌}
use Rattle.sn_stream.proofs.sending.receive.Given as goal

abbrev pub invariant-loop : goal.invariant-loop
invariant-loop g l = record {
  ready : (goal.iterator-loop g).can_next l.iterator' × (goal.iterator-loop g).is_finite l.iterator';
  unchanged : l.get ≡ l.initial.get;
}
