use Rattle.std.proofs.Common.{◌≡◌, length}
use Rattle.sn_crew.proofs.slots.Slots.new.Given as goal

abbrev pub invariant-loop : goal.invariant-loop
invariant-loop g l = length l.shards.items ≡ l.counter
