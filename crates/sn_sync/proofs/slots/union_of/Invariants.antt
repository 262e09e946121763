use Rattle.std.proofs.Common.{◌≡◌}
use Rattle.sn_net.specs.Cell.{union}
use Rattle.sn_sync.specs.Slotted.{held_records}
use Rattle.sn_sync.proofs.Unions.{with_rest}
use Rattle.sn_sync.proofs.slots.union_of.Given as goal

abbrev pub invariant-loop-slot : goal.invariant-loop-slot
invariant-loop-slot l = with_rest l.both l.slots l.slot-index ≡ union (held_records l.slots)
