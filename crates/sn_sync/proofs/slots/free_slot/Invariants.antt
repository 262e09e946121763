use Rattle.std.proofs.Common.{◌≡◌}
use Rattle.sn_net.specs.Cell.{with_record}
use Rattle.sn_sync.proofs.Filling.{from_place}
use Rattle.sn_sync.proofs.slots.free_slot.Given as goal

abbrev pub invariant-loop-place : goal.invariant-loop-place
invariant-loop-place l = with_record l.patterns l.slots l.r ≡ from_place l.patterns l.slots l.r l.place
