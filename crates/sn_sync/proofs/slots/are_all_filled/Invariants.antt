use Rattle.std.proofs.Common.{◌≡◌}
use Rattle.sn_net.specs.Cell.{all_held}
use Rattle.sn_sync.proofs.Filling.{all_from}
use Rattle.sn_sync.proofs.slots.are_all_filled.Given as goal

abbrev pub invariant-loop-slot : goal.invariant-loop-slot
invariant-loop-slot l = all_held l.slots ≡ all_from l.slots l.slot-index
