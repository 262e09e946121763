use Rattle.std.proofs.Common.{take}
use Rattle.sn_input.specs.Numbered.{with_entries}
use Rattle.sn_input.proofs.Rooms.{Counts}
use Rattle.sn_input.proofs.room.count_new.Given as goal

abbrev pub invariant-loop-entry : goal.invariant-loop-entry
invariant-loop-entry l = Counts l.names l.fresh (with_entries l.names (take l.entry-index l.entries))
