-- What a replay is answered.
use Rattle.std.specs.Prelude.{List, map, Option, None, Some, Result, Ok, Err}
use Rattle.sn_record.specs.declared.item.Item.{Item}
use Rattle.sn_net.specs.Item.{modelled}
use Rattle.sn_replay.specs.Replays.{Verdict, Replayed, BadLine, NotEnabled, Unfinished}
use Rattle.sn_replay.specs.declared.playing.TraceFault.{TraceFault}
use Rattle.sn_replay.specs.declared.playing.TraceFault.TheVariants as fault

-- the verdict that an answer tells, if it is not want of memory
abbrev pub verdict_of_fault : TraceFault → Option Verdict
verdict_of_fault (fault.BadLine n) = Some (BadLine n)
verdict_of_fault (fault.NotEnabled n) = Some (NotEnabled n)
verdict_of_fault fault.Unfinished = Some Unfinished
verdict_of_fault fault.Memory = None

abbrev pub verdict_of : Result (List Item) TraceFault → Option Verdict
verdict_of (Ok ys) = Some (Replayed (map modelled ys))
verdict_of (Err fault) = verdict_of_fault fault
