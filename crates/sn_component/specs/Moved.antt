-- How a turn went.
use Rattle.std.specs.Prelude.{length, ◌<◌, ◌⊎◌, Bool, true, false, Option, None, Some}
use Rattle.sn_stream.specs.Ends.{WasEmpty, WasFull}
use Rattle.sn_component.specs.declared.moved.Moved.{Moved}
use Rattle.sn_component.specs.declared.moved.Moved.TheVariants as moved
use Rattle.sn_component.specs.Outbox.{Ends}
use Rattle.sn_component.specs.Seen.{Sourcing, Working, moves_of}

-- Something was got or put; or the way in was found empty or the way out full; or the end was put.
abbrev pub WentWorking : Working → Working → Moved → Type 0
WentWorking old new moved.Some = moves_of old < moves_of new
WentWorking old new moved.Idle = WasEmpty new.input ⊎ WasFull new.output
WentWorking old new moved.Done = Ends new.output

-- one round of a turn: it goes on where something was got
abbrev pub RoundOf : Working → Working → Option Moved → Type 0
RoundOf old new None = moves_of old < moves_of new
RoundOf old new (Some m) = WentWorking old new m

-- the same of the source
abbrev pub WentSourcing : Sourcing → Sourcing → Moved → Type 0
WentSourcing old new moved.Some = length old.output.moved < length new.output.moved
WentSourcing old new moved.Idle = WasFull new.output
WentSourcing old new moved.Done = Ends new.output

abbrev pub SourceRound : Sourcing → Sourcing → Option Moved → Type 0
SourceRound old new None = length old.output.moved < length new.output.moved
SourceRound old new (Some m) = WentSourcing old new m

-- the turn, or the round, passed on the end
abbrev pub is_done : Moved → Bool
is_done moved.Some = false
is_done moved.Idle = false
is_done moved.Done = true

abbrev pub is_last : Option Moved → Bool
is_last None = false
is_last (Some m) = is_done m
