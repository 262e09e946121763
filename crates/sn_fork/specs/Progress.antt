-- What a turn of a fork comes to.
use Rattle.std.specs.Prelude.{◌≡◌, ◌<◌, ◌⊎◌, Bool, true, false, length, IsFalse, IsTrue, Option, None, Some}
use Rattle.sn_stream.specs.Ends.{WasEmpty, WasFull}
use Rattle.sn_component.specs.Moved.{is_done}
use Rattle.sn_component.specs.Outbox.{Ends}
use Rattle.sn_component.specs.declared.moved.Moved.{Moved}
use Rattle.sn_component.specs.declared.moved.Moved.TheVariants as moved
use Rattle.sn_fork.specs.Seen.{Forking}
use Rattle.sn_fork.specs.Turns.{ChildFull, Lacks, MovedIf, moves_of}
use Rattle.sn_fork.specs.declared.progress.Gave.{Gave}
use Rattle.sn_fork.specs.declared.progress.Progress.{Progress}
use Rattle.sn_fork.specs.declared.progress.Progress.TheVariants as progress
use Rattle.sn_fork.specs.declared.progress.Served.{Served}
use Rattle.sn_fork.specs.declared.progress.Served.TheVariants as served
use Rattle.sn_fork.specs.declared.progress.Stop.{Stop}
use Rattle.sn_fork.specs.declared.progress.Stop.TheVariants as stop

-- Something was got or put; or the way in was found empty, or the way out or that to a child full; or the end was put.
abbrev pub WentForking : Forking → Forking → Moved → Type 0
WentForking old new moved.Some = moves_of old < moves_of new
WentForking old new moved.Idle = WasEmpty new.input ⊎ (WasFull new.output ⊎ ChildFull new)
WentForking old new moved.Done = Ends new.output

-- It went so; or an item waits that has no child, and before something was got or put, or nothing has changed.
abbrev pub Proceeds : Forking → Forking → Progress → Type 0
Proceeds old new (progress.Moved m) = WentForking old new m
Proceeds old new (progress.Missing key some) = Lacks new key × MovedIf old new some

-- one round of what comes in: it goes on where something was got
abbrev pub TookOne : Forking → Forking → Option Progress → Type 0
TookOne old new None = moves_of old < moves_of new
TookOne old new (Some p) = Proceeds old new p

-- the first decision was served, by what is held to be put, or by an entry that came
abbrev pub ServedAs : Forking → Forking → Served → Type 0
ServedAs old new served.Nothing = new ≡ old
ServedAs old new served.Held = 0 < length new.held
ServedAs old new served.Got = moves_of old < moves_of new

abbrev pub StopsAs : Forking → Stop → Type 0
StopsAs new stop.Done = Ends new.output
StopsAs new stop.Full = WasFull new.output
StopsAs new stop.Rest = Unit {0}

-- Giving stopped so; something was got or put where it says so, and where it doesn't and there was nothing to give, nothing has changed.
pub record GaveAs (old new : Forking) (gave : Gave) : Type 0 where
  pub stops : StopsAs new gave.why
  pub some : IsTrue gave.some → moves_of old < moves_of new
  pub nothing : IsFalse gave.some → gave.why ≡ stop.Rest → new ≡ old

-- one round of giving: it goes on where something was got or put
abbrev pub GaveOne : Forking → Forking → Option Gave → Type 0
GaveOne old new None = moves_of old < moves_of new
GaveOne old new (Some gave) = GaveAs old new gave

-- giving stopped since the end was put
abbrev pub is_over : Stop → Bool
is_over stop.Done = true
is_over stop.Full = false
is_over stop.Rest = false

abbrev pub gave_last : Option Gave → Bool
gave_last None = false
gave_last (Some gave) = is_over gave.why

-- the turn put the end
abbrev pub is_finished : Progress → Bool
is_finished (progress.Moved m) = is_done m
is_finished (progress.Missing key some) = false

abbrev pub took_last : Option Progress → Bool
took_last None = false
took_last (Some p) = is_finished p
