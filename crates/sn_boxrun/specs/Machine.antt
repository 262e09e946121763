-- What is left to do in a machine that runs a box.
use Rattle.std.specs.Prelude.{◌≡◌, ℕ, ◌+◌, ◌*◌, length, List, [], ◌∷◌, ◌++◌, take, slice_get, Result, Ok, Err}
use Rattle.sn_record.specs.declared.value.Value.{Value}
use Rattle.sn_record.specs.declared.value.Value.TheVariants.{«List» as ListOf}
use Rattle.sn_net.specs.declared.expr.BoxProgram.{BoxProgram}
use Rattle.sn_net.specs.declared.expr.Expr.{Expr}
use Rattle.sn_net.specs.BoxValues.{built_in, combined, fitting, negative, opposite, truth_of}
use Rattle.sn_net.specs.BoxEvaluation.{Outcome, Outcome.{Gives, Faults}, Progress, after_and, after_if, after_or, all_values, called, emitting, ended, evaluated, followed, last_value, right_part}
use Rattle.sn_box_values.specs.declared.datum.Datum.{Datum}
use Rattle.sn_box_values.specs.declared.outcome.Stop.{Stop}
use Rattle.sn_box_values.specs.declared.outcome.Stop.TheVariants as stop
use Rattle.sn_box_values.specs.Datum.{value_of, values_of}
use Rattle.sn_boxrun.specs.declared.frame.Frame.{Frame}
use Rattle.sn_boxrun.specs.declared.frame.Frame.TheVariants as frame
use Rattle.sn_boxrun.specs.declared.frame.Purpose.{Purpose}
use Rattle.sn_boxrun.specs.declared.frame.Purpose.TheVariants as purpose
use Rattle.sn_boxrun.specs.declared.frame.Next.{Next}
use Rattle.sn_boxrun.specs.declared.frame.Next.TheVariants as next
use Rattle.sn_boxrun.specs.declared.frame.Turn.{Turn}
use Rattle.sn_boxrun.specs.declared.frame.Turn.TheVariants as turn
use Rattle.sn_boxrun.specs.declared.machine.Machine.{Machine}

-- what comes of the values of all parts
abbrev pub used : BoxProgram → Purpose → List Value → Progress → Outcome Value
used program purpose.«List» values = ended (fitting (ListOf values))
used program (purpose.Call number) values = called (evaluated program) (slice_get program.funs number) values
used program (purpose.BuiltIn function) values = ended (built_in function values)
used program (purpose.Emit number) values = emitting (slice_get program.outputs number) values

-- the parts still to come, and then what comes of all values
abbrev pub gathered : BoxProgram → Purpose → List Expr → List Value → List Value → Progress → Outcome Value
gathered program purpose parts variables values progress =
    followed (all_values (evaluated program) parts variables values progress) (used program purpose)

-- what a frame does with the value that it waits for
abbrev pub awaited : BoxProgram → Frame → List Value → Value → Progress → Outcome Value
awaited program frame.Neg variables v = ended (negative v)
awaited program frame.Not variables v = ended (opposite v)
awaited program (frame.Left op part) variables v = right_part (evaluated program) op part.now variables v
awaited program (frame.Right op left) variables v = ended (combined op (value_of left) v)
awaited program (frame.And part) variables v = after_and (evaluated program) part.now variables v
awaited program (frame.Or part) variables v = after_or (evaluated program) part.now variables v
awaited program frame.Truth variables v = ended (truth_of v)
awaited program (frame.If one other) variables v = after_if (evaluated program) one.now other.now variables v
awaited program (frame.Let rest) variables v = evaluated program rest.now (variables ++ v ∷ [])
awaited program (frame.LetEnd count) variables v = Gives v
awaited program (frame.Sequence parts) variables v = last_value (evaluated program) parts.now variables v
awaited program (frame.Parts purpose parts values) variables v = gathered program purpose parts.now variables (values_of values.items ++ v ∷ [])
awaited program (frame.Return caller) variables v = Gives v

-- the variables where the frames below it go on
abbrev pub variables_below : Frame → List Value → List Value
variables_below (frame.LetEnd count) variables = take count variables
variables_below (frame.Return caller) variables = values_of caller.items
variables_below frame variables = variables

-- what becomes of a value: each frame takes it in turn, the top first
abbrev pub resumed : BoxProgram → List Frame → List Value → Value → Progress → Outcome Value
resumed program [] variables v progress = Gives v progress
resumed program (frame ∷ frames) variables v progress =
    followed (awaited program frame variables v progress) (resumed program frames (variables_below frame variables))

abbrev pub progress_of : Machine → Progress
progress_of machine = record { fuel = machine.fuel; emitted = machine.emitted }

abbrev pub variables_of : Machine → List Value
variables_of machine = values_of machine.variables.items

-- how the machine's run ends after a part, for whose outcome a frame waits
abbrev pub awaiting : Machine → Frame → Outcome Value → Outcome Value
awaiting machine frame outcome =
    followed (followed outcome (awaited machine.program.now frame (variables_of machine))) (resumed machine.program.now machine.frames (variables_below frame (variables_of machine)))

-- how the machine's run ends after an outcome
abbrev pub under : Machine → Outcome Value → Outcome Value
under machine outcome = followed outcome (resumed machine.program.now machine.frames (variables_of machine))

-- how the machine's run ends from a turn on
abbrev pub outcome_from : Machine → Turn → Outcome Value
outcome_from machine (turn.Evaluate e) = under machine (evaluated machine.program.now e.now (variables_of machine) (progress_of machine))
outcome_from machine (turn.Resume datum) = resumed machine.program.now machine.frames (variables_of machine) (value_of datum) (progress_of machine)

-- a step leaves how the run ends as it was, unless memory was wanted
abbrev pub Goes : Outcome Value → Machine → Result Turn Stop → Type 0
Goes whole machine (Ok turn) = outcome_from machine turn ≡ whole
Goes whole machine (Err (stop.Faulted fault)) = whole ≡ Faults fault machine.emitted
Goes whole machine (Err stop.Memory) = Unit {0}

-- a turn leaves how the run ends as it was, or ends it, unless memory was wanted
abbrev pub Steps : Outcome Value → Machine → Result Next Stop → Type 0
Steps whole machine (Ok (next.Turn turn)) = outcome_from machine turn ≡ whole
Steps whole machine (Ok (next.Value datum)) = whole ≡ Gives (value_of datum) (progress_of machine)
Steps whole machine (Err (stop.Faulted fault)) = whole ≡ Faults fault machine.emitted
Steps whole machine (Err stop.Memory) = Unit {0}

-- so the run ends, unless memory was wanted
abbrev pub Ends : Outcome Value → Machine → Result Datum Stop → Type 0
Ends whole machine (Ok datum) = whole ≡ Gives (value_of datum) (progress_of machine)
Ends whole machine (Err (stop.Faulted fault)) = whole ≡ Faults fault machine.emitted
Ends whole machine (Err stop.Memory) = Unit {0}

-- how much is left to do at most, before the next turn: a node and the frame that it may leave for each unit of fuel, and the frames
abbrev pub room : Machine → ℕ
room machine = 2 * machine.fuel + length machine.frames

-- how much is left to do at most, with the next turn
abbrev pub work : Machine → Turn → ℕ
work machine (turn.Evaluate e) = room machine
work machine (turn.Resume datum) = room machine + 1

abbrev pub remaining : Machine → Next → ℕ
remaining machine (next.Turn turn) = work machine turn
remaining machine (next.Value datum) = 0
