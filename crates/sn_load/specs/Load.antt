-- What the layers below the top calls give: programs, inputs and answers.
use Rattle.std.specs.Prelude.{◌≡◌, ℕ, IsTrue, List, map, not, slice_get, Option, Some, Ok, Err}
use Rattle.std.specs.List.{All, position}
use Rattle.std.specs.Option.{option_and_then}
use Rattle.sn_net.specs.Item.{ModelItem, Rec}
use Rattle.sn_net.specs.WellFormed.{FitsBoxes}
use Rattle.sn_model.specs.Meaning.{Setting, one_list}
use Rattle.sn_model.specs.Ranges.{IsWithin}
use Rattle.sn_model.specs.declared.run.TheConstants.{MOST_FUEL, MOST_REPLICAS}
use Rattle.sn_net.specs.declared.net.Claim.{Claim}
use Rattle.sn_net.specs.declared.expr.BoxProgram.{BoxProgram}
use Rattle.sn_net.specs.declared.net.Net.{Net}
use Rattle.sn_record.specs.Record.{Entries}
use Rattle.sn_typing.specs.Accepted.{IsAccepted}
use Rattle.sn_typing.specs.Typed.{IsTyped}
use Rattle.sn_input.specs.Reading.{ReadsFile}
use Rattle.sn_pieces.specs.Known.{is_known}
use Rattle.sn_pieces.specs.Lines.{is_of_type}
use Rattle.sn_stream_labels.specs.Known.{Knows}
use Rattle.sn_input.specs.declared.input.Input.{Input}
use Rattle.sn_input.specs.declared.input.InputFault.TheVariants as input_fault
use Rattle.sn_load.specs.declared.load.Program.{Program}
use Rattle.sn_stop.specs.declared.refusal.LineFault.{LineFault}
use Rattle.sn_stop.specs.declared.refusal.LineFault.TheVariants as line
use Rattle.sn_stop.specs.declared.refusal.Refusal.{Refusal}
use Rattle.sn_stop.specs.declared.refusal.Refusal.TheVariants as refusal
use Rattle.sn_stop.specs.declared.stop.Stop.{Stop}
use Rattle.sn_stop.specs.declared.stop.Stop.TheVariants as stop
use Rattle.sn_load.specs.Scope.{IsProgram}

-- the program is that of the source, and can be run; its names know the labels of its boxes and of its network
pub record IsLoaded (bytes : List ℕ) (program : Program) : Type 0 where
  pub main : IsProgram bytes program
  pub accepted : IsAccepted program.boxes program.claim
  pub formed : FitsBoxes program.boxes program.claim.net
  pub known : Knows (is_known program.names) program.boxes program.claim.net

-- What a command says of a run: the fuel of each call of a box, and how many replicas a star may have.
pub record Limits : Type 0 where
  pub fuel : ℕ
  pub depth : ℕ

abbrev pub limits_of : ℕ → ℕ → Limits
limits_of fuel depth = record { fuel = fuel; depth = depth }

-- they are in their ranges
pub record AreLimits (limits : Limits) : Type 0 where
  pub fuel : IsWithin limits.fuel MOST_FUEL
  pub depth : IsWithin limits.depth MOST_REPLICAS

-- what the network of a program is run with
abbrev pub setting : Program → Limits → Setting
setting program limits = record { boxes = program.boxes; fuel = limits.fuel; depth = limits.depth }

-- what the network of a program answers to the records of an input, on one thread
abbrev pub stream_of : Limits → Program → Input → List ModelItem
stream_of limits program input = one_list (setting program limits) program.claim.net (map Rec input.records)

-- the number of the line of the first record that is not of the claim's input type, where there is one
abbrev pub untyped_line : Claim → Input → Option ℕ
untyped_line claim input = option_and_then (slice_get input.lines) (position (λ r. not (is_of_type claim.input r)) input.records)

-- the bytes are a record file, each record of which is of the claim's input type
pub record IsTypedFile (names : List (List ℕ)) (claim : Claim) (bytes : List ℕ) (input : Input) : Type 0 where
  pub read : ReadsFile names bytes (Ok input)
  pub typed : All (λ r. IsTrue (is_of_type claim.input r)) input.records

-- the bytes are a record file, and a record is not of the claim's input type, the first at the line n
pub record HasUntyped (n : ℕ) (names : List (List ℕ)) (claim : Claim) (bytes : List ℕ) : Type 0 where
  pub input : Input
  pub read : ReadsFile names bytes (Ok input)
  pub first : untyped_line claim input ≡ Some n

-- the bytes are no record file of the input type, for a line that is wrong, or for want of room for names; no line of them is too long
abbrev pub HasWrongLine : LineFault → List (List ℕ) → Claim → List ℕ → Type 0
HasWrongLine (line.BadLine n) names claim bytes = ReadsFile names bytes (Err (input_fault.BadLine n))
HasWrongLine (line.Twice n kind name) names claim bytes = ReadsFile names bytes (Err (input_fault.Twice n kind name))
HasWrongLine (line.Untyped n) names claim bytes = HasUntyped n names claim bytes
HasWrongLine (line.TooMany n) names claim bytes = ReadsFile names bytes (Err (input_fault.TooMany n))
HasWrongLine (line.TooLong n) names claim bytes = ⊥

abbrev pub HasManyNames : List (List ℕ) → Claim → List ℕ → Type 0
HasManyNames names claim bytes = ReadsFile names bytes (Err input_fault.TooManyNames)

-- why an input gives a net no records to run on
abbrev pub WhyNoRecords : List (List ℕ) → Claim → List ℕ → Refusal → Type 0
WhyNoRecords names claim bytes (refusal.TooLarge which) = ⊥
WhyNoRecords names claim bytes (refusal.Source fault at) = ⊥
WhyNoRecords names claim bytes refusal.NoMain = ⊥
WhyNoRecords names claim bytes (refusal.TooDeep at) = ⊥
WhyNoRecords names claim bytes (refusal.LargeTree at) = ⊥
WhyNoRecords names claim bytes refusal.TooManyNames = HasManyNames names claim bytes
WhyNoRecords names claim bytes (refusal.IllTyped fault at variant) = ⊥
WhyNoRecords names claim bytes (refusal.Variants at) = ⊥
WhyNoRecords names claim bytes (refusal.Line fault) = HasWrongLine fault names claim bytes
WhyNoRecords names claim bytes (refusal.Trace fault) = ⊥

-- why reading an input stopped
abbrev pub WhyUnreadable : List (List ℕ) → Claim → List ℕ → Stop → Type 0
WhyUnreadable names claim bytes (stop.Refused refusal) = WhyNoRecords names claim bytes refusal
WhyUnreadable names claim bytes (stop.Faulted fault) = ⊥
WhyUnreadable names claim bytes (stop.Unread which) = ⊥
WhyUnreadable names claim bytes stop.Memory = Unit {0}
WhyUnreadable names claim bytes stop.Write = ⊥

-- each record is typed for the network; a fact with one proof alone
abbrev pub AreTypedRecords : List BoxProgram → Net → List Entries → Type 0
AreTypedRecords boxes net records = ∥ All (IsTyped boxes net) (map Rec records) ∥₁
