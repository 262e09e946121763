-- A source and an input that passed all checks.
use Rattle.std.specs.Prelude.{◌≡◌, ◌≤◌, ℕ, List, length, Option, IfSome}
use Rattle.sn_input.specs.declared.input.Input.{Input as RecordFile}
use Rattle.sn_model.specs.Meaning.{Setting}
use Rattle.sn_load.specs.declared.load.Program.{Program}
use Rattle.sn_plain.specs.declared.ready.Checked.{Checked}
use Rattle.sn_plain.specs.declared.ready.Ready.{Ready}
use Rattle.sn_plain.specs.Runs.{Printout, WithWorkers}
use Rattle.sn_load.specs.declared.load.TheConstants.{INPUT_LIMIT}
use Rattle.sn_stop.specs.declared.stop.Stop.{Stop}
use Rattle.sn_stop.specs.declared.stop.Stop.TheVariants as stop
use Rattle.sn_plain.specs.Answer.{IsAccepted, IsRefused, IsUnread}
use Rattle.sn_load.specs.Load.{IsTypedFile, Limits}
use Rattle.sn_plain.specs.Seen.{File}

-- The network of a source's program with its boxes, and the records of an input of its input type with the names of their labels. The
-- bytes of both are within their limits, where they are told.
pub record IsReady (source input : Option (List ℕ)) (ready : Ready) : Type 0 where
  pub program : Program
  pub file : RecordFile
  pub accepted : IfSome source (λ bytes. IsAccepted bytes program)
  pub typed : IfSome input (λ more. (length more ≤ INPUT_LIMIT) × IsTypedFile program.names program.claim more file)
  pub net_is : ready.net ≡ program.claim.net
  pub boxes_are : ready.boxes ≡ program.boxes
  pub records_are : ready.records ≡ file.records
  pub names_are : ready.names ≡ file.names

-- what passed all checks, to be run
abbrev pub ready_of : Checked → Ready
ready_of checked = record { net = checked.claim.net; boxes = checked.boxes; records = checked.records; names = checked.names }

-- what its network is run with
abbrev pub setting_at : Ready → Limits → Setting
setting_at ready limits = record { boxes = ready.boxes; fuel = limits.fuel; depth = limits.depth }

-- Whatever a run of the other prints with workers, a run of the first may print: the other may be its plan.
abbrev pub RunsAs : Ready → Ready → Type 0
RunsAs ready other = (limits : Limits) (p : Printout) → WithWorkers (setting_at other limits) other.net other.records other.names p
    → WithWorkers (setting_at ready limits) ready.net ready.records ready.names p

-- why there is nothing to run: a check refuses, a file was not read, or memory was wanted
abbrev pub WhyNotReady : File → File → Stop → Type 0
WhyNotReady source input (stop.Refused refusal) = IsRefused source.told input.told refusal
WhyNotReady source input (stop.Faulted fault) = ⊥
WhyNotReady source input (stop.Unread which) = IsUnread which source input
WhyNotReady source input stop.Memory = Unit {0}
WhyNotReady source input stop.Write = ⊥
