-- What comes of the caller's turns.
use Rattle.std.specs.Prelude.{ℕ, true, false, List, Option, None, Some}
use Rattle.sn_stream.specs.declared.item.StreamItem.{StreamItem}
use Rattle.sn_crew.specs.Root.{HasBegun, HasWritten}
use Rattle.sn_crew.specs.declared.lead.Turn.{Turn}
use Rattle.sn_crew.specs.declared.lead.Turn.TheVariants.{Went, Idle, Ended}
use Rattle.sn_model.specs.declared.outcome.Outcome.{Outcome}
use Rattle.sn_model.specs.declared.outcome.Outcome.TheVariants.{Whole, Faulted, WriteFault, Memory}

module _ (names : List (List ℕ)) (entries : List StreamItem) (before now : Option (List ℕ)) where
  -- neither the end nor a fault was got, and each line was written
  abbrev pub GoesOn : Type 0
  GoesOn = HasWritten names entries before now false None

  abbrev pub EndsAs : Outcome → Type 0
  EndsAs Whole = HasWritten names entries before now true None
  EndsAs (Faulted fault) = HasWritten names entries before now false (Some fault)
  EndsAs WriteFault = HasBegun names entries before now
  EndsAs Memory = HasBegun names entries before now

  abbrev pub TurnsAs : Turn → Type 0
  TurnsAs Went = GoesOn
  TurnsAs Idle = GoesOn
  TurnsAs (Ended outcome) = EndsAs outcome
