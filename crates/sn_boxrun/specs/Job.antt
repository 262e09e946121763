-- Jobs of a run, and what they are answered.
use Rattle.std.specs.Prelude.{◌≡◌, ◌<◌, List, length, map, slice_get}
use Rattle.std.specs.Option.{ForSome}
use Rattle.sn_record.specs.Record.{Matches}
use Rattle.sn_record.specs.declared.item.Item.{Item}
use Rattle.sn_net.specs.Face.{variant_of}
use Rattle.sn_net.specs.Item.{Rec, modelled}
use Rattle.sn_model.specs.Components.{box_item}
use Rattle.sn_model.specs.declared.run.Run.{Run}
use Rattle.sn_model.specs.Run.{boxes_of, fuel_of}
use Rattle.sn_boxrun.specs.declared.job.Job.{Job}

-- the run has a box of the job's number, whose input the record matches
pub record IsJobOf (run : Run) (job : Job) : Type 0 where
  pub within : job.number < length (boxes_of run)
  pub matches : ForSome (slice_get (boxes_of run) job.number) (λ program. Matches job.given (variant_of program.input))

-- the items are what that box answers to the record
abbrev pub IsAnswer : Run → Job → List Item → Type 0
IsAnswer run job items = map modelled items ≡ box_item (boxes_of run) (fuel_of run) job.place job.number (Rec job.given)
