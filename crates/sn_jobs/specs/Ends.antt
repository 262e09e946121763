-- What contracts see of an owner and of a hand.
use Rattle.std.specs.Prelude.{◌≡◌, ℕ, List, [], ◌∷◌, ◌++◌}
use Rattle.atomic_table.specs.Seated.{TableId}
use Rattle.crossbeam_queue.specs.Fifo.{Held}
use Rattle.crossbeam_queue.specs.Passes.{Pass, view, IsPassOf, ruled_capacity}
use Rattle.sn_model.specs.declared.run.Run.{Run}
use Rattle.sn_boxrun.specs.declared.job.Done.{Done}
use Rattle.sn_boxrun.specs.declared.job.Job.{Job}
use Rattle.sn_jobs.specs.declared.ends.Lines.{Lines}
use Rattle.sn_ruled.specs.declared.rule.Known.{Known}
use Rattle.sn_ruled.specs.declared.rule.Role.TheVariants.{Pusher, Popper}
use Rattle.sn_jobs.specs.Queues.{DoneMoment, JobMoment}
use Rattle.sn_ruled.specs.Rule.{IsLastOf, known}

-- of which `make` an end is: the run, how many values each queue has room for, and which two queues they are
pub record Made : Type 0 where
  pub run : Run
  pub capacity : ℕ
  pub jobs : TableId
  pub results : TableId

-- an owner: the jobs that it gave so far, and the answers that it collected
pub record Owner : Type 0 where
  pub made : Made
  pub given : List Job
  pub collected : List Done

-- a hand: the jobs that it took so far, and the answers that it gave
pub record Hand : Type 0 where
  pub made : Made
  pub taken : List Job
  pub answered : List Done

-- one more job or answer
abbrev pub gives : Owner → Job → Owner
gives owner job = record owner { given = owner.given ++ job ∷ [] }

abbrev pub collects : Owner → Done → Owner
collects owner done = record owner { collected = owner.collected ++ done ∷ [] }

abbrev pub takes : Hand → Job → Hand
takes hand job = record hand { taken = hand.taken ++ job ∷ [] }

abbrev pub answers : Hand → Done → Hand
answers hand done = record hand { answered = hand.answered ++ done ∷ [] }

-- an end that has done nothing yet
abbrev pub new_owner : Made → Owner
new_owner made = record { made = made; given = []; collected = [] }

abbrev pub new_hand : Made → Hand
new_hand made = record { made = made; taken = []; answered = [] }

-- a hand that takes in what another did
abbrev pub joined : Hand → Hand → Hand
joined hand other = record hand { taken = hand.taken ++ other.taken; answered = hand.answered ++ other.answered }

-- at one moment as many jobs waited as there is room for: the last of those that were given
abbrev pub WasFullOfJobs : Owner → Type 0
WasFullOfJobs owner = Held owner.made.capacity (IsLastOf owner.given)

-- at one moment as many answers waited as there is room for, or no job or no answer did, by the rule of the queue
abbrev pub WasFullOfAnswers : Hand → Type 0
WasFullOfAnswers hand = Held hand.made.capacity (DoneMoment (known (Pusher hand.made.run) hand.answered []))

abbrev pub WasWithoutJobs : Hand → Type 0
WasWithoutJobs hand = Held 0 (JobMoment (known (Popper hand.made.run) [] hand.taken))

abbrev pub WasWithoutAnswers : Owner → Type 0
WasWithoutAnswers owner = Held 0 (DoneMoment (known (Popper owner.made.run) [] owner.collected))

-- of which `make` the queues are
abbrev pub made_of : Lines → Made
made_of lines = record {
  run = lines.run.value;
  capacity = ruled_capacity lines.jobs;
  jobs = lines.jobs.table.shared.table_id;
  results = lines.results.table.shared.table_id;
}

abbrev pub HasPasses : Lines → Pass Job (Known Run Job) → Pass Done (Known Run Done) → Type 0
HasPasses lines jobs results = IsPassOf lines.jobs jobs × IsPassOf lines.results results × (ruled_capacity lines.results ≡ ruled_capacity lines.jobs)

-- its passes are of these queues, and have its roles
abbrev pub IsOwnerOf : Lines → Pass Job (Known Run Job) → Pass Done (Known Run Done) → Type 0
IsOwnerOf lines jobs results =
    HasPasses lines jobs results
    × (view jobs ≡ known (Pusher lines.run.value) (view jobs).pushed [])
    × (view results ≡ known (Popper lines.run.value) [] (view results).popped)

abbrev pub IsHandOf : Lines → Pass Job (Known Run Job) → Pass Done (Known Run Done) → Type 0
IsHandOf lines jobs results =
    HasPasses lines jobs results
    × (view jobs ≡ known (Popper lines.run.value) [] (view jobs).popped)
    × (view results ≡ known (Pusher lines.run.value) (view results).pushed [])
