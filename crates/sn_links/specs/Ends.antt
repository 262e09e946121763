-- What contracts see of the ends of a link.
use Rattle.std.specs.Prelude.{◌≡◌, ℕ, List, [], ◌∷◌, ◌++◌, slice_get, IsSomeAnd}
use Rattle.atomic_table.specs.Seated.{TableId}
use Rattle.crossbeam_queue.specs.Fifo.{Held}
use Rattle.crossbeam_queue.specs.Passes.{Pass, view, IsPassOf, ruled_capacity}
use Rattle.sn_model.specs.declared.run.Run.{Run}
use Rattle.sn_model.specs.declared.step.Step.{Step}
use Rattle.sn_record.specs.declared.item.Item.{Item}
use Rattle.sn_boxrun.specs.declared.job.Job.{Job}
use Rattle.sn_wire.specs.Format.{SpellsDone, SpellsJob}
use Rattle.sn_ruled.specs.declared.rule.Known.{Known}
use Rattle.sn_ruled.specs.declared.rule.Role.TheVariants.{Pusher, Popper}
use Rattle.sn_ruled.specs.Rule.{IsLastOf, known}
use Rattle.sn_links.specs.declared.ends.Lines.{Lines}
use Rattle.sn_links.specs.declared.placement.Placement.{Placement}
use Rattle.sn_links.specs.declared.rule.Target.{Target}
use Rattle.sn_links.specs.Nodes.{IsMade, homes_of, nodes_of}
use Rattle.sn_links.specs.Queues.{DoneMoment, JobMoment}

-- of which `link` an end is: where it leads and of which run all on it is, how many values each queue has room for, and which two queues they are
pub record Made : Type 0 where
  pub target : Target
  pub capacity : ℕ
  pub jobs : TableId
  pub results : TableId

-- an end, and the bytes that it has sent or taken so far
pub record End : Type 0 where
  pub made : Made
  pub moved : List (List ℕ)

-- an end that has moved nothing yet, one that moves one thing more, and one that takes in what another moved
abbrev pub new_end : Made → End
new_end made = record { made = made; moved = [] }

abbrev pub moves : End → List ℕ → End
moves end bytes = record end { moved = end.moved ++ bytes ∷ [] }

abbrev pub joined : End → End → End
joined end other = record end { moved = end.moved ++ other.moved }

-- the run, where the calls of its boxes are made, and the node to which the link leads
abbrev pub run_of : End → Run
run_of end = end.made.target.run.value

abbrev pub placement_of : End → Placement
placement_of end = end.made.target.placement.value

abbrev pub node_at : End → ℕ
node_at end = end.made.target.node

-- the link leads to where the job's call is made, at a component to which these steps lead
abbrev pub Leads : End → Job → List Step → Type 0
Leads end job steps = IsSomeAnd (slice_get (homes_of (placement_of end)) job.number) (IsMade (nodes_of (placement_of end)) (node_at end) steps)

-- the end moved this job, or this job and these items, by their bytes; or something that could not be read
pub record MovesJob (before : End) (job : Job) (after : End) : Type 0 where
  pub bytes : List ℕ
  pub spells : SpellsJob bytes job
  pub moved : after ≡ moves before bytes

pub record MovesDone (before : End) (job : Job) (items : List Item) (after : End) : Type 0 where
  pub bytes : List ℕ
  pub spells : SpellsDone bytes (job, items)
  pub moved : after ≡ moves before bytes

abbrev pub Loses : End → End → Type 0
Loses before after = (bytes : List ℕ) × (after ≡ moves before bytes)

-- at one moment as many jobs waited as there is room for: the last of those that were sent
abbrev pub WasFullOfJobs : End → Type 0
WasFullOfJobs end = Held end.made.capacity (IsLastOf end.moved)

-- at one moment as many results waited as there is room for, or no job or no result did, by the rule of the queue
abbrev pub WasFullOfDones : End → Type 0
WasFullOfDones end = Held end.made.capacity (DoneMoment (known (Pusher end.made.target) end.moved []))

abbrev pub WasWithoutJobs : End → Type 0
WasWithoutJobs end = Held 0 (JobMoment (known (Popper end.made.target) [] end.moved))

abbrev pub WasWithoutDones : End → Type 0
WasWithoutDones end = Held 0 (DoneMoment (known (Popper end.made.target) [] end.moved))

-- of which `link` the queues are
abbrev pub made_of : Lines → Made
made_of lines = record {
  target = lines.target;
  capacity = ruled_capacity lines.jobs;
  jobs = lines.jobs.table.shared.table_id;
  results = lines.results.table.shared.table_id;
}

-- the pass is of the queue and has its role
abbrev pub SendsJobs : Lines → Pass (List ℕ) (Known Target (List ℕ)) → Type 0
SendsJobs lines pass = IsPassOf lines.jobs pass × (view pass ≡ known (Pusher lines.target) (view pass).pushed [])

abbrev pub TakesJobs : Lines → Pass (List ℕ) (Known Target (List ℕ)) → Type 0
TakesJobs lines pass = IsPassOf lines.jobs pass × (view pass ≡ known (Popper lines.target) [] (view pass).popped)

abbrev pub SendsDones : Lines → Pass (List ℕ) (Known Target (List ℕ)) → Type 0
SendsDones lines pass =
    IsPassOf lines.results pass × (view pass ≡ known (Pusher lines.target) (view pass).pushed []) × (ruled_capacity lines.results ≡ ruled_capacity lines.jobs)

abbrev pub TakesDones : Lines → Pass (List ℕ) (Known Target (List ℕ)) → Type 0
TakesDones lines pass = IsPassOf lines.results pass × (view pass ≡ known (Popper lines.target) [] (view pass).popped)
