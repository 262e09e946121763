-- The rules of the queue of jobs and of the queue of what calls gave.
use Rattle.std.specs.Prelude.{true, false, ℕ, List}
use Rattle.sn_record.specs.declared.item.Item.{Item}
use Rattle.sn_boxrun.specs.Job.{IsAnswer, IsJobOf}
use Rattle.sn_boxrun.specs.declared.job.Job.{Job}
use Rattle.sn_wire.specs.Format.{SpellsDone, SpellsJob}
use Rattle.sn_ruled.specs.declared.rule.Known.{Known}
use Rattle.sn_ruled.specs.Rule.{Agreed, Moment}
use Rattle.sn_links.specs.declared.rule.Target.{Target}
use Rattle.sn_links.specs.Nodes.{IsServed}

-- the bytes spell a job of the run, and the home of its box lets the node make its call
pub record IsLinkJob (target : Target) (bytes : List ℕ) : Type 0 where
  pub job : Job
  pub spells : SpellsJob bytes job
  pub of_run : IsJobOf target.run.value job
  pub served : IsServed target.placement.value target.node job

-- the bytes spell a job of the run, and what its box answers to the job's record
pub record IsLinkDone (target : Target) (bytes : List ℕ) : Type 0 where
  pub job : Job
  pub items : List Item
  pub spells : SpellsDone bytes (job, items)
  pub of_run : IsJobOf target.run.value job
  pub answer : IsAnswer target.run.value job items

-- one pass pushes jobs
abbrev pub JobRule : List (List ℕ) → List (Known Target (List ℕ)) → Type 0
JobRule = Agreed IsLinkJob true false

abbrev pub JobMoment : Known Target (List ℕ) → List (List ℕ) → Type 0
JobMoment = Moment IsLinkJob true false

-- one pass pops what calls gave
abbrev pub DoneRule : List (List ℕ) → List (Known Target (List ℕ)) → Type 0
DoneRule = Agreed IsLinkDone false true

abbrev pub DoneMoment : Known Target (List ℕ) → List (List ℕ) → Type 0
DoneMoment = Moment IsLinkDone false true
