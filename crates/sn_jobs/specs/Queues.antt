-- The rules of the queue of jobs and of the queue of answers.
use Rattle.std.specs.Prelude.{◌≡◌, true, false, List}
use Rattle.sn_model.specs.declared.run.Run.{Run}
use Rattle.sn_boxrun.specs.Job.{IsJobOf}
use Rattle.sn_boxrun.specs.declared.job.Done.{Done}
use Rattle.sn_boxrun.specs.declared.job.Job.{Job}
use Rattle.sn_ruled.specs.declared.rule.Known.{Known}
use Rattle.sn_ruled.specs.Rule.{Agreed, Moment}

-- the answer is of the run
abbrev pub IsDoneOf : Run → Done → Type 0
IsDoneOf run done = done.run.value ≡ run

-- one pass pushes jobs
abbrev pub JobRule : List Job → List (Known Run Job) → Type 0
JobRule = Agreed IsJobOf true false

abbrev pub JobMoment : Known Run Job → List Job → Type 0
JobMoment = Moment IsJobOf true false

-- one pass pops answers
abbrev pub DoneRule : List Done → List (Known Run Done) → Type 0
DoneRule = Agreed IsDoneOf false true

abbrev pub DoneMoment : Known Run Done → List Done → Type 0
DoneMoment = Moment IsDoneOf false true
