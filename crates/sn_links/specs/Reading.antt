-- What bytes of a link spell.
use Rattle.std.specs.Prelude.{◌≡◌, ℕ, List}
use Rattle.sn_record.specs.declared.item.Item.{Item}
use Rattle.sn_boxrun.specs.declared.job.Job.{Job}
use Rattle.sn_wire.specs.Format.{SpellsDone, SpellsJob}

-- they spell a job, or a job and what its call gave
abbrev pub IsJobSpelled : List ℕ → Type 0
IsJobSpelled bytes = (job : Job) × SpellsJob bytes job

abbrev pub IsDoneSpelled : List ℕ → Type 0
IsDoneSpelled bytes = (done : Job × List Item) × SpellsDone bytes done

-- they spell nothing else
abbrev pub OnlyJob : List ℕ → Job → Type 0
OnlyJob bytes job = (other : Job) → SpellsJob bytes other → other ≡ job

abbrev pub OnlyDone : List ℕ → Job × List Item → Type 0
OnlyDone bytes done = (other : Job × List Item) → SpellsDone bytes other → other ≡ done
