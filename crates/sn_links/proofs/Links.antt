-- What goes over a link, and what is read of it.
use Rattle.std.proofs.Common.{◌≡◌, ℕ, List, subst, Option, Some, None}
use Rattle.std.specs.Prelude.{Err, IsSomeAnd, slice_get}
use Rattle.sn_record.specs.declared.item.Item.{Item}
use Rattle.sn_model.specs.declared.step.Step.{Step}
use Rattle.sn_boxrun.specs.Job.{IsAnswer, IsJobOf}
use Rattle.sn_boxrun.specs.declared.job.Done.{Done}
use Rattle.sn_boxrun.specs.declared.job.Job.{Job}
use Rattle.sn_home.specs.declared.home.Home.{Home}
use Rattle.sn_wire.specs.declared.fault.WireFault.{WireFault}
use Rattle.sn_wire.specs.declared.fault.WireFault.TheVariants.{Bad}
use Rattle.sn_wire.specs.Format.{SpellsDone, SpellsJob}
use Rattle.sn_wire.specs.Wire.{Reads}
use Rattle.sn_links.specs.declared.rule.Target.{Target}
use Rattle.sn_links.specs.Nodes.{IsMade, IsServed, MayServe, homes_of, nodes_of}
use Rattle.sn_links.specs.Queues.{IsLinkDone, IsLinkJob}
use Rattle.sn_links.specs.Reading.{OnlyDone, OnlyJob}

-- what is made at a node may be served there
served : (nodes node : ℕ) (steps : List Step) (home : Option Home) → IsSomeAnd home (IsMade nodes node steps) → IsSomeAnd home (MayServe nodes node)
served nodes node steps (Some home) made = made.0
served nodes node steps None made = made

pub link_job : (target : Target) (bytes : List ℕ) (job : Job) (steps : List Step) → SpellsJob bytes job → IsJobOf target.run.value job
    → IsSomeAnd (slice_get (homes_of target.placement.value) job.number) (IsMade (nodes_of target.placement.value) target.node steps) → IsLinkJob target bytes
link_job target bytes job steps spells of_run leads = record {
  job = job;
  spells = spells;
  of_run = of_run;
  served = served (nodes_of target.placement.value) target.node steps (slice_get (homes_of target.placement.value) job.number) leads;
}

pub link_done : (target : Target) (bytes : List ℕ) (done : Done) → SpellsDone bytes (done.job, done.items) → done.run.value ≡ target.run.value → IsLinkDone target bytes
link_done target bytes done spells is = record {
  job = done.job;
  items = done.items;
  spells = spells;
  of_run = subst (λ run. IsJobOf run done.job) is done.of_run;
  answer = subst (λ run. IsAnswer run done.job done.items) is done.is_answer;
}

-- what was read is what is on the link
pub job_of_run : (target : Target) (bytes : List ℕ) (job : Job) → IsLinkJob target bytes → OnlyJob bytes job → IsJobOf target.run.value job
job_of_run target bytes job it only = subst (IsJobOf target.run.value) (only it.job it.spells) it.of_run

pub job_served : (target : Target) (bytes : List ℕ) (job : Job) → IsLinkJob target bytes → OnlyJob bytes job → IsServed target.placement.value target.node job
job_served target bytes job it only = subst (IsServed target.placement.value target.node) (only it.job it.spells) it.served

pub done_of_run : (target : Target) (bytes : List ℕ) (done : Job × List Item) → IsLinkDone target bytes → OnlyDone bytes done → IsJobOf target.run.value done.0
done_of_run target bytes done it only = subst (λ (d : Job × List Item). IsJobOf target.run.value d.0) (only (it.job, it.items) it.spells) it.of_run

pub done_answers : (target : Target) (bytes : List ℕ) (done : Job × List Item) → IsLinkDone target bytes → OnlyDone bytes done → IsAnswer target.run.value done.0 done.1
done_answers target bytes done it only = subst (λ (d : Job × List Item). IsAnswer target.run.value d.0 d.1) (only (it.job, it.items) it.spells) it.answer

-- bytes that spell something are not bad
pub never_bad : {A : Type 0} (Spells : List ℕ → A → Type 0) (bytes : List ℕ) (x : A) (fault : WireFault) → fault ≡ Bad → Spells bytes x → Reads Spells bytes (Err fault) → ⊥
never_bad Spells bytes x fault is spells reads = subst (λ f. Reads Spells bytes (Err f)) is reads x spells
