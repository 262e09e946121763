-- Events, and what comes of them.
use Rattle.std.specs.Prelude.{◌≡◌, ℕ, ◌+◌, ◌++◌, ◌∷◌, [], Bool, true, false, Result, Ok, Err, IfSome}
use Rattle.sn_list.specs.declared.memory.Memory.{Memory}
use Rattle.sn_net.specs.Item.{modelled}
use Rattle.sn_model.specs.declared.run.Run.{Run}
use Rattle.sn_boxrun.specs.Job.{IsJobOf}
use Rattle.sn_boxrun.specs.declared.job.Done.{Done}
use Rattle.sn_boxrun.specs.declared.job.Job.{Job}
use Rattle.sn_labels.specs.Flowing.{HasLabelsOf}
use Rattle.sn_view.specs.Next.{HasCall, IsEnabled, Next, node_at}
use Rattle.sn_view.specs.View as view
use Rattle.sn_view.specs.View.{Happening, View}
use Rattle.sn_graph.specs.Started.{finish_of}
use Rattle.sn_graph.specs.declared.event.ApplyCause.{ApplyCause}
use Rattle.sn_graph.specs.declared.event.ApplyCause.TheVariants as cause
use Rattle.sn_graph.specs.declared.event.ApplyFault.{ApplyFault}
use Rattle.sn_graph.specs.declared.event.Effect.{Effect}
use Rattle.sn_graph.specs.declared.event.Effect.TheVariants as effect
use Rattle.sn_graph.specs.declared.event.Event.{Event}
use Rattle.sn_graph.specs.declared.event.Event.TheVariants as event

-- an event as the view has it
abbrev pub happening_of : Event → Happening
happening_of event.Take = view.Take
happening_of (event.Start i) = view.Start i
happening_of (event.Finish done) = finish_of done.job
happening_of (event.Local i) = view.Local i
happening_of (event.Route i) = view.Route i
happening_of (event.Unfold i) = view.Unfold i
happening_of (event.Merge i c) = view.Merge i c
happening_of event.Emit = view.Emit

-- the event answers a call
abbrev pub is_finish : Event → Bool
is_finish event.Take = false
is_finish (event.Start i) = false
is_finish (event.Finish done) = true
is_finish (event.Local i) = false
is_finish (event.Route i) = false
is_finish (event.Unfold i) = false
is_finish (event.Merge i c) = false
is_finish event.Emit = false

-- a call began at node i, which was given the number of the next call
pub record IsBegun (run : Run) (i : ℕ) (job : Job) (old new : View) : Type 0 where
  pub of : IsJobOf run job
  pub call : job.call ≡ old.calls
  pub flies : IfSome (node_at i new) (HasCall new job.call job.number job.place job.given)

-- what comes of an event: a call of Start alone, an item of Emit alone
abbrev pub ComesOf : Run → Happening → Effect → View → View → Type 0
ComesOf run (view.Start i) (effect.Call job) old new = IsBegun run i job old new
ComesOf run view.Emit (effect.Out x) old new = new.out ≡ old.out ++ modelled x ∷ []
ComesOf run view.Emit effect.Moved old new = new.out ≡ old.out
ComesOf run view.Take effect.Moved old new = Unit {0}
ComesOf run (view.Finish call number place given) effect.Moved old new = Unit {0}
ComesOf run (view.Local i) effect.Moved old new = Unit {0}
ComesOf run (view.Route i) effect.Moved old new = Unit {0}
ComesOf run (view.Unfold i) effect.Moved old new = Unit {0}
ComesOf run (view.Merge i c) effect.Moved old new = Unit {0}
ComesOf run e other old new = ⊥

-- a call that is to be made has a record with only labels of the run
abbrev pub HasCallLabels : Run → Effect → Type 0
HasCallLabels run (effect.Call job) = HasLabelsOf run job.given
HasCallLabels run (effect.Out x) = Unit {0}
HasCallLabels run effect.Moved = Unit {0}

-- the event happened
pub record Happened (run : Run) (e : Happening) (old new : View) (effect : Effect) : Type 0 where
  pub may : IsEnabled old e
  pub next : new ≡ Next old e
  pub comes : ComesOf run e effect old new

-- the event could not happen
pub record IsRefused (e : Happening) (old new : View) : Type 0 where
  pub may_not : IsEnabled old e → ⊥
  pub same : new ≡ old

-- what an event is answered, and the graph then: refused, or for want of memory, it is as it was
abbrev pub Happens : Run → Happening → View → Result Effect ApplyCause → View → Type 0
Happens run e old (Ok effect) new = Happened run e old new effect
Happens run e old (Err cause.NotEnabled) new = IsRefused e old new
Happens run e old (Err cause.Memory) new = new ≡ old

-- an event that moved something is counted
abbrev pub counted_as : Result Bool Memory → Result Effect ApplyCause
counted_as (Ok true) = Ok effect.Moved
counted_as (Ok false) = Err cause.NotEnabled
counted_as (Err memory) = Err cause.Memory

abbrev pub counted : ℕ → Result Bool Memory → View → View
counted before (Ok true) g = record g { applied = before + 1 }
counted before (Ok false) g = g
counted before (Err memory) g = g

-- an event that did not happen comes back, with the reason
abbrev pub refused_as : Result Effect ApplyCause → Event → Result Effect ApplyFault
refused_as (Ok effect) e = Ok effect
refused_as (Err cause) e = Err (record { cause = cause; event = e })

-- the event comes back, and why it did not happen
pub record IsFault (run : Run) (e : Event) (old new : View) (fault : ApplyFault) : Type 0 where
  pub back : fault.event ≡ e
  pub cause : Happens run (happening_of e) old (Err fault.cause) new

-- what an event is answered, which may come back
abbrev pub Applies : Run → Event → View → Result Effect ApplyFault → View → Type 0
Applies run e old (Ok effect) new = Happened run (happening_of e) old new effect
Applies run e old (Err fault) new = IsFault run e old new fault

-- the answer is of a call of the run
abbrev pub IsEventOf : Run → Event → Type 0
IsEventOf run (event.Finish done) = done.run.value ≡ run
IsEventOf run other = Unit {0}

abbrev pub finished_as : Result Effect Done → Result Effect ApplyFault
finished_as (Ok effect) = Ok effect
finished_as (Err done) = Err (record { cause = cause.NotEnabled; event = event.Finish done })
