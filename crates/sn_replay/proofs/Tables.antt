-- The table of calls while lines are played.
use Rattle.std.proofs.Common.{◌≡◌, ℕ, ◌<◌, ◌==◌, Bool, true, false, cond, Option, Some, None, refl, sym, ap, ◌∙◌, subst, arith, eq-eqb, inl, inr}
use Rattle.std.specs.Prelude.{IfSome}
use Rattle.std.proofs.lemmas.Bool.{eqb-true}
use Rattle.sn_record.specs.Record.{Entries}
use Rattle.sn_net.specs.WellFormed.{FitsBoxes}
use Rattle.sn_model.specs.declared.run.Run.{Run}
use Rattle.sn_model.specs.Run.{boxes_of, net_of}
use Rattle.sn_boxrun.specs.Job.{IsJobOf}
use Rattle.sn_boxrun.specs.declared.job.Job.{Job}
use Rattle.sn_view.specs.Calls.{IsFinishOf}
use Rattle.sn_view.specs.Chains.{Comes}
use Rattle.sn_view.specs.Next.{HasCall, IsEnabled, Next, start_view}
use Rattle.sn_view.specs.View.{Emit, Finish, Happening, Local, Merge, Node, Route, Start, Take, Unfold, View}
use Rattle.sn_view.proofs.Came.{came_next}
use Rattle.sn_view.proofs.Flying.{start-blank}
use Rattle.sn_graph.specs.Event.{ComesOf, IsBegun}
use Rattle.sn_graph.specs.Started.{finish_of}
use Rattle.sn_graph.specs.declared.event.Effect.{Effect}
use Rattle.sn_graph.specs.declared.event.Effect.TheVariants as effect
use Rattle.sn_replay.specs.Tables.{IsTable, Loses, Notes, Table}
use Rattle.sn_replay.proofs.Flight.{Began, any_there, call_below, call_there, finished_gone, one_call, was_or_began}

-- at the start no call is in flight
pub start_table : (run : Run) (table : Table) → ((call : ℕ) → table call ≡ None) → IsTable run (start_view run) table
start_table run table empty = record {
  jobs = λ call job is. none (sym (empty call) ∙ is);
  found = λ call number place given wanted.
      let (i, n, there, has) = any_there (HasCall (start_view run) call number place given) (start_view run).nodes wanted in
      let (p, flies) = call_there call given n.waiting has.flies in absurd ((start-blank run i n there).none p call given flies);
}
  where
    none : {X : Type 0} {job : Job} → None ≡ Some job → X
    none u = cc

-- nothing is lost where nothing is finished
pub loses_none : (e : Happening) (table : Table) → Loses e table table
loses_none e table = record { others = λ call other. refl; none_new = λ call job is. is }

module _ (run : Run) (g : View) (e : Happening) (h : View) where
  -- a call of a job is that of a start
  begun_by : (e : Happening) (job : Job) → ComesOf run e (effect.Call job) g h → (i : ℕ) × (e ≡ Start i) × IsBegun run i job g h
  begun_by Take job comes = elim comes [ ]
  begun_by (Start i) job comes = (i, refl, comes)
  begun_by (Finish call number place given) job comes = elim comes [ ]
  begun_by (Local i) job comes = elim comes [ ]
  begun_by (Route i) job comes = elim comes [ ]
  begun_by (Unfold i) job comes = elim comes [ ]
  begun_by (Merge i c) job comes = elim comes [ ]
  begun_by Emit job comes = elim comes [ ]

  start_begins : (i : ℕ) (x : Effect) → ComesOf run (Start i) x g h → (job : Job) × (x ≡ effect.Call job) × IsBegun run i job g h
  start_begins i (effect.Call job) comes = (job, refl, comes)
  start_begins i (effect.Out x) comes = elim comes [ ]
  start_begins i effect.Moved comes = elim comes [ ]

module _ (run : Run) (g : View) (e : Happening) (came : ∥ Comes run g ∥₁) (fits : FitsBoxes (boxes_of run) (net_of run)) (may : IsEnabled g e) (old between new : Table)
    (was : IsTable run g old) (loses : Loses e old between) where
  abbrev h : View
  h = Next g e

  from_before : (call : ℕ) (job : Job) → between call ≡ Some job → IsJobOf run job × (job.call ≡ call)
  from_before call job is = was.jobs call job (loses.none_new call job is)

  jobs : (x : Effect) → ComesOf run e x g h → Notes x between new → (call : ℕ) (job : Job) → new call ≡ Some job → IsJobOf run job × (job.call ≡ call)
  jobs (effect.Call j) comes notes call job is = at (j.call == call) refl (sym (notes call) ∙ is)
    where
      at : (b : Bool) → (j.call == call) ≡ b → cond b (Some j) (between call) ≡ Some job → IsJobOf run job × (job.call ≡ call)
      at true t u =
          let same : j ≡ job = cc in
          (subst (IsJobOf run) same ((begun_by run g e h e j comes).2).of, ap (λ (k : Job). k.call) (sym same) ∙ eqb-true j.call call t)
      at false t u = from_before call job u
  jobs (effect.Out x) comes notes call job is = from_before call job (sym (notes call) ∙ is)
  jobs effect.Moved comes notes call job is = from_before call job (sym (notes call) ∙ is)

  not_finished : (call number place : ℕ) (given : Entries) → IsEnabled h (Finish call number place given) → IsFinishOf e call → ⊥
  not_finished call number place given wanted = by e wanted
    where
      by : (f : Happening) → IsEnabled (Next g f) (Finish call number place given) → IsFinishOf f call → ⊥
      by Take w is = is
      by (Start i) w is = is
      by (Finish other a b r) w is = finished_gone g call a b number place r given (subst (λ k. IsEnabled (Next g (Finish k a b r)) (Finish call number place given)) is w)
      by (Local i) w is = is
      by (Route i) w is = is
      by (Unfold i) w is = is
      by (Merge i c) w is = is
      by Emit w is = is

  abbrev Found : ℕ → ℕ → ℕ → Entries → Type 0
  Found call number place given = (job : Job) × (new call ≡ Some job) × (finish_of job ≡ Finish call number place given)

  -- an older call
  stays : (x : Effect) → ComesOf run e x g h → Notes x between new → (call number place : ℕ) (given : Entries) → IsEnabled h (Finish call number place given)
      → IsEnabled g (Finish call number place given) → Found call number place given
  stays x comes notes call number place given wanted before =
      let (job, at, is) = was.found call number place given before in
      (job, by x comes notes ∙ loses.others call (not_finished call number place given wanted) ∙ at, is)
    where
      by : (x : Effect) → ComesOf run e x g h → Notes x between new → new call ≡ between call
      by (effect.Call j) comes notes = notes call ∙ ap (λ b. cond b (Some j) (between call)) (other (j.call == call) refl)
        where
          below : call < g.calls
          below = call_below run g came call number place given before

          apart : j.call ≡ call → ⊥
          apart same = let u : j.call ≡ g.calls = ((begun_by run g e h e j comes).2).call in let b : call < g.calls = below in omega (arith, u, b, same)

          other : (b : Bool) → (j.call == call) ≡ b → (j.call == call) ≡ false
          other true t = absurd (apart (eqb-true j.call call t))
          other false t = t
      by (effect.Out y) comes notes = notes call
      by effect.Moved comes notes = notes call

  -- the one that began
  begins : (x : Effect) → ComesOf run e x g h → Notes x between new → (call number place : ℕ) (given : Entries) → Began run g came fits e may call number place given → Found call number place given
  begins x comes notes call number place given b =
      let (job, is, begun) = start_begins run g e h b.i x (subst (λ (f : Happening). ComesOf run f x g h) b.starts comes) in
      let same : job.call ≡ call = begun.call ∙ sym b.next_number in
      let has : HasCall h job.call job.number job.place job.given b.node =
      subst (λ (o : Option Node). IfSome o (HasCall h job.call job.number job.place job.given)) b.there begun.flies in
      let one : Finish call job.number job.place job.given ≡ Finish call number place given =
      one_call run h (came_next run g e came may) b.i b.i call job.number job.place number place b.node b.node job.given given b.there b.there
      (subst (λ k. HasCall h k job.number job.place job.given b.node) same has) b.has in
      (job, by job is same, ap (λ k. Finish k job.number job.place job.given) same ∙ one)
    where
      by : (job : Job) → x ≡ effect.Call job → job.call ≡ call → new call ≡ Some job
      by job is same = (subst (λ (y : Effect). Notes y between new) is notes) call ∙ ap (λ b. cond b (Some job) (between call)) (eq-eqb job.call call same)

  table_on : (x : Effect) → ComesOf run e x g h → Notes x between new → IsTable run h new
  table_on x comes notes = record {
    jobs = jobs x comes notes;
    found = λ call number place given wanted. elim (was_or_began run g came fits e may call number place given wanted) [
      | inl before ↦ stays x comes notes call number place given wanted before
      | inr b ↦ begins x comes notes call number place given b
    ];
  }

  -- THE TABLE AFTER AN EVENT
  pub next_table : (x : Effect) (next : View) → next ≡ Next g e → ComesOf run e x g next → Notes x between new → IsTable run next new
  next_table x next is comes notes = subst (λ (v : View). IsTable run v new) (sym is) (table_on x (subst (λ (v : View). ComesOf run e x g v) is comes) notes)

-- the job of a call
module _ (run : Run) (g : View) (table : Table) (is : IsTable run g table) (call : ℕ) where
  pub only_job : (job : Job) → table call ≡ Some job → (e : Happening) → (number : ℕ) × (place : ℕ) × (given : Entries) × (e ≡ Finish call number place given) → IsEnabled g e → e ≡ finish_of job
  only_job job at e (number, place, given, named) may =
      let (other, there, finishes) = is.found call number place given (subst (IsEnabled g) named may) in
      let same : other ≡ job = (let u : Some other ≡ Some job = sym there ∙ at in cc) in
      named ∙ sym finishes ∙ ap finish_of same

  pub no_job : table call ≡ None → (e : Happening) → (number : ℕ) × (place : ℕ) × (given : Entries) × (e ≡ Finish call number place given) → IsEnabled g e → ⊥
  no_job none e (number, place, given, named) may =
      let (other, there, finishes) = is.found call number place given (subst (IsEnabled g) named may) in no (sym none ∙ there)
    where
      no : {other : Job} → None ≡ Some other → ⊥
      no u = cc

  pub names_job : (job : Job) → table call ≡ Some job → (number : ℕ) × (place : ℕ) × (given : Entries) × (finish_of job ≡ Finish call number place given)
  names_job job at = (job.number, job.place, job.given, ap (λ k. Finish k job.number job.place job.given) (is.jobs call job at).1)

  -- it leaves
  pub loses_job : (job : Job) (new : Table) → table call ≡ Some job → ((q : ℕ) → new q ≡ cond (call == q) None (table q)) → Loses (finish_of job) table new
  loses_job job new at left = record {
    others = λ q other. left q ∙ ap (λ b. cond b None (table q)) (apart q (call == q) refl other);
    none_new = λ q found there. kept q found (call == q) (sym (left q) ∙ there);
  }
    where
      apart : (q : ℕ) (b : Bool) → (call == q) ≡ b → (job.call ≡ q → ⊥) → (call == q) ≡ false
      apart q true t other = absurd (other ((is.jobs call job at).1 ∙ eqb-true call q t))
      apart q false t other = t

      kept : (q : ℕ) (found : Job) (b : Bool) → cond b None (table q) ≡ Some found → table q ≡ Some found
      kept q found true u = cc
      kept q found false u = u
