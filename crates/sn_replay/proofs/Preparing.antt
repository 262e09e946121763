-- The event of a line, and what is kept of what came of it.
use Rattle.std.proofs.Common.{◌≡◌, ℕ, ◌==◌, ◌||◌, Bool, true, false, cond, [], ◌∷◌, ◌++◌, map, Option, None, Some, refl, sym, ap, ◌∙◌, subst, append-nil}
use Rattle.std.specs.Prelude.{Err, IfNone, IfSome, Ok, OnOk, Result}
use Rattle.std.specs.List.{list_any}
use Rattle.std.proofs.lemmas.List.{map-append}
use Rattle.sn_record.specs.declared.item.Item.{Item}
use Rattle.sn_net.specs.Item.{modelled}
use Rattle.sn_model.specs.declared.run.Run.{Run}
use Rattle.sn_boxrun.specs.declared.job.Done.{Done}
use Rattle.sn_boxrun.specs.declared.job.Job.{Job}
use Rattle.sn_view.specs.Next.{IsEnabled}
use Rattle.sn_view.specs.View.{Happening}
use Rattle.sn_graph.specs.Event.{IsEventOf, happening_of}
use Rattle.sn_graph.specs.Started.{finish_of}
use Rattle.sn_graph.specs.declared.event.Effect.TheVariants as effect
use Rattle.sn_graph.specs.declared.event.Event.{Event}
use Rattle.sn_graph.specs.declared.event.Event.TheVariants as event
use Rattle.sn_trace_lines.specs.declared.line.Line.{Line}
use Rattle.sn_trace_lines.specs.declared.line.Line.TheVariants as line
use Rattle.sn_event_lines.specs.Naming.{Names, is_fault}
use Rattle.sn_replay.specs.State.{Keeps, Prepares, table_of, view_of}
use Rattle.sn_replay.specs.Tables.{Loses}
use Rattle.sn_replay.specs.declared.played.Played.{Played}
use Rattle.sn_replay.proofs.Tables.{loses_none}

pub some_of : {X : Type 0} (o : Option X) (P : X → Type 0) → ((x : X) → o ≡ Some x → P x) → IfSome o P
some_of None P h = tt
some_of (Some x) P h = h x refl

pub none_of : {X : Type 0} (o : Option X) (P : Type 0) → (o ≡ None → P) → IfNone o P
none_of None P h = h refl
none_of (Some x) P h = tt

-- any event but an answer
pub prepared : (run : Run) (l : Line) (e : Event) (old : Played) → Names l (happening_of e) → IsEventOf run e → ((f : Happening) → Names l f → f ≡ happening_of e) → Prepares run l e old old
prepared run l e old named of only = record {
  named = named;
  of = of;
  only = λ f n may. only f n;
  loses = loses_none (happening_of e) (table_of old);
  graph = refl;
  out = refl;
  faulted = refl;
}

-- an answer
pub prepared_answer : (run : Run) (call : ℕ) (done : Done) (job : Job) (old new : Played) → done.job ≡ job → done.run.value ≡ run → Names (line.Finish call) (finish_of job)
    → ((e : Happening) → Names (line.Finish call) e → IsEnabled (view_of old) e → e ≡ finish_of job) → Loses (finish_of job) (table_of old) (table_of new)
    → new.graph ≡ old.graph → new.out ≡ old.out → new.is_faulted ≡ old.is_faulted → Prepares run (line.Finish call) (event.Finish done) old new
prepared_answer run call done job old new same of named only loses graph out faulted = record {
  named = subst (λ (j : Job). Names (line.Finish call) (finish_of j)) (sym same) named;
  of = of;
  only = λ e n may. only e n may ∙ ap finish_of (sym same);
  loses = subst (λ (j : Job). Loses (finish_of j) (table_of old) (table_of new)) (sym same) loses;
  graph = graph;
  out = out;
  faulted = faulted;
}

or-none : (b : Bool) → b ≡ (b || false)
or-none true = refl
or-none false = refl

-- what is kept
pub kept_call : (job : Job) (old new : Played) → new.graph ≡ old.graph → ((q : ℕ) → table_of new q ≡ cond (job.call == q) (Some job) (table_of old q)) → new.out ≡ old.out → new.is_faulted ≡ old.is_faulted
    → Keeps (effect.Call job) old new
kept_call job old new graph table out faulted =
    record { graph = graph; table = table; out = ap (map modelled) out ∙ sym (append-nil (map modelled old.out)); faulted = faulted ∙ or-none old.is_faulted }

pub kept_moved : (old : Played) → Keeps effect.Moved old old
kept_moved old = record { graph = refl; table = λ q. refl; out = sym (append-nil (map modelled old.out)); faulted = or-none old.is_faulted }

pub kept_out : (x : Item) (old new : Played) (b : Bool) → b ≡ list_any is_fault (modelled x ∷ []) → new.graph ≡ old.graph → ((q : ℕ) → table_of new q ≡ table_of old q) → new.out ≡ old.out ++ x ∷ []
    → new.is_faulted ≡ (old.is_faulted || b) → Keeps (effect.Out x) old new
kept_out x old new b is graph table out faulted = record {
  graph = graph;
  table = table;
  out = ap (map modelled) out ∙ map-append modelled old.out (x ∷ []);
  faulted = faulted ∙ ap (λ c. old.is_faulted || c) is;
}

-- what follows where a result is Ok
pub on_ok : {T E P Q : Type 0} (r : Result T E) → OnOk r P → (P → Q) → OnOk r Q
on_ok (Ok x) p f = f p
on_ok (Err e) p f = tt
