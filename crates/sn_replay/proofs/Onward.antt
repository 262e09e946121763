-- A run while lines are played.
use Rattle.std.proofs.Common.{◌≡◌, ℕ, ◌+◌, ◌≤◌, ◌<◌, ◌||◌, false, List, [], ◌∷◌, ◌++◌, length, map, refl, sym, ap, ◌∙◌, subst, arith, None, Option, Some}
use Rattle.std.specs.List.{list_any}
use Rattle.std.specs.Prelude.{IfOk, IfSome, ◌^◌, Result, Ok, Err}
use mathlib.Core.Logic.{∥∥₁_map}
use Rattle.std.proofs.lemmas.List.{length-append}
use Rattle.std.proofs.lemmas.List.Folds.{list_any-append}
use Rattle.sn_net.specs.Item.{ModelItem, modelled}
use Rattle.sn_record.specs.declared.item.Item.{Item}
use Rattle.sn_model.specs.Run.{MayGive}
use Rattle.sn_live.specs.Runs.{IsPrefixOf}
use Rattle.sn_model.specs.declared.run.Run.{Run}
use Rattle.sn_view.specs.Chains.{Comes}
use Rattle.sn_view.specs.Next.{IsEnabled, Next, start_view}
use Rattle.sn_view.specs.View.{Happening, View}
use Rattle.sn_graph.specs.Event.{ComesOf, happening_of}
use Rattle.sn_graph.specs.Graph.{IsGraphOf, seen}
use Rattle.sn_graph.specs.declared.event.Effect.{Effect}
use Rattle.sn_graph.specs.declared.event.Event.{Event}
use Rattle.sn_graph.specs.declared.graph.Graph.{Graph}
use Rattle.sn_trace_lines.specs.declared.line.Line.{Line}
use Rattle.sn_event_lines.specs.Naming.{Happens, Names, has_fault, is_fault}
use Rattle.sn_replay.specs.State.{GoesOn, HasRead, IsPlayed, Keeps, Prepares, table_of, view_of}
use Rattle.sn_replay.specs.Replays.{IsVerdict, Verdict}
use Rattle.sn_event_lines.specs.Told.{came_out}
use Rattle.sn_replay.specs.Tables.{IsTable, Loses}
use Rattle.sn_replay.specs.declared.played.Played.{Played}
use Rattle.sn_event_lines.proofs.Leading.{leads_on}
use Rattle.sn_event_lines.proofs.Leaving.{came}
use Rattle.sn_replay.proofs.Tables.{next_table, start_table}
use Rattle.sn_replay.specs.Answers.{verdict_of}
use Rattle.sn_replay.specs.declared.playing.TraceFault.{TraceFault}
use Rattle.sn_replay.proofs.Allowed.{trace_begun, trace_whole}
use Rattle.sn_replay.specs.Ending.{Ends}
use Rattle.sn_replay.proofs.Fronts.{front_on, shorter}
use Rattle.sn_replay.proofs.Verdicts.{only_verdict, verdict}

-- THE START
pub started : (run : Run) (played : Played) → IsGraphOf played.graph run → view_of played ≡ start_view run → ((call : ℕ) → table_of played call ≡ None) → played.out ≡ [] → played.is_faulted ≡ false
    → IsPlayed run played
started run played of view empty out sound = record {
  of = of;
  table = subst (λ (v : View). IsTable run v (table_of played)) (sym view) (start_table run (table_of played) empty);
  out = ap (map modelled) out ∙ sym (ap (λ (v : View). v.out) view);
  faulted = sound ∙ sym (ap has_fault view);
}

-- ONE EVENT
module _ (run : Run) (o m mid n : Played) (line : Line) (event : Event) (x : Effect) (was : IsPlayed run o) (prepared : Prepares run line event o m)
    (calls : table_of mid ≡ table_of m) (outs : mid.out ≡ m.out) (faults : mid.is_faulted ≡ m.is_faulted)
    (of : IsGraphOf mid.graph run) (enabled : IsEnabled (view_of m) (happening_of event)) (next : view_of mid ≡ Next (view_of m) (happening_of event))
    (comes : ComesOf run (happening_of event) x (view_of m) (view_of mid)) (keeps : Keeps x mid n) where
  g : View
  g = view_of o

  abbrev e : Happening
  e = happening_of event

  may : IsEnabled (view_of o) e
  may = subst (λ (graph : Graph). IsEnabled (seen graph) e) prepared.graph enabled

  is_next : view_of mid ≡ Next (view_of o) e
  is_next = next ∙ ap (λ (graph : Graph). Next (seen graph) e) prepared.graph

  came_here : ∥ Comes run (view_of o) ∥₁
  came_here = subst (λ (r : Run). ∥ Comes r (view_of o) ∥₁) was.of o.graph.came

  comes_here : ComesOf run e x (view_of o) (view_of mid)
  comes_here = subst (λ (graph : Graph). ComesOf run e x (seen graph) (view_of mid)) prepared.graph comes

  left : Loses e (table_of o) (table_of mid)
  left = subst (Loses e (table_of o)) (sym calls) prepared.loses

  out_on : (view_of mid).out ≡ (view_of o).out ++ came_out x
  out_on = came run e x (view_of o) (view_of mid) is_next comes_here

  faulted_on : has_fault (view_of mid) ≡ (has_fault (view_of o) || list_any is_fault (came_out x))
  faulted_on = ap (list_any is_fault) out_on ∙ list_any-append is_fault (view_of o).out (came_out x)

  same_view : view_of n ≡ view_of mid
  same_view = ap seen keeps.graph

  pub played_on : IsPlayed run n
  played_on = record {
    of = subst (λ (graph : Graph). IsGraphOf graph run) (sym keeps.graph) of;
    table = subst (λ (v : View). IsTable run v (table_of n)) (sym same_view)
        (next_table run (view_of o) e came_here run.formed may (table_of o) (table_of mid) (table_of n) was.table left x (view_of mid) is_next comes_here keeps.table);
    out = keeps.out ∙ ap (λ xs. map modelled xs ++ came_out x) (outs ∙ prepared.out) ∙ ap (λ xs. xs ++ came_out x) was.out ∙ sym out_on ∙ sym (ap (λ (v : View). v.out) same_view);
    faulted = keeps.faulted ∙ ap (λ b. b || list_any is_fault (came_out x)) (faults ∙ prepared.faulted ∙ was.faulted) ∙ sym faulted_on ∙ sym (ap has_fault same_view);
  }

  pub happens_on : o.is_faulted ≡ false → Happens (view_of o) line (view_of n)
  happens_on sound = record { event = e; named = prepared.named; may = may; sound = sym was.faulted ∙ sound; is_next = same_view ∙ is_next }

-- an event that may not happen is that of a line that names none
pub none_may : (run : Run) (o m : Played) (line : Line) (event : Event) → Prepares run line event o m → (IsEnabled (view_of m) (happening_of event) → ⊥)
    → (e : Happening) → Names line e → IsEnabled (view_of o) e → ⊥
none_may run o m line event prepared refused e named may =
    refused (subst (λ (graph : Graph). IsEnabled (seen graph) (happening_of event)) (sym prepared.graph) (subst (IsEnabled (view_of o)) (prepared.only e named may) may))

-- LINE AFTER LINE
module _ (run : Run) (text : List ℕ) where
  pub read_none : (played : Played) → view_of played ≡ start_view run → HasRead run text 0 text played
  read_none played is = record {
    lines = [];
    count = refl;
    accepts = record { front = record { are_lines = tt; text_is = refl }; leads = is };
    applied = ap (λ (v : View). v.applied) is;
    room = omega arith;
  }

  pub read_on : (before : ℕ) (rest more : List ℕ) (old new : Played) → HasRead run text before rest old → GoesOn old new rest more → HasRead run text (before + 1) more new
  read_on before rest more old new read goes =
      let one : length more + 1 ≤ length rest = shorter goes.line more rest goes.front in
      let counted : (view_of new).applied ≡ (view_of old).applied + 1 = ap (λ (v : View). v.applied) goes.happens.is_next in
      record {
        lines = read.lines ++ goes.line ∷ [];
        count = length-append read.lines (goes.line ∷ []) ∙ ap (λ k. k + 1) read.count;
        accepts = record {
          front = front_on read.lines goes.line rest more text read.accepts.front goes.front;
          leads = leads_on read.lines goes.line (start_view run) (view_of old) (view_of new) read.accepts.leads goes.happens;
        };
        applied = counted ∙ ap (λ k. k + 1) read.applied;
        room = omega (arith, one, read.room);
      }

  -- what is said of what is left is said of the text
  pub said : (before : ℕ) (rest : List ℕ) (played : Played) → HasRead run text before rest played → (o : Option Verdict) → IfSome o (Ends (view_of played) rest before) → IfSome o (IsVerdict run text)
  said before rest played read None ends = tt
  said before rest played read (Some v) ends =
      verdict run text read.lines rest (view_of played) v read.accepts (subst (λ n. Ends (view_of played) rest n v) (sym read.count) ends)

  pub only_said : (o : Option Verdict) → IfSome o (IsVerdict run text) → (v : Verdict) → IsVerdict run text v → IfSome o (λ w. w ≡ v)
  only_said None told v is = tt
  only_said (Some w) told v is = only_verdict run text w v told is

  pub few : (before : ℕ) (rest : List ℕ) (played : Played) → length text ≤ 16777216 → HasRead run text before rest played → (view_of played).applied < 2 ^ 62
  few before rest played short read = omega (arith, short, read.applied, read.room)

  nothing : (xs : List ℕ) → length xs ≡ 0 → xs ≡ []
  nothing [] e = refl
  nothing (x ∷ xs) e = cc

  pub said_last : (before : ℕ) (rest : List ℕ) (played : Played) → HasRead run text before rest played → length rest ≡ 0 → (o : Option Verdict) → ((n : ℕ) → IfSome o (Ends (view_of played) [] n)) → IfSome o (IsVerdict run text)
  said_last before rest played read over o ends = said before [] played (subst (λ xs. HasRead run text before xs played) (nothing rest over) read) o (ends before)

-- WHAT COMES OUT IS ALLOWED
module _ (run : Run) (text : List ℕ) where
  pub begun_of : (r : Result (List Item) TraceFault) → IfSome (verdict_of r) (IsVerdict run text) → IfOk r (λ ys. ∥ ((zs : List ModelItem) × MayGive run zs × IsPrefixOf (map modelled ys) zs) ∥₁)
  begun_of (Ok ys) told = ∥∥₁_map run.formed (λ formed. trace_begun run text (map modelled ys) formed told)
  begun_of (Err fault) told = tt

  pub whole_of : (r : Result (List Item) TraceFault) → IfSome (verdict_of r) (IsVerdict run text) → IfOk r (λ ys. list_any is_fault (map modelled ys) ≡ false → ∥ MayGive run (map modelled ys) ∥₁)
  whole_of (Ok ys) told = λ sound. ∥∥₁_map run.formed (λ formed. trace_whole run text (map modelled ys) formed told sound)
  whole_of (Err fault) told = tt
