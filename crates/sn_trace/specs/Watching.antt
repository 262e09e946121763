-- How turns of a run that is traced follow each other.
use Rattle.std.proofs.Common.{◌≡◌, ◌≤◌, ℕ, List, [], ◌∷◌, ◌++◌, refl, sym, ap, ◌∙◌, subst, arith, append-nil, append_assoc}
use Rattle.std.specs.Prelude.{Option}
use Rattle.sn_record.specs.declared.item.Fault.{Fault as FaultAt}
use Rattle.sn_record.specs.declared.item.Item.{Item}
use Rattle.sn_record.specs.declared.item.Item.TheVariants as item
use Rattle.sn_io.specs.Causes.{Rose}
use Rattle.sn_io.specs.Told.{appended}
use Rattle.sn_io.proofs.Told.{appended_none, appended_twice}
use Rattle.sn_view.specs.Placed.{AtRest}
use Rattle.sn_view.specs.View.{View}
use Rattle.sn_graph.specs.declared.event.Effect.{Effect}
use Rattle.sn_graph.specs.declared.event.Effect.TheVariants as effect
use Rattle.sn_trace_lines.specs.Lines.{AreLines, text_of, texts_of}
use Rattle.sn_trace_lines.specs.declared.line.Line.{Line}
use Rattle.sn_event_lines.specs.Naming.{Leads}
use Rattle.sn_turns.specs.Over.{IsOver}
use Rattle.sn_turns.specs.declared.turn.Turn.{Turn}
use Rattle.sn_turns.specs.declared.turn.Turn.TheVariants.{Went, Idle, Ended}
use Rattle.sn_model.specs.declared.outcome.Outcome.{Outcome}
use Rattle.sn_model.specs.declared.outcome.Outcome.TheVariants.{Whole, Faulted, WriteFault, Memory}
use Rattle.sn_trace.specs.Traced.{AreRecords, Carries, EndsAs, Goes, Held, TurnsAs, Writes, WritesPart, WritesUpTo}
use Rattle.sn_trace.specs.declared.sink.TraceSink.{TraceSink}

-- what comes of an event whose line was written: a fault ends the run
abbrev pub ended_by : Item → Turn
ended_by (item.Rec r) = Went
ended_by (item.Fault fault) = Ended (Faulted fault)

abbrev pub ends_as : Effect → Turn
ends_as (effect.Call job) = Went
ends_as (effect.Out x) = ended_by x
ends_as effect.Moved = Went

-- lines that lead on
pub leads_then : (ls ks : List Line) (g h i : View) → Leads g ls h → Leads h ks i → Leads g (ls ++ ks) i
leads_then [] ks g h i is more = subst (λ (v : View). Leads v ks i) is more
leads_then (l ∷ ls) ks g h i (next, first, rest) more = (next, first, leads_then ls ks next h i rest more)

pub texts_then : (ls ks : List Line) → texts_of (ls ++ ks) ≡ texts_of ls ++ texts_of ks
texts_then [] ks = refl
texts_then (l ∷ ls) ks = ap (λ xs. text_of l ++ xs) (texts_then ls ks) ∙ sym (append_assoc (text_of l) (texts_of ls) (texts_of ks))

pub are_then : (ls ks : List Line) → AreLines ls → AreLines ks → AreLines (ls ++ ks)
are_then [] ks a b = b
are_then (l ∷ ls) ks a b = (a.0, are_then ls ks a.1 b)

-- what is carried behind what was carried whole
pub carries_then : (a b c : Held) (xs ys rest : List ℕ) → Carries a b xs [] → Carries b c ys rest → Carries a c (xs ++ ys) rest
carries_then a b c xs ys rest first second = record {
  piece = first.piece ++ second.piece;
  held = second.held ∙ ap (λ bytes. appended bytes second.piece) first.held ∙ appended_twice a.bytes first.piece second.piece;
  whole =
      append_assoc first.piece second.piece (c.kept ++ rest)
      ∙ ap (λ zs. first.piece ++ zs) second.whole
      ∙ sym (append_assoc first.piece b.kept ys)
      ∙ ap (λ zs. (first.piece ++ zs) ++ ys) (sym (append-nil b.kept))
      ∙ ap (λ zs. zs ++ ys) first.whole
      ∙ append_assoc a.kept xs ys;
}

-- one turn more
module _ (g : View) (a : Held) (h : View) (b : Held) (i : View) (c : Held) (w : Writes g a h b) where
  held_then : (ks : List Line) (rest : List ℕ) → Carries b c (texts_of ks) rest → Carries a c (texts_of (w.lines ++ ks)) rest
  held_then ks rest more = subst (λ text. Carries a c text rest) (sym (texts_then w.lines ks)) (carries_then a b c (texts_of w.lines) (texts_of ks) rest w.carries more)

  writes_then : Writes h b i c → Writes g a i c
  writes_then v = record {
    lines = w.lines ++ v.lines;
    are_lines = are_then w.lines v.lines w.are_lines v.are_lines;
    leads = leads_then w.lines v.lines g h i w.leads v.leads;
    records = v.records;
    carries = held_then v.lines [] v.carries;
  }

  up_to_then : (fault : FaultAt) → WritesUpTo h b i c fault → WritesUpTo g a i c fault
  up_to_then fault v = record {
    lines = w.lines ++ v.lines;
    are_lines = are_then w.lines v.lines w.are_lines v.are_lines;
    leads = leads_then w.lines v.lines g h i w.leads v.leads;
    records = v.records;
    out = v.out;
    carries = held_then v.lines [] v.carries;
  }

  part_then : WritesPart h b i c → WritesPart g a i c
  part_then v = record {
    lines = w.lines ++ v.lines;
    are_lines = are_then w.lines v.lines w.are_lines v.are_lines;
    leads = leads_then w.lines v.lines g h i w.leads v.leads;
    rest = v.rest;
    carries = held_then v.lines v.rest v.carries;
  }

  ends_then : a.faults ≤ b.faults → (outcome : Outcome) → EndsAs h b i c outcome → EndsAs g a i c outcome
  ends_then later Whole v = (v.0, writes_then v.1)
  ends_then later (Faulted fault) v = up_to_then fault v
  ends_then later WriteFault v = (rose a.faults b.faults c.faults later v.0, part_then v.1)
    where
      rose : (x y z : ℕ) → x ≤ y → Rose y z → Rose x z
      rose x y z sooner up = omega (arith, sooner, up)
  ends_then later Memory v = part_then v

  turns_then : a.faults ≤ b.faults → (turn : Turn) → TurnsAs h b i c turn → TurnsAs g a i c turn
  turns_then later Went v = writes_then v
  turns_then later Idle v = writes_then v
  turns_then later (Ended outcome) v = ends_then later outcome v

module _ (g : View) (a : Held) where
  none : Carries a a [] []
  none = record { piece = []; held = sym (appended_none a.bytes); whole = refl }

  silent : AreRecords g.out → Writes g a g a
  silent records = record { lines = []; are_lines = tt; leads = refl; records = records; carries = none }

  silent_part : WritesPart g a g a
  silent_part = record { lines = []; are_lines = tt; leads = refl; rest = []; carries = none }

  -- WHAT WAS KEPT IS WRITTEN
  module _ (b : Held) where
    flushed : AreRecords g.out → Carries a b [] [] → Writes g a g b
    flushed records carries = record { lines = []; are_lines = tt; leads = refl; records = records; carries = carries }

    flushed_part : ((rest : List ℕ) × Carries a b [] rest) → WritesPart g a g b
    flushed_part (rest, carries) = record { lines = []; are_lines = tt; leads = refl; rest = rest; carries = carries }

-- WHAT THE WATCHER KEEPS
abbrev pub state : {S : Type 0} → (S → Option (List ℕ)) → (S → ℕ) → TraceSink S → Held
state held faults w = record { bytes = held w.sink.now; kept = w.kept.now; faults = faults w.sink.now }

abbrev pub Took : {S : Type 0} → (S → Option (List ℕ)) → (S → ℕ) → TraceSink S → TraceSink S → List ℕ → List ℕ → Type 0
Took held faults w v text rest = Carries (state held faults w) (state held faults v) text rest

pub record Watched {S : Type 0} (held : S → Option (List ℕ)) (faults : S → ℕ) (g : View) (w : TraceSink S) (h : View) (v : TraceSink S) (turn : Turn) : Type 0 where
  pub turns : Goes g (state held faults w) h (state held faults v) turn
  pub same_sink : v.sink.ghost_name ≡ w.sink.ghost_name

even : (n : ℕ) → n ≤ n
even n = omega arith

up : (x y z : ℕ) → x ≤ y → y ≤ z → x ≤ z
up x y z h k = omega (arith, h, k)

module _ {S : Type 0} (held : S → Option (List ℕ)) (faults : S → ℕ) where
  pub stays : (g : View) (w : TraceSink S) → Watched held faults g w g w Went
  stays g w = record { turns = record { later = even (faults w.sink.now); turns = silent g (state held faults w) }; same_sink = refl }

  pub waits : (g : View) (w v : TraceSink S) → Took held faults w v [] [] → faults w.sink.now ≤ faults v.sink.now → v.sink.ghost_name ≡ w.sink.ghost_name → Watched held faults g w g v Idle
  waits g w v took later same = record { turns = record { later = later; turns = λ records. flushed g (state held faults w) (state held faults v) records took }; same_sink = same }

  pub waits_no_more : (g : View) (w v : TraceSink S) → ((rest : List ℕ) × Took held faults w v [] rest) → faults w.sink.now ≤ faults v.sink.now → Rose (faults w.sink.now) (faults v.sink.now) → v.sink.ghost_name ≡ w.sink.ghost_name
      → Watched held faults g w g v (Ended WriteFault)
  waits_no_more g w v took later rose same = record { turns = record { later = later; turns = λ records. (rose, flushed_part g (state held faults w) (state held faults v) took) }; same_sink = same }

  pub gives_up : (g : View) (w : TraceSink S) → (AtRest g → ⊥) → Watched held faults g w g w (Ended Memory)
  gives_up g w unrested = record { turns = record { later = even (faults w.sink.now); turns = λ records. silent_part g (state held faults w) }; same_sink = refl }

  pub rests : (g : View) (w : TraceSink S) → IsOver g → Watched held faults g w g w (Ended Whole)
  rests g w over = record { turns = record { later = even (faults w.sink.now); turns = λ records. (over, silent g (state held faults w) records) }; same_sink = refl }

  pub idled : (g h : View) (w v : TraceSink S) → Watched held faults g w h v Idle → Watched held faults g w h v Went
  idled g h w v idle = record { turns = record { later = idle.turns.later; turns = idle.turns.turns }; same_sink = idle.same_sink }

  pub then : (g h i : View) (w v u : TraceSink S) (turn : Turn) → Watched held faults g w h v Went → Watched held faults h v i u turn → Watched held faults g w i u turn
  then g h i w v u turn first second = record {
    turns = record {
      later = up (faults w.sink.now) (faults v.sink.now) (faults u.sink.now) first.turns.later second.turns.later;
      turns = λ records.
          let done : Writes g (state held faults w) h (state held faults v) = first.turns.turns records in
          turns_then g (state held faults w) h (state held faults v) i (state held faults u) done first.turns.later turn (second.turns.turns done.records);
    };
    same_sink = second.same_sink ∙ first.same_sink;
  }
