-- What comes of an event that is told.
use Rattle.std.proofs.Common.{◌≡◌, ◌≤◌, ℕ, false, List, [], ◌∷◌, ◌++◌, map, refl, sym, ap, ◌∙◌, subst, append-nil}
use Rattle.std.specs.Prelude.{Option}
use Rattle.std.specs.List.{list_any}
use Rattle.std.proofs.lemmas.List.{map-append}
use Rattle.sn_record.specs.Record.{Entries}
use Rattle.sn_record.specs.declared.item.Item.TheVariants as item
use Rattle.sn_net.specs.Item.{ModelItem, Rec, Fault}
use Rattle.sn_io.specs.Causes.{Rose}
use Rattle.sn_view.specs.View.{View}
use Rattle.sn_graph.specs.declared.event.Effect.{Effect}
use Rattle.sn_graph.specs.declared.event.Effect.TheVariants as effect
use Rattle.sn_trace_lines.specs.Lines.{text_of, texts_of}
use Rattle.sn_trace_lines.specs.declared.line.Line.{Line}
use Rattle.sn_event_lines.specs.Naming.{Leads, is_fault}
use Rattle.sn_event_lines.specs.Told.{Came, came_out}
use Rattle.sn_turns.specs.declared.turn.Turn.TheVariants.{Ended}
use Rattle.sn_model.specs.declared.outcome.Outcome.TheVariants.{WriteFault, Memory}
use Rattle.sn_trace.specs.Traced.{AreRecords, Carries, Held, TurnsAs, Writes, WritesPart}
use Rattle.sn_trace.specs.Watching.{Took, Watched, ends_as, state}
use Rattle.sn_trace.specs.declared.sink.TraceSink.{TraceSink}

-- no fault is among records
pub none_faulty : (records : List Entries) → list_any is_fault (map Rec records) ≡ false
none_faulty [] = refl
none_faulty (r ∷ records) = none_faulty records

sound : (items : List ModelItem) → AreRecords items → list_any is_fault items ≡ false
sound items (records, is) = ap (list_any is_fault) is ∙ none_faulty records

none_more : (items : List ModelItem) → AreRecords items → AreRecords (items ++ [])
none_more items (records, is) = (records, append-nil items ∙ is)

one_more : (items : List ModelItem) (r : Entries) → AreRecords items → AreRecords (items ++ Rec r ∷ [])
one_more items r (records, is) = (records ++ r ∷ [], ap (λ xs. xs ++ Rec r ∷ []) is ∙ sym (map-append Rec records (r ∷ [])))

one_text : (line : Line) → texts_of (line ∷ []) ≡ text_of line
one_text line = append-nil (text_of line)

module _ (line : Line) (x : Effect) (old new : View) (came : Came line (came_out x) old new) where
  leads : AreRecords old.out → Leads old (line ∷ []) new
  leads records = (new, record { event = came.event; named = came.named; may = came.may; sound = sound old.out records; is_next = came.next }, refl)

  module _ (a b : Held) where
    one : (rest : List ℕ) → Carries a b (text_of line) rest → Carries a b (texts_of (line ∷ [])) rest
    one rest = subst (λ text. Carries a b text rest) (sym (one_text line))

    wrote : Carries a b (text_of line) [] → AreRecords new.out → AreRecords old.out → Writes old a new b
    wrote carries records before = record { lines = line ∷ []; are_lines = (came.is_line, tt); leads = leads before; records = records; carries = one [] carries }

    wrote_all : (y : Effect) → x ≡ y → Carries a b (text_of line) [] → AreRecords old.out → TurnsAs old a new b (ends_as y)
    wrote_all (effect.Call job) is carries before = wrote carries (subst AreRecords (sym (came.out ∙ ap (λ z. old.out ++ came_out z) is)) (none_more old.out before)) before
    wrote_all effect.Moved is carries before = wrote carries (subst AreRecords (sym (came.out ∙ ap (λ z. old.out ++ came_out z) is)) (none_more old.out before)) before
    wrote_all (effect.Out (item.Rec r)) is carries before = wrote carries (subst AreRecords (sym (came.out ∙ ap (λ z. old.out ++ came_out z) is)) (one_more old.out r before)) before
    wrote_all (effect.Out (item.Fault fault)) is carries before = record {
      lines = line ∷ [];
      are_lines = (came.is_line, tt);
      leads = leads before;
      records = before.0;
      out = came.out ∙ ap (λ z. old.out ++ came_out z) is ∙ ap (λ xs. xs ++ Fault fault ∷ []) before.1;
      carries = one [] carries;
    }

    wrote_part : ((rest : List ℕ) × Carries a b (text_of line) rest) → AreRecords old.out → WritesPart old a new b
    wrote_part (rest, carries) before = record { lines = line ∷ []; are_lines = (came.is_line, tt); leads = leads before; rest = rest; carries = one rest carries }

  -- WHAT IS TOLD
  module _ {S : Type 0} (held : S → Option (List ℕ)) (faults : S → ℕ) (w v : TraceSink S) (later : faults w.sink.now ≤ faults v.sink.now) (same : v.sink.ghost_name ≡ w.sink.ghost_name) where
    pub told : Took held faults w v (text_of line) [] → Watched held faults old w new v (ends_as x)
    told whole = record { turns = record { later = later; turns = wrote_all (state held faults w) (state held faults v) x refl whole }; same_sink = same }

    pub told_part : ((rest : List ℕ) × Took held faults w v (text_of line) rest) → Rose (faults w.sink.now) (faults v.sink.now) → Watched held faults old w new v (Ended WriteFault)
    told_part part rose = record { turns = record { later = later; turns = λ before. (rose, wrote_part (state held faults w) (state held faults v) part before) }; same_sink = same }

    pub told_none : ((rest : List ℕ) × Took held faults w v (text_of line) rest) → Watched held faults old w new v (Ended Memory)
    told_none part = record { turns = record { later = later; turns = wrote_part (state held faults w) (state held faults v) part }; same_sink = same }
