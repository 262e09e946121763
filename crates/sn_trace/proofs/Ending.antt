-- What a run that was traced wrote.
use Rattle.std.proofs.Common.{◌≡◌, ℕ, true, List, [], ◌∷◌, ◌++◌, map, refl, sym, ap, ◌∙◌, subst, append-nil, inl, inr}
use Rattle.std.specs.Prelude.{Option, None, Some}
use Rattle.std.specs.List.{list_any}
use Rattle.sn_record.specs.Record.{Entries}
use Rattle.sn_record.specs.declared.item.Fault.{Fault as FaultAt}
use Rattle.sn_net.specs.Item.{Rec, Fault}
use Rattle.sn_io.specs.Causes.{Rose}
use Rattle.sn_io.specs.Told.{AppendsPrefix, appended}
use Rattle.sn_io.proofs.Told.{prefix_none}
use Rattle.sn_output.specs.Printed.{ending}
use Rattle.sn_model.specs.declared.run.Run.{Run}
use Rattle.sn_view.specs.Next.{start_view}
use Rattle.sn_view.specs.View.{View}
use Rattle.sn_trace_lines.specs.Lines.{AreLines, texts_of}
use Rattle.sn_trace_lines.specs.declared.line.Line.{Line}
use Rattle.sn_event_lines.specs.Naming.{Leads, is_fault}
use Rattle.sn_replay.specs.Replays.{Accepts}
use Rattle.sn_turns.specs.declared.turn.Turn.TheVariants.{Ended}
use Rattle.sn_model.specs.declared.outcome.Outcome.{Outcome}
use Rattle.sn_model.specs.declared.outcome.Outcome.TheVariants.{Whole, Faulted, WriteFault, Memory}
use Rattle.sn_trace.specs.Traced.{AreRecords, Carries, Goes, Held}
use Rattle.sn_trace.specs.Written.{HasTrace, HasTracePart}

none_ends : (records : List Entries) → ending (map Rec records) ≡ None
none_ends [] = refl
none_ends (r ∷ records) = none_ends records

fault_ends : (records : List Entries) (fault : FaultAt) → ending (map Rec records ++ Fault fault ∷ []) ≡ Some fault
fault_ends [] fault = refl
fault_ends (r ∷ records) fault = fault_ends records fault

faulty : (records : List Entries) (fault : FaultAt) → list_any is_fault (map Rec records ++ Fault fault ∷ []) ≡ true
faulty [] fault = refl
faulty (r ∷ records) fault = faulty records fault

-- nothing was kept at first
module _ (a b : Held) (text : List ℕ) (none : a.kept ≡ []) where
  part_of : (rest : List ℕ) → Carries a b text rest → AppendsPrefix a.bytes b.bytes text
  part_of rest carries = record { piece = carries.piece; rest = b.kept ++ rest; whole = carries.whole ∙ ap (λ xs. xs ++ text) none; held = carries.held }

  -- and at last
  all_of : b.kept ≡ [] → Carries a b text [] → b.bytes ≡ appended a.bytes text
  all_of last carries = carries.held ∙ ap (appended a.bytes) (sym (append-nil carries.piece) ∙ ap (λ xs. carries.piece ++ (xs ++ [])) (sym last) ∙ carries.whole ∙ ap (λ xs. xs ++ text) none)

module _ (run : Run) (g : View) (a : Held) (h : View) (b : Held) (start : g ≡ start_view run) (none : a.kept ≡ []) where
  fresh : AreRecords g.out
  fresh = ([], ap (λ (v : View). v.out) start)

  from_start : (lines : List Line) → Leads g lines h → Leads (start_view run) lines h
  from_start lines leads = subst (λ (v : View). Leads v lines h) start leads

  accepts : (lines : List Line) → AreLines lines → Leads g lines h → Accepts run (texts_of lines) lines [] h
  accepts lines are leads = record { front = record { are_lines = are; text_is = sym (append-nil (texts_of lines)) }; leads = from_start lines leads }

  part : (lines : List Line) (rest : List ℕ) → AreLines lines → Leads g lines h → Carries a b (texts_of lines) rest → HasTracePart run a.bytes b.bytes
  part lines rest are leads carries = record { lines = lines; are_lines = are; last = h; leads = from_start lines leads; part = part_of a b (texts_of lines) none rest carries }

  pub trace_part : (outcome : Outcome) → Goes g a h b (Ended outcome) → HasTracePart run a.bytes b.bytes
  trace_part Whole goes = let w = (goes.turns fresh).1 in part w.lines [] w.are_lines w.leads w.carries
  trace_part (Faulted fault) goes = let w = goes.turns fresh in part w.lines [] w.are_lines w.leads w.carries
  trace_part WriteFault goes = let w = (goes.turns fresh).1 in part w.lines w.rest w.are_lines w.leads w.carries
  trace_part Memory goes = let w = goes.turns fresh in part w.lines w.rest w.are_lines w.leads w.carries

  pub trace_rose : (outcome : Outcome) → outcome ≡ WriteFault → Goes g a h b (Ended outcome) → Rose a.faults b.faults
  trace_rose outcome is goes = ((subst (λ (o : Outcome). Goes g a h b (Ended o)) is goes).turns fresh).0

  pub trace_whole : b.kept ≡ [] → (outcome : Outcome) → outcome ≡ Whole → Goes g a h b (Ended outcome) → HasTrace run a.bytes b.bytes None
  trace_whole last outcome is goes =
      let (over, w) = (subst (λ (o : Outcome). Goes g a h b (Ended o)) is goes).turns fresh in
      record {
        text = texts_of w.lines;
        items = h.out;
        replays = record { lines = w.lines; last = h; accepts = accepts w.lines w.are_lines w.leads; ends = inl over.rest; out = refl };
        ends = ap ending w.records.1 ∙ none_ends w.records.0;
        all = all_of a b (texts_of w.lines) none last w.carries;
      }

  pub trace_faulted : b.kept ≡ [] → (outcome : Outcome) (fault : FaultAt) → outcome ≡ Faulted fault → Goes g a h b (Ended outcome) → HasTrace run a.bytes b.bytes (Some fault)
  trace_faulted last outcome fault is goes =
      let w = (subst (λ (o : Outcome). Goes g a h b (Ended o)) is goes).turns fresh in
      record {
        text = texts_of w.lines;
        items = h.out;
        replays = record { lines = w.lines; last = h; accepts = accepts w.lines w.are_lines w.leads; ends = inr (ap (list_any is_fault) w.out ∙ faulty w.records fault); out = refl };
        ends = ap ending w.out ∙ fault_ends w.records fault;
        all = all_of a b (texts_of w.lines) none last w.carries;
      }

pub untraced : (run : Run) (held : Option (List ℕ)) → HasTracePart run held held
untraced run held = record { lines = []; are_lines = tt; last = start_view run; leads = refl; part = prefix_none held [] }
