-- What a driven graph came to, and what was printed of it.
use Rattle.std.proofs.Common.{◌≡◌, ◌<◌, ℕ, List, [], ◌∷◌, ◌++◌, map, length, refl, sym, ap, ◌∙◌, subst, append-nil, append_assoc, arith, length-append, inl, inr}
use Rattle.std.specs.Prelude.{Option, None, Some}
use Rattle.std.proofs.lemmas.List.{map-append}
use mathlib.Core.Logic.{∥∥₁_elim, ∥∥₁_map, ∥∥₁_map₂, ∥∥₁_prop}
use Rattle.sn_record.specs.Record.{Entries}
use Rattle.sn_record.specs.declared.item.Fault.{Fault as FaultAt}
use Rattle.sn_net.specs.Item.{ModelItem, Rec, Fault, Stuck}
use Rattle.sn_io.specs.Told.{AppendsPrefix, appended}
use Rattle.sn_io.proofs.Told.{prefix_before}
use Rattle.sn_output.specs.Line.{line}
use Rattle.sn_output.specs.Printed.{ending, printed}
use Rattle.sn_model.specs.Run.{MayGive, given}
use Rattle.sn_model.specs.declared.run.Run.{Run}
use Rattle.sn_live.specs.Runs.{IsPrefixOf}
use Rattle.sn_view.specs.Coming.{MayCome}
use Rattle.sn_view.specs.Placed.{AtRest}
use Rattle.sn_view.specs.Seen.{Can}
use Rattle.sn_view.specs.View.{View}
use Rattle.sn_view.proofs.Came.{may_begins}
use Rattle.sn_printing.specs.Farmed.{HasPrinted, IsAllWritten, IsFaulted, IsWhole}
use Rattle.sn_printing.specs.Turns.{Goes, LacksLast, Writes, WritesPart, WritesUpTo, shows}
use Rattle.sn_turns.specs.declared.turn.Turn.TheVariants.{Ended}
use Rattle.sn_model.specs.declared.outcome.Outcome.{Outcome}
use Rattle.sn_model.specs.declared.outcome.Outcome.TheVariants.{Whole, Faulted, WriteFault, Memory}
use Rattle.sn_printing.specs.Turning.{lines_more, none_more}

-- records end without a fault, and a fault behind them ends them
none_ends : (records : List Entries) → ending (map Rec records) ≡ None
none_ends [] = refl
none_ends (r ∷ records) = none_ends records

fault_ends : (records : List Entries) (fault : FaultAt) → ending (map Rec records ++ Fault fault ∷ []) ≡ Some fault
fault_ends [] fault = refl
fault_ends (r ∷ records) fault = fault_ends records fault

-- where a fault ends a stream it ends it whatever follows
still_ends : (items more : List ModelItem) (fault : FaultAt) → ending items ≡ Some fault → ending (items ++ more) ≡ Some fault
still_ends [] more fault ends = cc
still_ends (Rec r ∷ items) more fault ends = still_ends items more fault ends
still_ends (Fault at ∷ items) more fault ends = ends
still_ends (Stuck place ∷ items) more fault ends = cc

some_bytes : (xs ys : List ℕ) → Some xs ≡ Some ys → xs ≡ ys
some_bytes xs ys is = cc

-- what has more behind it is not the same
longer : (told first more : List ℕ) → 0 < length more → told ++ (first ++ more) ≡ told ++ first → ⊥
longer told first more some is =
    let sizes = sym (length-append told (first ++ more)) ∙ ap length is ∙ length-append told first in
    let inner = length-append first more in
    omega (arith, sizes, inner, some)

module _ (names : List (List ℕ)) where
  -- so no more is printed
  still_printed : (items more : List ModelItem) (fault : FaultAt) → ending items ≡ Some fault → printed names (items ++ more) ≡ printed names items
  still_printed [] more fault ends = cc
  still_printed (Rec r ∷ items) more fault ends = ap (λ bytes. line names r ++ bytes) (still_printed items more fault ends)
  still_printed (Fault at ∷ items) more fault ends = refl
  still_printed (Stuck place ∷ items) more fault ends = refl

  -- the lines of the first items are the first lines, whatever follows
  printed_first : (items more : List ModelItem) → (rest : List ℕ) × (printed names (items ++ more) ≡ printed names items ++ rest)
  printed_first [] more = (printed names more, refl)
  printed_first (Rec r ∷ items) more =
      let first = printed_first items more in (first.0, ap (λ bytes. line names r ++ bytes) first.1 ∙ sym (append_assoc (line names r) (printed names items) first.0))
  printed_first (Fault at ∷ items) more = ([], refl)
  printed_first (Stuck place ∷ items) more = ([], refl)

  whole_part : (before now : Option (List ℕ)) (text : List ℕ) → now ≡ appended before text → AppendsPrefix before now text
  whole_part before now text held = record { piece = text; rest = []; whole = append-nil text; held = held }

  -- the graph had let nothing out before it was driven
  module _ (old new : View) (before now : Option (List ℕ)) (sooner faults : ℕ) (fresh : old.out ≡ []) where
    records_out : (records : List Entries) → new.out ≡ old.out ++ map Rec records → new.out ≡ map Rec records
    records_out records out = out ∙ ap (λ xs. xs ++ map Rec records) fresh

    fault_out : (records : List Entries) (fault : FaultAt) → new.out ≡ old.out ++ (map Rec records ++ Fault fault ∷ []) → new.out ≡ map Rec records ++ Fault fault ∷ []
    fault_out records fault out = out ∙ ap (λ xs. xs ++ (map Rec records ++ Fault fault ∷ [])) fresh

    all_written : (w : Writes names (shows old before sooner) (shows new now faults)) → now ≡ appended before (printed names new.out)
    all_written w = w.held ∙ ap (λ xs. appended before (printed names xs)) (sym (records_out w.records w.out))

    before_fault : (fault : FaultAt) (w : WritesUpTo names (shows old before sooner) (shows new now faults) fault) → now ≡ appended before (printed names new.out)
    before_fault fault w =
        w.held ∙ ap (appended before) (sym (ap (printed names) (fault_out w.records fault w.out) ∙ lines_more names w.records (Fault fault ∷ []) ∙ append-nil (printed names (map Rec w.records))))

    some_written : (w : WritesPart names (shows old before sooner) (shows new now faults)) → AppendsPrefix before now (printed names new.out)
    some_written w = subst (λ xs. AppendsPrefix before now (printed names xs)) (sym (records_out w.records w.out)) w.held

    -- what was written is the beginning of what is printed of all that came out
    pub drive_written : (outcome : Outcome) → Goes names (shows old before sooner) (shows new now faults) (Ended outcome) → AppendsPrefix before now (printed names new.out)
    drive_written Whole goes = whole_part before now (printed names new.out) (all_written goes.turns.1)
    drive_written (Faulted fault) goes = whole_part before now (printed names new.out) (before_fault fault goes.turns)
    drive_written WriteFault goes = some_written goes.turns.1
    drive_written Memory goes = some_written goes.turns.1

    pub drive_whole : (outcome : Outcome) → outcome ≡ Whole → Goes names (shows old before sooner) (shows new now faults) (Ended outcome) → IsWhole names new before now
    drive_whole outcome is goes =
        let (over, w) = (subst (λ (o : Outcome). Goes names (shows old before sooner) (shows new now faults) (Ended o)) is goes).turns in
        record { over = over; records = (w.records, records_out w.records w.out); all = all_written w }

    pub drive_faulted : (outcome : Outcome) (fault : FaultAt) → outcome ≡ Faulted fault → Goes names (shows old before sooner) (shows new now faults) (Ended outcome) → IsFaulted names fault new before now
    drive_faulted outcome fault is goes =
        let w = (subst (λ (o : Outcome). Goes names (shows old before sooner) (shows new now faults) (Ended o)) is goes).turns in
        record { first = ap ending (fault_out w.records fault w.out) ∙ fault_ends w.records fault; all = before_fault fault w }

    -- where a fault came out, the drive ended by it
    pub drive_first : (outcome : Outcome) (fault : FaultAt) → Goes names (shows old before sooner) (shows new now faults) (Ended outcome) → ending new.out ≡ Some fault → outcome ≡ Faulted fault
    drive_first Whole fault goes ends = absurd (cc (ends, ap ending (records_out goes.turns.1.records goes.turns.1.out), none_ends goes.turns.1.records))
    drive_first (Faulted other) fault goes ends = cc (ends, ap ending (fault_out goes.turns.records other goes.turns.out), fault_ends goes.turns.records other)
    drive_first WriteFault fault goes ends = absurd (cc (ends, ap ending (records_out goes.turns.1.records goes.turns.1.out), none_ends goes.turns.1.records))
    drive_first Memory fault goes ends = absurd (cc (ends, ap ending (records_out goes.turns.1.records goes.turns.1.out), none_ends goes.turns.1.records))

    -- a line is at least a byte, so where the last one was not begun not all is written
    lacks_some : IsAllWritten names new before now → LacksLast names (shows old before sooner) (shows new now faults) → ⊥
    lacks_some written lacks =
        let records = lacks.records in
        let first = ap (λ h. appended h (printed names (map Rec records))) written.first in
        let lines = ap (printed names) (records_out (records ++ lacks.last ∷ []) lacks.out ∙ map-append Rec records (lacks.last ∷ [])) ∙ lines_more names records (Rec lacks.last ∷ []) in
        let bytes = some_bytes _ _ (sym written.all ∙ lacks.held ∙ first) in
        longer written.told (printed names (map Rec records)) (printed names (Rec lacks.last ∷ [])) (omega arith) (ap (λ ps. written.told ++ ps) (sym lines) ∙ bytes)

    -- where the graph is at rest, and all that came out is records and written, the drive ended whole, or at a fault of the sink
    pub drive_last : (outcome : Outcome) → Goes names (shows old before sooner) (shows new now faults) (Ended outcome) → AtRest new → IsAllWritten names new before now → ending new.out ≡ None
        → (outcome ≡ WriteFault → ⊥) → outcome ≡ Whole
    drive_last Whole goes rest written ends unfailed = refl
    drive_last (Faulted other) goes rest written ends unfailed = absurd (cc (ends, ap ending (fault_out goes.turns.records other goes.turns.out), fault_ends goes.turns.records other))
    drive_last WriteFault goes rest written ends unfailed = absurd (unfailed refl)
    drive_last Memory goes rest written ends unfailed = elim goes.turns.0 [
      | inl unrested ↦ absurd (unrested rest)
      | inr lacks ↦ absurd (lacks_some written lacks)
    ]

  -- the run of which the graph was started
  module _ (run : Run) (graph : View) (before now : Option (List ℕ)) (allowed : (ys : List ModelItem) → MayCome graph ys → ∥ MayGive run ys ∥₁) (some : ∥ ((ys : List ModelItem) × Can graph ys) ∥₁) where
    begun : AppendsPrefix before now (printed names graph.out) → (ys : List ModelItem) → IsPrefixOf graph.out ys → AppendsPrefix before now (printed names ys)
    begun part ys prefix =
        let first = printed_first graph.out prefix.0 in
        subst (AppendsPrefix before now) (sym (ap (printed names) prefix.1 ∙ first.1)) (prefix_before before now (printed names graph.out) first.0 part)

    -- what was written is the beginning of what is printed of a stream that is allowed
    pub run_part : AppendsPrefix before now (printed names graph.out) → ∥ ((ys : List ModelItem) × MayGive run ys × AppendsPrefix before now (printed names ys)) ∥₁
    run_part part =
        ∥∥₁_elim some ∥∥₁_prop
        (λ can. ∥∥₁_map₂ (allowed can.0 ∣ can.1 ∣₁) (may_begins graph can.0 ∣ can.1 ∣₁) (λ may prefix. (can.0, may, begun part can.0 prefix)))

    pub run_whole : IsWhole names graph before now → HasPrinted names run None before now
    run_whole whole = record {
      text = printed names graph.out;
      all = whole.all;
      stream =
          ∥∥₁_elim some ∥∥₁_prop
          (λ can. ∥∥₁_map (allowed can.0 ∣ can.1 ∣₁)
          (λ may.
          let is : can.0 ≡ graph.out = whole.over.only can.0 ∣ can.1 ∣₁ in
          (can.0, may, ap (printed names) (sym is), sym (ap ending (is ∙ whole.records.1) ∙ none_ends whole.records.0))));
    }

    pub run_faulted : (fault : FaultAt) → IsFaulted names fault graph before now → HasPrinted names run (Some fault) before now
    run_faulted fault faulted = record {
      text = printed names graph.out;
      all = faulted.all;
      stream =
          ∥∥₁_elim some ∥∥₁_prop
          (λ can. ∥∥₁_map₂ (allowed can.0 ∣ can.1 ∣₁) (may_begins graph can.0 ∣ can.1 ∣₁)
          (λ may prefix. (
            can.0,
            may,
            sym (ap (printed names) prefix.1 ∙ still_printed graph.out prefix.0 fault faulted.first),
            sym (ap ending prefix.1 ∙ still_ends graph.out prefix.0 fault faulted.first),
          )));
    }

  -- nothing was written
  pub unwritten : (run : Run) (held : Option (List ℕ)) → MayGive run (given run) → ∥ ((ys : List ModelItem) × MayGive run ys × AppendsPrefix held held (printed names ys)) ∥₁
  unwritten run held may = ∣ (given run, may, record { piece = []; rest = printed names (given run); whole = refl; held = none_more held }) ∣₁
