-- From what each step of a replay gave to why it stopped, and what it printed.
use Rattle.std.proofs.Common.{◌≡◌, ℕ, ◌<◌, ◌≤◌, List, [], length, map, Option, refl, subst, arith, inl, inr}
use Rattle.std.specs.Prelude.{Ok, Err, IfErr, IfOk, IfSome, OnOk, Result}
use mathlib.Core.Logic.{∥∥₁_map}
use Rattle.sn_io.specs.Causes.{Rose}
use Rattle.sn_io.specs.Told.{AppendsPrefix, appended}
use Rattle.sn_record.specs.Record.{Entries}
use Rattle.sn_record.specs.declared.item.Fault.{Fault}
use Rattle.sn_record.specs.declared.item.Item.{Item}
use Rattle.sn_net.specs.declared.net.Net.{Net}
use Rattle.sn_net.specs.Item.{modelled}
use Rattle.sn_model.specs.Meaning.{Setting}
use Rattle.sn_model.specs.declared.run.Run.{Run}
use Rattle.sn_output.specs.Printed.{ending, printed}
use Rattle.sn_replay.specs.Replays.{IsVerdict, Replays}
use Rattle.sn_replay.specs.Answers.{verdict_of_fault}
use Rattle.sn_replay.specs.declared.playing.TraceFault.{TraceFault}
use Rattle.sn_replay.specs.declared.playing.TraceFault.TheVariants as wrong
use Rattle.sn_stop.specs.declared.refusal.Which.TheVariants.{Source, Input, Trace as TraceFile}
use Rattle.sn_stop.specs.declared.refusal.Refusal.TheVariants.{TooLarge, Source as SourceAt, NoMain, TooDeep, LargeTree, TooManyNames, IllTyped, Variants, Line, Trace}
use Rattle.sn_stop.specs.declared.refusal.TraceRefusal.{TraceRefusal}
use Rattle.sn_stop.specs.declared.stop.Stop.{Stop}
use Rattle.sn_stop.specs.declared.stop.Stop.TheVariants.{Refused, Faulted, Unread, Memory, Write}
use Rattle.sn_load.specs.Load.{Limits, setting}
use Rattle.sn_plain.specs.Answer.{FindsReplay, WhyUnplayed}
use Rattle.sn_plain.specs.Ready.{IsReady, WhyNotReady, setting_at}
use Rattle.sn_plain.specs.Runs.{GotPart, HasBegun, HasPrinted, Manner, Printout, WhyCutOff, ended, whole}
use Rattle.sn_plain.specs.Seen.{File, Sink, WhyUnread}
use Rattle.sn_plain.specs.Stopping.{WhyUnplayable, trace_stop}
use Rattle.sn_plain.specs.Traces.{IsNoTrace, IsRefusedTrace, IsRunOver, Played, PlayedFrom}
use Rattle.sn_plain.specs.declared.ready.Ready.{Ready}
use Rattle.sn_plain.specs.declared.replaying.TheConstants.{TRACE_LIMIT}
use Rattle.sn_plain.proofs.Serving.{HasBytes, of_told, of_typed, shown_of}

-- WHAT IS PRINTED OF A RUN
module _ (text : List ℕ) (s : Setting) (net : Net) (records : List Entries) (names : List (List ℕ)) (out : Sink) (run : Run) (over : IsRunOver s net records run) where
  -- the text is refused
  pub refused : (fault : TraceFault) → IfSome (verdict_of_fault fault) (IsVerdict run text) → out.now ≡ out.before → WhyUnplayable text s net records names out (trace_stop fault)
  refused (wrong.BadLine n) is same = ((run, over, is), same)
  refused (wrong.NotEnabled n) is same = ((run, over, is), same)
  refused wrong.Unfinished is same = ((run, over, is), same)
  refused wrong.Memory is same = inl same

  module _ (items : List Item) (replays : Replays run text (map modelled items)) where
    -- these items come out by it, and are printed
    played : (fault : Option Fault) → fault ≡ ending (map modelled items) → Played text s net records names (ended (printed names (map modelled items)) fault)
    played fault is = (run, over, record { items = map modelled items; replays = replays; shown = record { bytes_are = refl; ending_is = is; unrefused = refl } })

    all_printed : (fault : Option Fault) → fault ≡ ending (map modelled items) → out.now ≡ appended out.before (printed names (map modelled items))
        → HasPrinted (Played text s net records names) out fault
    all_printed fault is now = (printed names (map modelled items), played fault is, now)

    begun : AppendsPrefix out.before out.now (printed names (map modelled items)) → HasBegun (Played text s net records names) out
    begun part = ∣ (ended (printed names (map modelled items)) (ending (map modelled items)), played (ending (map modelled items)) refl, part) ∣₁

    unfinished : (why : Stop) → WhyCutOff out (printed names (map modelled items)) why → WhyUnplayable text s net records names out why
    unfinished (Refused refusal) why = absurd why
    unfinished (Faulted fault) why = absurd why
    unfinished (Unread which) why = absurd why
    unfinished Memory why = inr (begun why)
    unfinished Write why = (why.0, begun why.1)

    -- what the printing of them came to
    pub printed_all : (result : Result (Option Fault) Stop) → IfOk result (λ fault. fault ≡ ending (map modelled items))
        → OnOk result (out.now ≡ appended out.before (printed names (map modelled items))) → IfOk result (HasPrinted (Played text s net records names) out)
    printed_all (Ok fault) ended whole = all_printed fault ended whole
    printed_all (Err why) ended whole = tt

    pub cut_off : (result : Result (Option Fault) Stop) → IfErr result (WhyCutOff out (printed names (map modelled items))) → IfErr result (WhyUnplayable text s net records names out)
    cut_off (Ok fault) stopped = tt
    cut_off (Err why) stopped = unfinished why stopped

-- WHAT IS FOUND OF THE FILES
module _ (limits : Limits) (source input trace : File) (out : Sink) where
  -- nothing was printed where there is nothing to run
  pub unplayed : out.now ≡ out.before → (why : Stop) → WhyNotReady source input why → WhyUnplayed limits source input trace out why
  unplayed same (Refused (TooLarge Source)) why = inl (why, same)
  unplayed same (Refused (TooLarge Input)) why = inl (why, same)
  unplayed same (Refused (TooLarge TraceFile)) why = absurd why
  unplayed same (Refused (SourceAt fault at)) why = inl (why, same)
  unplayed same (Refused NoMain) why = inl (why, same)
  unplayed same (Refused (TooDeep at)) why = inl (why, same)
  unplayed same (Refused (LargeTree at)) why = inl (why, same)
  unplayed same (Refused TooManyNames) why = inl (why, same)
  unplayed same (Refused (IllTyped fault at variant)) why = inl (why, same)
  unplayed same (Refused (Variants at)) why = inl (why, same)
  unplayed same (Refused (Line fault)) why = inl (why, same)
  unplayed same (Refused (Trace fault)) why = absurd why
  unplayed same (Faulted fault) why = absurd why
  unplayed same (Unread Source) why = (why, same)
  unplayed same (Unread Input) why = (why, same)
  unplayed same (Unread TraceFile) why = absurd why
  unplayed same Memory why = inl same
  unplayed same Write why = absurd why

  module _ (ready : Ready) (is : IsReady source.told input.told ready) where
    -- the trace was not read; `between` is its file as the read found it
    pub trace_unread : out.now ≡ out.before → (between : File) → between.told ≡ trace.told → trace.faults_before ≤ between.faults_before → between.faults_now ≡ trace.faults_now
        → (why : Stop) → WhyUnread TraceFile TRACE_LIMIT between why → WhyUnplayed limits source input trace out why
    trace_unread same between told later now (Refused (TooLarge Source)) why = cc
    trace_unread same between told later now (Refused (TooLarge Input)) why = cc
    trace_unread same between told later now (Refused (TooLarge TraceFile)) why =
        inl (of_typed source input ready is (λ program file. IfSome trace.told (λ text. TRACE_LIMIT < length text)) (subst (λ t. IfSome t (λ text. TRACE_LIMIT < length text)) told why.1), same)
    trace_unread same between told later now (Refused (SourceAt fault at)) why = absurd why
    trace_unread same between told later now (Refused NoMain) why = absurd why
    trace_unread same between told later now (Refused (TooDeep at)) why = absurd why
    trace_unread same between told later now (Refused (LargeTree at)) why = absurd why
    trace_unread same between told later now (Refused TooManyNames) why = absurd why
    trace_unread same between told later now (Refused (IllTyped fault at variant)) why = absurd why
    trace_unread same between told later now (Refused (Variants at)) why = absurd why
    trace_unread same between told later now (Refused (Line fault)) why = absurd why
    trace_unread same between told later now (Refused (Trace fault)) why = absurd why
    trace_unread same between told later now (Faulted fault) why = absurd why
    trace_unread same between told later now (Unread Source) why = cc
    trace_unread same between told later now (Unread Input) why = cc
    trace_unread same between told later now (Unread TraceFile) why =
        let rose : Rose trace.faults_before trace.faults_now = omega (arith, why.1) in
        ((rose, of_typed source input ready is (λ program file. Unit {0}) tt), same)
    trace_unread same between told later now Memory why = inl same
    trace_unread same between told later now Write why = absurd why

    module _ (text : List ℕ) (has : HasBytes trace TRACE_LIMIT text) where
      abbrev Shown : Printout → Type 0
      Shown = Played text (setting_at ready limits) ready.net ready.records ready.names

      -- what is printed then is what is found of the three
      found : (p : Printout) → Shown p → FindsReplay limits source.told input.told trace.told (Ok p)
      found p shown =
          of_typed source input ready is (λ program file. PlayedFrom trace.told (setting program limits) program.claim.net file.records file.names p)
          (of_told trace.told text (λ told. (length told ≤ TRACE_LIMIT) × Played told (setting is.program limits) is.program.claim.net is.file.records is.file.names p) has.told
          (has.within, shown_of source input ready is (Played text) limits p shown))

      pub finds_played : (fault end : Option Fault) → HasPrinted Shown out fault → fault ≡ end
          → (p : List ℕ) × FindsReplay limits source.told input.told trace.told (Ok (ended p end)) × (out.now ≡ appended out.before p)
      finds_played fault end printed is_end = (printed.0, found (ended printed.0 end) (subst (λ f. Shown (ended printed.0 f)) is_end printed.1), printed.2)

      begins : HasBegun Shown out → HasBegun (λ p. FindsReplay limits source.told input.told trace.told (Ok p)) out
      begins some = ∥∥₁_map some (λ part. (part.0, found part.0 part.1, part.2))

      part : GotPart Shown out → GotPart (λ p. FindsReplay limits source.told input.told trace.told (Ok p)) out
      part (inl same) = inl same
      part (inr some) = inr (begins some)

      no_trace : (fault : TraceRefusal) → IsNoTrace fault text (setting_at ready limits) ready.net ready.records → FindsReplay limits source.told input.told trace.told (Err (Trace fault))
      no_trace fault why =
          let Wrong : Manner = λ s net records names p. IsNoTrace fault text s net records in
          of_typed source input ready is (λ program file. IsRefusedTrace fault trace.told (setting program limits) program.claim.net file.records)
          (of_told trace.told text (λ told. (length told ≤ TRACE_LIMIT) × IsNoTrace fault told (setting is.program limits) is.program.claim.net is.file.records) has.told
          (has.within, shown_of source input ready is Wrong limits (whole []) why))

      pub not_played : (why : Stop) → WhyUnplayable text (setting_at ready limits) ready.net ready.records ready.names out why → WhyUnplayed limits source input trace out why
      not_played (Refused (Trace fault)) why = inl (no_trace fault why.0, why.1)
      not_played (Refused (TooLarge which)) why = absurd why.0
      not_played (Refused (SourceAt fault at)) why = absurd why.0
      not_played (Refused NoMain) why = absurd why.0
      not_played (Refused (TooDeep at)) why = absurd why.0
      not_played (Refused (LargeTree at)) why = absurd why.0
      not_played (Refused TooManyNames) why = absurd why.0
      not_played (Refused (IllTyped fault at variant)) why = absurd why.0
      not_played (Refused (Variants at)) why = absurd why.0
      not_played (Refused (Line fault)) why = absurd why.0
      not_played (Faulted fault) why = absurd why
      not_played (Unread which) why = absurd why
      not_played Memory why = part why
      not_played Write why = (why.0, begins why.1)
