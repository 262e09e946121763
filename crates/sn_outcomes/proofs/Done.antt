-- A command whose source is accepted is done, where the bytes of its files are told.
use Rattle.std.proofs.Common.{ℕ, List, ◌≡◌, ◌≤◌, refl, sym, ◌∙◌, ap, subst, length, arith}
use mathlib.Core.Logic.{∥∥₁_map}
use Rattle.sn_net.specs.Item.{ModelItem}
use Rattle.std.specs.Prelude.{Result, Ok, Err, None, Some, Option}
use Rattle.sn_input.specs.declared.input.Input.{Input}
use Rattle.sn_outcomes.proofs.Traced.{replay_is_of_run, replayed, traced_by_workers}
use Rattle.sn_outcomes.specs.Told.{IsTold}
use Rattle.sn_outcomes.proofs.Commands.{Feeds, Reports, finds_replay_once, input_in, reported, shown_by, finds_once, goes, finds_sample_once, finds_text_once, printout, tallied}
use Rattle.sn_outcomes.proofs.Judging.{Found, goes_accepted}
use Rattle.sn_outcomes.proofs.Inputs.{Comes, comes_once, typed_comes}
use Rattle.sn_output.specs.Printed.{ending, printed}
use Rattle.sn_sample.specs.Source.{source_text}
use Rattle.sn_plain.specs.Answer.{PrintsSample, Finds, FindsFor, FindsReplay, FindsReport, FindsText, IsAccepted, IsAnswered, Outside, done_status, ending_status, found_status}
use Rattle.sn_plain.specs.Runs.{ComesOut, Manner, OnOneThread, Printout, WithWorkers, ended, whole}
use Rattle.sn_plain.specs.declared.reports.Report.{Report}
use Rattle.sn_plain.specs.declared.reports.Report.TheVariants as report
use Rattle.sn_plain.specs.Seen.{File}
use Rattle.sn_plain.specs.Traces.{IsRunOver, Traced}
use Rattle.sn_plain.specs.declared.replaying.TheConstants.{TRACE_LIMIT}
use Rattle.sn_record.specs.Record.{Entries}
use Rattle.sn_net.specs.declared.net.Net.{Net}
use Rattle.sn_model.specs.Meaning.{Setting}
use Rattle.sn_model.specs.declared.run.Run.{Run as SomeRun}
use Rattle.sn_replay.specs.Replays.{Replays}
use Rattle.sn_load.specs.Load.{IsTypedFile, Limits, limits_of, setting, stream_of}
use Rattle.sn_plain.specs.Sample.{AreTypedSamples, answers_to}
use Rattle.sn_load.specs.Source.{HasText}
use Rattle.sn_load.specs.declared.load.Program.{Program}
use Rattle.sn_load.specs.declared.load.TheConstants.{INPUT_LIMIT, SOURCE_LIMIT}
use Rattle.sn_stop.specs.declared.refusal.Refusal.{Refusal}
use Rattle.sn_stop.specs.declared.status.Status.{Status}
use Rattle.sn_stop.specs.declared.status.Status.TheVariants as status
use Rattle.sn_words.specs.declared.command.Command.TheVariants.{Check, Once, Plan, Print, Replay, Run, Sample, Trace as ATrace}

-- what an accepted source and a typed record file print is found
once_found : (source input : Option (List ℕ)) (fuel depth : ℕ) (bytes more : List ℕ) (program : Program) (records : Input) → source ≡ Some bytes → input ≡ Some more → IsAccepted bytes program
    → length more ≤ INPUT_LIMIT → IsTypedFile program.names program.claim more records → Finds OnOneThread (limits_of fuel depth) source input (Ok (printout (limits_of fuel depth) program records))
once_found source input fuel depth bytes more program records s i accepted within typed =
    let limits = limits_of fuel depth in
    subst (λ (p : Option (List ℕ) × Option (List ℕ)). Finds OnOneThread limits p.0 p.1 (Ok (printout limits program records))) (λ j. (sym s j, sym i j))
    (program, accepted, record { within = within; input = records; typed = typed; shown = record { bytes_are = refl; ending_is = refl; unrefused = refl } })

pub once_done : (outside : Outside) (source input : List ℕ) (fuel depth : ℕ) (bytes more : List ℕ) (program : Program) (records : Input) (left : Status)
    → (outside.file source).told ≡ Some bytes → (outside.file input).told ≡ Some more → IsAccepted bytes program → length more ≤ INPUT_LIMIT → IsTypedFile program.names program.claim more records
    → IsAnswered (Once source input fuel depth) outside left → left ≡ ending_status (ending (stream_of (limits_of fuel depth) program records))
once_done outside source input fuel depth bytes more program records left s i accepted within typed answered =
    let limits = limits_of fuel depth in
    let found = once_found (outside.file source).told (outside.file input).told fuel depth bytes more program records s i accepted within typed in
    answered.status_is
    ∙ ap found_status (finds_once limits bytes more (outside.file source).told (outside.file input).told answered.found (Ok (printout limits program records)) s i answered.finds found)

-- the end of a stream that may come out
abbrev pub EndsAsStream : Limits → Program → Input → Status → Type 0
EndsAsStream limits program records left =
    ∥ ((stream : List ModelItem) × ComesOut (setting program limits) program.claim.net records.records stream × (left ≡ ending_status (ending stream))) ∥₁

-- what ends as such a stream, in one manner or another
module _ (Shows : Manner) (streams : (s : Setting) (net : Net) (records : List Entries) (names : List (List ℕ)) (p : Printout) → Shows s net records names p
    → ∥ ((stream : List ModelItem) × ComesOut s net records stream × (p.ending ≡ ending stream) × (p.refused ≡ None)) ∥₁) (limits : Limits) (bytes more : List ℕ) (program : Program) (records : Input) (left : Status) where
  ends_done : (source input : Option (List ℕ)) (found : Found) → source ≡ Some bytes → input ≡ Some more → IsAccepted bytes program → IsTypedFile program.names program.claim more records
      → length more ≤ INPUT_LIMIT → Finds Shows limits source input found → left ≡ found_status found → EndsAsStream limits program records left
  ends_done source input found s i accepted typed within finds is =
      by found (goes_accepted bytes (Feeds (shown_by Shows) limits more) program found accepted (goes Shows limits bytes more found told)) is
    where
      told : Finds Shows limits (Some bytes) (Some more) found
      told = subst (λ (p : Option (List ℕ) × Option (List ℕ)). Finds Shows limits p.0 p.1 found) (λ j. (s j, i j)) finds

      one : (r : Result Input Refusal) → Comes program.names program.claim more r → r ≡ Ok records
      one r f = comes_once program.names program.claim more r (Ok records) f (typed_comes program.names program.claim more records typed)

      ends : (found : Found) (r : Input) → r ≡ records → shown_by Shows (setting program limits) program.claim.net r.records r.names found → left ≡ found_status found → EndsAsStream limits program records left
      ends (Ok p) r same shown is =
          ∥∥₁_map (streams (setting program limits) program.claim.net r.records r.names p shown) (λ some. (
            some.0,
            subst (λ (x : Input). ComesOut (setting program limits) program.claim.net x.records some.0) same some.1,
            is ∙ (λ i. done_status (some.2 i) (some.3 i)),
          ))
      ends (Err refusal) r same shown is = absurd shown

      by : (found : Found) → Feeds (shown_by Shows) limits more program found → left ≡ found_status found → EndsAsStream limits program records left
      by found (Feeds.large l) is = absurd (omega arith)
      by found (Feeds.refused r w f) is = let same = one (Err r) f in absurd cc
      by found (Feeds.fed r p w f shown) is = ends p r (ap (input_in r) (one (Ok r) f)) shown is

-- a run with workers ends as one of the streams that may come out
pub run_done : (outside : Outside) (source input : List ℕ) (workers fuel depth queue plan : ℕ) (bytes more : List ℕ) (program : Program) (records : Input) (left : Status)
    → (outside.file source).told ≡ Some bytes → (outside.file input).told ≡ Some more → IsAccepted bytes program → IsTypedFile program.names program.claim more records → length more ≤ INPUT_LIMIT
    → IsAnswered (Run source input workers fuel depth queue plan) outside left
    → ∥ ((stream : List ModelItem) × ComesOut (setting program (limits_of fuel depth)) program.claim.net records.records stream × (left ≡ ending_status (ending stream))) ∥₁
run_done outside source input workers fuel depth queue plan bytes more program records left s i accepted typed within answered =
    ends_done WithWorkers (λ s net records names p shown. ∥∥₁_map shown (λ some. (some.0, some.1, some.2.ending_is, some.2.unrefused))) (limits_of fuel depth) bytes more program records left
    (outside.file source).told (outside.file input).told answered.found s i accepted typed within answered.finds answered.status_is

-- and so does one that is traced
pub trace_done : (outside : Outside) (source input : List ℕ) (workers fuel depth queue : ℕ) (bytes more : List ℕ) (program : Program) (records : Input) (left : Status)
    → (outside.file source).told ≡ Some bytes → (outside.file input).told ≡ Some more → IsAccepted bytes program → IsTypedFile program.names program.claim more records → length more ≤ INPUT_LIMIT
    → IsAnswered (ATrace source input workers fuel depth queue) outside left
    → ∥ ((stream : List ModelItem) × ComesOut (setting program (limits_of fuel depth)) program.claim.net records.records stream × (left ≡ ending_status (ending stream))) ∥₁
trace_done outside source input workers fuel depth queue bytes more program records left s i accepted typed within answered =
    ends_done Traced
    (λ s net records names p shown.
    let (q, by_workers, same) = traced_by_workers s net records names p shown in
    ∥∥₁_map by_workers (λ some. (some.0, some.1, sym same ∙ some.2.ending_is, shown.2.unrefused))) (limits_of fuel depth) bytes more program records left
    (outside.file source).told (outside.file input).told answered.found s i accepted typed within answered.finds answered.status_is

-- a replay of a trace ends as what comes out by it
pub replay_done : (outside : Outside) (source input trace : List ℕ) (fuel depth : ℕ) (bytes more text : List ℕ) (program : Program) (records : Input) (run : SomeRun) (items : List ModelItem) (left : Status)
    → (outside.file source).told ≡ Some bytes → (outside.file input).told ≡ Some more → (outside.file trace).told ≡ Some text → IsAccepted bytes program → IsTypedFile program.names program.claim more records
    → length more ≤ INPUT_LIMIT → length text ≤ TRACE_LIMIT → IsRunOver (setting program (limits_of fuel depth)) program.claim.net records.records run → Replays run text items
    → IsAnswered (Replay source input trace fuel depth) outside left → left ≡ ending_status (ending items)
replay_done outside source input trace fuel depth bytes more text program records run items left s i t accepted typed within short over replays answered =
    let limits = limits_of fuel depth in
    let p : Printout = ended (printed records.names items) (ending items) in
    let Of : Option (List ℕ) × Option (List ℕ) × Option (List ℕ) → Type 0 = λ files. FindsReplay limits files.0 files.1 files.2 (Ok p) in
    let found : FindsReplay limits (outside.file source).told (outside.file input).told (outside.file trace).told (Ok p) =
    subst Of (λ j. (sym s j, sym i j, sym t j))
    (program, accepted, (within, records, typed, (short, (run, over, record { items = items; replays = replays; shown = record { bytes_are = refl; ending_is = refl; unrefused = refl } })))) in
    answered.status_is
    ∙ ap found_status
    (finds_replay_once limits bytes more text (outside.file source).told (outside.file input).told (outside.file trace).told answered.found (Ok p) s i t answered.finds found)

-- what a run wrote of itself is replayed, and ends as the run did
pub trace_again : (file : List ℕ → File) (source input trace : List ℕ) (workers fuel depth queue : ℕ) (p : Printout) (found : Found) → IsTold (file source) → IsTold (file input)
    → (file trace).told ≡ Some p.bytes → length p.bytes ≤ TRACE_LIMIT → FindsFor (ATrace source input workers fuel depth queue) file (Ok p) → FindsFor (Replay source input trace fuel depth) file found
    → (q : Printout) × (found ≡ Ok q) × (q.ending ≡ p.ending)
trace_again file source input trace workers fuel depth queue p found told_source told_input t short traced f =
    let limits = limits_of fuel depth in
    let bytes = told_source.bytes in
    let s = told_source.are in
    let more = told_input.bytes in
    let i = told_input.are in
    let told : Finds Traced limits (Some bytes) (Some more) (Ok p) = subst (λ (x : Option (List ℕ) × Option (List ℕ)). Finds Traced limits x.0 x.1 (Ok p)) (λ j. (s j, i j)) traced in
    let (q, plays, same) = replayed limits bytes more p short told in
    let Of : Option (List ℕ) × Option (List ℕ) × Option (List ℕ) → Type 0 = λ files. FindsReplay limits files.0 files.1 files.2 (Ok q) in
    let back : FindsReplay limits (file source).told (file input).told (file trace).told (Ok q) = subst Of (λ j. (sym s j, sym i j, sym t j)) plays in
    (q, finds_replay_once limits bytes more p.bytes (file source).told (file input).told (file trace).told found (Ok q) s i t f back, same)

-- what a replay prints a run may print
pub replay_by_run : (file : List ℕ → File) (source input trace : List ℕ) (workers fuel depth queue plan : ℕ) (p : Printout) → IsTold (file trace) → FindsFor (Replay source input trace fuel depth) file (Ok p)
    → FindsFor (Run source input workers fuel depth queue plan) file (Ok p)
replay_by_run file source input trace workers fuel depth queue plan p told f =
    replay_is_of_run (limits_of fuel depth) (file source).told (file input).told told.bytes p
    (subst (λ x. FindsReplay (limits_of fuel depth) (file source).told (file input).told x (Ok p)) told.are f)

-- a report on an accepted source ends well
report_ends : (about : Report) (source : Option (List ℕ)) (bytes : List ℕ) (program : Program) (found : Found) → source ≡ Some bytes → IsAccepted bytes program → FindsReport about source found → found_status found ≡ status.Ok
report_ends about source bytes program found s accepted finds =
    let reports = goes_accepted bytes (Reports about) program found accepted (reported about bytes found (subst (λ x. FindsReport about x found) s finds)) in
    ap found_status reports.is

pub check_done : (outside : Outside) (source bytes : List ℕ) (program : Program) (left : Status) → (outside.file source).told ≡ Some bytes → IsAccepted bytes program
    → IsAnswered (Check source) outside left → left ≡ status.Ok
check_done outside source bytes program left s accepted answered = answered.status_is ∙ report_ends report.Flows (outside.file source).told bytes program answered.found s accepted answered.finds

pub plan_done : (outside : Outside) (source bytes : List ℕ) (program : Program) (left : Status) → (outside.file source).told ≡ Some bytes → IsAccepted bytes program
    → IsAnswered (Plan source) outside left → left ≡ status.Ok
plan_done outside source bytes program left s accepted answered = answered.status_is ∙ report_ends report.Plan (outside.file source).told bytes program answered.found s accepted answered.finds

pub print_done : (outside : Outside) (source bytes text : List ℕ) (left : Status) → (outside.file source).told ≡ Some bytes → length bytes ≤ SOURCE_LIMIT → HasText bytes text
    → IsAnswered (Print source) outside left → left ≡ status.Ok
print_done outside source bytes text left s within has answered =
    let found : FindsText (outside.file source).told (Ok (whole text)) = subst (λ x. FindsText x (Ok (whole text))) (sym s) (within, has, refl) in
    answered.status_is ∙ ap found_status (finds_text_once bytes (outside.file source).told answered.found (Ok (whole text)) s answered.finds found)

pub sample_done : (outside : Outside) (number count : ℕ) (program : Program) (left : Status) → IsAccepted source_text program → AreTypedSamples program.names program.claim number count
    → IsAnswered (Sample number count) outside left → left ≡ ending_status (ending (answers_to program number count))
sample_done outside number count program left accepted typed answered =
    let prints : PrintsSample program number count (tallied program number count) = record { typed = typed; bytes_are = refl; ending_is = refl; unrefused = refl } in
    answered.status_is ∙ ap found_status (finds_sample_once number count answered.found (Ok (tallied program number count)) answered.finds (program, accepted, prints))
