-- A command and its files are found to be one thing, where the bytes of the files are told.
use Rattle.std.proofs.Common.{ℕ, List, ◌≡◌, ◌<◌, ◌≤◌, refl, sym, ◌∙◌, ap, subst, inl, inr, length, arith}
use Rattle.std.specs.Prelude.{Result, Ok, Err, Option, None, Some, option_map, ◌+◌}
use Rattle.std.proofs.lemmas.Option.{none-some}
use Rattle.sn_input.specs.declared.input.Input.{Input}
use Rattle.sn_outcomes.proofs.Flows.{same_flows}
use Rattle.sn_outcomes.proofs.Inputs.{Comes, comes_once, refusal_comes, typed_comes}
use Rattle.sn_outcomes.proofs.Judging.{Found, Goes, goes_once, program_goes, wrong_goes}
use Rattle.sn_outcomes.proofs.Sources.{text_once}
use Rattle.sn_outcomes.proofs.Runs.{run_is_once}
use Rattle.sn_outcomes.specs.Told.{AreTold}
use Rattle.sn_output.specs.Printed.{printed, ending}
use Rattle.sn_sample.specs.Source.{source_text}
use Rattle.sn_sample.specs.Tally.{counted, counts_line}
use Rattle.sn_plain.specs.Answer.{Finds, FindsFeed, FindsReplay, FindsSample, FindsReport, FindsText, FindsFor, IsAccepted, IsAnswered, IsRefused, IsRefusedAlone, IsRefusedInput, Outside, found_status}
use Rattle.sn_net.specs.Net.{nodes}
use Rattle.sn_net.specs.declared.expr.BoxProgram.{BoxProgram}
use Rattle.sn_stream_labels.specs.Known.{Knows}
use Rattle.sn_source_labels.proofs.Sources.{source_knows}
use Rattle.sn_pieces.specs.Known.{is_known}
use Rattle.sn_plain.specs.Feeding.{IsFed, fed_of}
use Rattle.sn_outcomes.proofs.Fed.{fed_once}
use Rattle.sn_planned.proofs.Unique.{one_plan}
use Rattle.sn_plain.specs.Reports.{HasReport, plan_line}
use Rattle.sn_plain.specs.declared.reports.Report.{Report}
use Rattle.sn_plain.specs.declared.reports.Report.TheVariants as report
use Rattle.sn_load.specs.Load.{IsTypedFile, Limits, limits_of, setting, WhyNoRecords, stream_of}
use Rattle.sn_plain.specs.Runs.{Manner, OnOneThread, Printout, WithWorkers, ended, whole}
use Rattle.sn_plain.specs.Sample.{AreTypedSamples, HasNoRoom, HasUntypedSample, answers_to, names_with}
use Rattle.sn_plain.specs.Seen.{File}
use Rattle.sn_plain.specs.Traces.{IsRunOver}
use Rattle.sn_plain.specs.declared.replaying.TheConstants.{TRACE_LIMIT}
use Rattle.sn_record.specs.Record.{Entries}
use Rattle.sn_net.specs.declared.net.Net.{Net}
use Rattle.sn_model.specs.Meaning.{Setting}
use Rattle.sn_model.specs.declared.run.Run.{Run as SomeRun}
use Rattle.sn_replay.specs.Queues.{AreAlike}
use Rattle.sn_replay.specs.Replays.{BadLine, IsVerdict, NotEnabled, Replayed, Unfinished, Verdict}
use Rattle.sn_replay.proofs.Queues.{same_verdict}
use Rattle.sn_replay.proofs.Verdicts.{only_verdict}
use Rattle.sn_load.specs.Source.{FindsSource}
use Rattle.sn_load.specs.declared.load.Program.{Program}
use Rattle.sn_load.specs.declared.load.TheConstants.{SOURCE_LIMIT, INPUT_LIMIT}
use Rattle.sn_stop.specs.declared.refusal.LineFault.TheVariants as wrong
use Rattle.sn_stop.specs.declared.refusal.Refusal.{Refusal}
use Rattle.sn_stop.specs.declared.refusal.Refusal.TheVariants.{TooLarge, Source as SourceAt, NoMain, TooDeep, LargeTree, TooManyNames, IllTyped, Variants, Line, Trace}
use Rattle.sn_stop.specs.declared.refusal.TraceRefusal.TheVariants as trace
use Rattle.sn_stop.specs.declared.status.Status.{Status}
use Rattle.sn_stop.specs.declared.refusal.Which.TheVariants.{Source, Input as InputFile, Trace as TraceFile}
use Rattle.sn_words.specs.declared.command.Command.{Command}
use Rattle.sn_words.specs.declared.command.Command.TheVariants.{Run, Once, Check, Print, Plan, Trace as ATrace, Replay, Feed, Sample}

-- what comes of a stream is printed
abbrev pub printout : Limits → Program → Input → Printout
printout limits program input = ended (printed input.names (stream_of limits program input)) (ending (stream_of limits program input))

-- what is found of the records of an input, with their names
abbrev pub Giving : Type 1
Giving = Setting → Net → List Entries → List (List ℕ) → Found → Type 0

-- in one manner of running or another they are printed
abbrev pub shown_by : Manner → Giving
shown_by Shows s net records names (Ok p) = Shows s net records names p
shown_by Shows s net records names (Err refusal) = ⊥

-- what is found of an input
pub data Feeds (Gives : Giving) (limits : Limits) (more : List ℕ) (program : Program) : Found → Type 0 where
  large : INPUT_LIMIT < length more → Feeds Gives limits more program (Err (TooLarge InputFile))
  refused : (refusal : Refusal) → length more ≤ INPUT_LIMIT → Comes program.names program.claim more (Err refusal) → Feeds Gives limits more program (Err refusal)
  fed : (input : Input) (found : Found) → length more ≤ INPUT_LIMIT → Comes program.names program.claim more (Ok input) → Gives (setting program limits) program.claim.net input.records input.names found
      → Feeds Gives limits more program found

-- on one thread the printout is that of the input
given_once : (s : Setting) (net : Net) (records : List Entries) (names : List (List ℕ)) (found other : Found) → shown_by OnOneThread s net records names found
    → shown_by OnOneThread s net records names other → found ≡ other
given_once s net records names (Ok p) (Ok q) shown also = λ i. Ok (record { bytes = (shown.bytes_are ∙ sym also.bytes_are) i; ending = (shown.ending_is ∙ sym also.ending_is) i; refused = (shown.unrefused ∙ sym also.unrefused) i })
given_once s net records names (Ok p) (Err r) shown also = absurd also
given_once s net records names (Err r) other shown also = absurd shown

abbrev pub input_in : Input → Result Input Refusal → Input
input_in other (Ok input) = input
input_in other (Err refusal) = other

abbrev refusal_in : Refusal → Result Input Refusal → Refusal
refusal_in other (Ok input) = other
refusal_in other (Err refusal) = refusal

module _ (Gives : Giving) (one : (s : Setting) (net : Net) (records : List Entries) (names : List (List ℕ)) (found other : Found) → Gives s net records names found → Gives s net records names other → found ≡ other)
    (limits : Limits) (more : List ℕ) (program : Program) where
  comes : (r s : Result Input Refusal) → Comes program.names program.claim more r → Comes program.names program.claim more s → r ≡ s
  comes = comes_once program.names program.claim more

  feeds_once : (found other : Found) → Feeds Gives limits more program found → Feeds Gives limits more program other → found ≡ other
  feeds_once found other (Feeds.large l) (Feeds.large k) = refl
  feeds_once found other (Feeds.large l) (Feeds.refused s w g) = absurd (omega arith)
  feeds_once found other (Feeds.large l) (Feeds.fed s q w g h) = absurd (omega arith)
  feeds_once found other (Feeds.refused r w f) (Feeds.large l) = absurd (omega arith)
  feeds_once found other (Feeds.refused r w f) (Feeds.refused s v g) = ap (λ x. Err (refusal_in r x)) (comes (Err r) (Err s) f g)
  feeds_once found other (Feeds.refused r w f) (Feeds.fed s q v g h) = let same = comes (Err r) (Ok s) f g in absurd cc
  feeds_once found other (Feeds.fed r p w f h) (Feeds.large l) = absurd (omega arith)
  feeds_once found other (Feeds.fed r p w f h) (Feeds.refused s v g) = let same = comes (Ok r) (Err s) f g in absurd cc
  feeds_once found other (Feeds.fed r p w f h) (Feeds.fed s q v g k) =
      let same : s ≡ r = ap (input_in r) (comes (Ok s) (Ok r) g f) in
      one (setting program limits) program.claim.net r.records r.names p q h (subst (λ (x : Input). Gives (setting program limits) program.claim.net x.records x.names q) same k)

module _ (Gives : Giving) (limits : Limits) (bytes more : List ℕ) where
  wrong_input : (refusal : Refusal) → IsRefusedInput (Some more) (λ names claim more. WhyNoRecords names claim more refusal) bytes → Goes bytes (Feeds Gives limits more) (Err refusal)
  wrong_input refusal (program, accepted, why) =
      program_goes bytes (Feeds Gives limits more) (Err refusal) program accepted (Feeds.refused refusal why.0 (refusal_comes program.names program.claim more refusal why.1))

  -- the checks before a run refuse
  refused_goes : (refusal : Refusal) → IsRefused (Some bytes) (Some more) refusal → Goes bytes (Feeds Gives limits more) (Err refusal)
  refused_goes (TooLarge Source) f = Goes.large f
  refused_goes (TooLarge InputFile) f = program_goes bytes (Feeds Gives limits more) (Err (TooLarge InputFile)) f.0 f.1 (Feeds.large f.2)
  refused_goes (TooLarge TraceFile) f = absurd f
  refused_goes (SourceAt fault at) f = wrong_goes bytes (Feeds Gives limits more) (SourceAt fault at) f
  refused_goes NoMain f = wrong_goes bytes (Feeds Gives limits more) NoMain f
  refused_goes (TooDeep at) f = wrong_goes bytes (Feeds Gives limits more) (TooDeep at) f
  refused_goes (LargeTree at) f = wrong_goes bytes (Feeds Gives limits more) (LargeTree at) f
  refused_goes TooManyNames (inl f) = wrong_goes bytes (Feeds Gives limits more) TooManyNames f
  refused_goes TooManyNames (inr f) = wrong_input TooManyNames f
  refused_goes (IllTyped fault at variant) f = wrong_goes bytes (Feeds Gives limits more) (IllTyped fault at variant) f
  refused_goes (Variants at) f = wrong_goes bytes (Feeds Gives limits more) (Variants at) f
  refused_goes (Line fault) f = wrong_input (Line fault) f
  refused_goes (Trace fault) f = absurd f

-- what is found of a source and an input
pub goes : (Shows : Manner) (limits : Limits) (bytes more : List ℕ) (found : Found) → Finds Shows limits (Some bytes) (Some more) found → Goes bytes (Feeds (shown_by Shows) limits more) found
goes Shows limits bytes more (Err refusal) f = refused_goes (shown_by Shows) limits bytes more refusal f
goes Shows limits bytes more (Ok p) (program, accepted, prints) =
    program_goes bytes (Feeds (shown_by Shows) limits more) (Ok p) program accepted
    (Feeds.fed prints.input (Ok p) prints.within (typed_comes program.names program.claim more prints.input prints.typed) prints.shown)

pub finds_once : (limits : Limits) (bytes more : List ℕ) (source input : Option (List ℕ)) (found other : Found) → source ≡ Some bytes → input ≡ Some more →
    Finds OnOneThread limits source input found → Finds OnOneThread limits source input other → found ≡ other
finds_once limits bytes more source input found other s i f g =
    let f' : Finds OnOneThread limits (Some bytes) (Some more) found = subst (λ (p : Option (List ℕ) × Option (List ℕ)). Finds OnOneThread limits p.0 p.1 found) (λ j. (s j, i j)) f in
    let g' : Finds OnOneThread limits (Some bytes) (Some more) other = subst (λ (p : Option (List ℕ) × Option (List ℕ)). Finds OnOneThread limits p.0 p.1 other) (λ j. (s j, i j)) g in
    goes_once bytes (Feeds (shown_by OnOneThread) limits more) (Feeds (shown_by OnOneThread) limits more) (feeds_once (shown_by OnOneThread) given_once limits more) found other
    (goes OnOneThread limits bytes more found f') (goes OnOneThread limits bytes more other g')

-- WHAT IS FOUND OF A TRACE
abbrev pub found_by : List (List ℕ) → Verdict → Found
found_by names (Replayed ys) = Ok (ended (printed names ys) (ending ys))
found_by names (BadLine n) = Err (Trace (trace.BadLine n))
found_by names (NotEnabled n) = Err (Trace (trace.NotEnabled n))
found_by names Unfinished = Err (Trace trace.Unfinished)

pub data Plays (text : List ℕ) (s : Setting) (net : Net) (records : List Entries) (names : List (List ℕ)) : Found → Type 0 where
  long : TRACE_LIMIT < length text → Plays text s net records names (Err (TooLarge TraceFile))
  said : (found : Found) (run : SomeRun) (verdict : Verdict) → length text ≤ TRACE_LIMIT → IsRunOver s net records run → IsVerdict run text verdict → found ≡ found_by names verdict
      → Plays text s net records names found

-- two runs of one network over the same records are alike
pub alike : (s : Setting) (net : Net) (records : List Entries) (run other : SomeRun) → IsRunOver s net records run → IsRunOver s net records other → AreAlike run other
alike s net records run other a b = record {
  net = a.net_is ∙ sym b.net_is;
  boxes = a.boxes_are ∙ sym b.boxes_are;
  fuel = a.fuel_is ∙ sym b.fuel_is;
  depth = a.depth_is ∙ sym b.depth_is;
  input = a.input_is ∙ sym b.input_is;
}

plays_once : (text : List ℕ) (s : Setting) (net : Net) (records : List Entries) (names : List (List ℕ)) (found other : Found) → Plays text s net records names found → Plays text s net records names other → found ≡ other
plays_once text s net records names found other (Plays.long l) (Plays.long k) = refl
plays_once text s net records names found other (Plays.long l) (Plays.said g run v w o is e) = absurd (omega arith)
plays_once text s net records names found other (Plays.said f run v w o is e) (Plays.long l) = absurd (omega arith)
plays_once text s net records names found other (Plays.said f run v w o is e) (Plays.said g another u x p are d) =
    e ∙ ap (found_by names) (only_verdict another text v u (same_verdict run another (alike s net records run another o p) text v is) are) ∙ sym d

module _ (limits : Limits) (bytes more text : List ℕ) where
  abbrev Played : Program → Found → Type 0
  Played = Feeds (Plays text) limits more

  -- the text was judged
  told : (found : Found) (program : Program) (file : Input) → IsAccepted bytes program → length more ≤ INPUT_LIMIT → IsTypedFile program.names program.claim more file
      → Plays text (setting program limits) program.claim.net file.records file.names found → Goes bytes Played found
  told found program file accepted within typed plays = program_goes bytes Played found program accepted (Feeds.fed file found within (typed_comes program.names program.claim more file typed) plays)

  refuses : (refusal : Refusal) → IsRefused (Some bytes) (Some more) refusal → Goes bytes Played (Err refusal)
  refuses = refused_goes (Plays text) limits bytes more

  pub replay_goes : (found : Found) → FindsReplay limits (Some bytes) (Some more) (Some text) found → Goes bytes Played found
  replay_goes (Err (TooLarge Source)) f = refuses (TooLarge Source) f
  replay_goes (Err (TooLarge InputFile)) f = refuses (TooLarge InputFile) f
  replay_goes (Err (TooLarge TraceFile)) (program, accepted, (within, file, typed, past)) = told (Err (TooLarge TraceFile)) program file accepted within typed (Plays.long past)
  replay_goes (Err (SourceAt fault at)) f = refuses (SourceAt fault at) f
  replay_goes (Err NoMain) f = refuses NoMain f
  replay_goes (Err (TooDeep at)) f = refuses (TooDeep at) f
  replay_goes (Err (LargeTree at)) f = refuses (LargeTree at) f
  replay_goes (Err TooManyNames) f = refuses TooManyNames f
  replay_goes (Err (IllTyped fault at variant)) f = refuses (IllTyped fault at variant) f
  replay_goes (Err (Variants at)) f = refuses (Variants at) f
  replay_goes (Err (Line fault)) f = refuses (Line fault) f
  replay_goes (Err (Trace (trace.BadLine n))) (program, accepted, (within, file, typed, (short, (run, over, is)))) =
      told (Err (Trace (trace.BadLine n))) program file accepted within typed (Plays.said _ run (BadLine n) short over is refl)
  replay_goes (Err (Trace (trace.NotEnabled n))) (program, accepted, (within, file, typed, (short, (run, over, is)))) =
      told (Err (Trace (trace.NotEnabled n))) program file accepted within typed (Plays.said _ run (NotEnabled n) short over is refl)
  replay_goes (Err (Trace trace.Unfinished)) (program, accepted, (within, file, typed, (short, (run, over, is)))) =
      told (Err (Trace trace.Unfinished)) program file accepted within typed (Plays.said _ run Unfinished short over is refl)
  replay_goes (Ok p) (program, accepted, (within, file, typed, (short, (run, over, is)))) =
      told (Ok p) program file accepted within typed
      (Plays.said (Ok p) run (Replayed is.items) short over is.replays (λ i. Ok (record { bytes = is.shown.bytes_are i; ending = is.shown.ending_is i; refused = is.shown.unrefused i })))

pub finds_replay_once : (limits : Limits) (bytes more text : List ℕ) (source input trace : Option (List ℕ)) (found other : Found) → source ≡ Some bytes → input ≡ Some more → trace ≡ Some text →
    FindsReplay limits source input trace found → FindsReplay limits source input trace other → found ≡ other
finds_replay_once limits bytes more text source input trace found other s i t f g =
    let Of : Found → Option (List ℕ) × Option (List ℕ) × Option (List ℕ) → Type 0 = λ x files. FindsReplay limits files.0 files.1 files.2 x in
    let f' : FindsReplay limits (Some bytes) (Some more) (Some text) found = subst (Of found) (λ j. (s j, i j, t j)) f in
    let g' : FindsReplay limits (Some bytes) (Some more) (Some text) other = subst (Of other) (λ j. (s j, i j, t j)) g in
    goes_once bytes (Feeds (Plays text) limits more) (Feeds (Plays text) limits more) (feeds_once (Plays text) (plays_once text) limits more) found other
    (replay_goes limits bytes more text found f') (replay_goes limits bytes more text other g')

-- what is found of a program whose types are checked: the whole text of a report
pub record Reports (about : Report) (program : Program) (found : Found) : Type 0 where
  pub text : List ℕ
  pub has : HasReport about program text
  pub is : found ≡ Ok (whole text)

same_report : (about : Report) (program : Program) (text other : List ℕ) → HasReport about program text → HasReport about program other → text ≡ other
same_report report.Flows program text other a b = same_flows program program.claim.input text other a b
same_report report.Plan program text other (count, (planned, is_plan, count_is), text_is) (others, (net, is, others_is), other_is) =
    text_is ∙ ap (plan_line (nodes program.claim.net)) (count_is ∙ ap nodes (one_plan program.boxes program.claim planned net is_plan is) ∙ sym others_is) ∙ sym other_is

reports_once : (about : Report) (program : Program) (found other : Found) → Reports about program found → Reports about program other → found ≡ other
reports_once about program found other a b = a.is ∙ ap (λ text. Ok (whole text)) (same_report about program a.text b.text a.has b.has) ∙ sym b.is

-- the checks of a source alone refuse
refused_alone : (bytes : List ℕ) (P : Program → Found → Type 0) (refusal : Refusal) → IsRefusedAlone (Some bytes) refusal → Goes bytes P (Err refusal)
refused_alone bytes P (TooLarge Source) f = Goes.large f
refused_alone bytes P (TooLarge InputFile) f = absurd f
refused_alone bytes P (TooLarge TraceFile) f = absurd f
refused_alone bytes P (SourceAt fault at) f = wrong_goes bytes P (SourceAt fault at) f
refused_alone bytes P NoMain f = wrong_goes bytes P NoMain f
refused_alone bytes P (TooDeep at) f = wrong_goes bytes P (TooDeep at) f
refused_alone bytes P (LargeTree at) f = wrong_goes bytes P (LargeTree at) f
refused_alone bytes P TooManyNames f = wrong_goes bytes P TooManyNames f
refused_alone bytes P (IllTyped fault at variant) f = wrong_goes bytes P (IllTyped fault at variant) f
refused_alone bytes P (Variants at) f = wrong_goes bytes P (Variants at) f
refused_alone bytes P (Line fault) f = absurd f
refused_alone bytes P (Trace fault) f = absurd f

pub reported : (about : Report) (bytes : List ℕ) (found : Found) → FindsReport about (Some bytes) found → Goes bytes (Reports about) found
reported about bytes (Err refusal) f = refused_alone bytes (Reports about) refusal f
reported about bytes (Ok p) (program, accepted, has, ends) = program_goes bytes (Reports about) (Ok p) program accepted (record { text = p.bytes; has = has; is = ap Ok ends })

finds_report_once : (about : Report) (bytes : List ℕ) (source : Option (List ℕ)) (found other : Found) → source ≡ Some bytes → FindsReport about source found → FindsReport about source other → found ≡ other
finds_report_once about bytes source found other s f g =
    goes_once bytes (Reports about) (Reports about) (reports_once about) found other (reported about bytes found (subst (λ x. FindsReport about x found) s f))
    (reported about bytes other (subst (λ x. FindsReport about x other) s g))

-- WHAT IS FOUND OF A LONG INPUT
pub record Feeding (limits : Limits) (more : List ℕ) (program : Program) (found : Found) : Type 0 where
  pub printout : Printout
  pub knows : Knows (is_known program.names) program.boxes program.claim.net
  pub fed : IsFed (fed_of limits program) more printout
  pub is : found ≡ Ok printout

-- the names of an accepted program know its labels
pub program_knows : (bytes : List ℕ) (program : Program) → IsAccepted bytes program → Knows (is_known program.names) program.boxes program.claim.net
program_knows bytes program accepted =
    let resolved = accepted.main.resolved in
    let main = accepted.main.so in
    subst (λ (x : List (List ℕ) × List BoxProgram). Knows (is_known x.0) x.1 program.claim.net) (λ i. (sym main.names_are i, sym main.boxes_are i))
    (source_knows resolved.tree accepted.main.parts accepted.main.parts.main program.claim resolved.is main.main)

feeding_once : (limits : Limits) (more : List ℕ) (program : Program) (found other : Found) → Feeding limits more program found → Feeding limits more program other → found ≡ other
feeding_once limits more program found other a b = a.is ∙ ap Ok (fed_once (fed_of limits program) a.knows more a.printout b.printout a.fed b.fed) ∙ sym b.is

pub feeding : (limits : Limits) (bytes more : List ℕ) (source input : Option (List ℕ)) (found : Found) → source ≡ Some bytes → input ≡ Some more → FindsFeed limits source input found
    → Goes bytes (Feeding limits more) found
feeding limits bytes more source input found s i f = by found (subst (λ (x : Option (List ℕ) × Option (List ℕ)). FindsFeed limits x.0 x.1 found) (λ j. (s j, i j)) f)
  where
    by : (found : Found) → FindsFeed limits (Some bytes) (Some more) found → Goes bytes (Feeding limits more) found
    by (Err refusal) f = refused_alone bytes (Feeding limits more) refusal f
    by (Ok p) (program, accepted, is_fed) = program_goes bytes (Feeding limits more) (Ok p) program accepted (record { printout = p; knows = program_knows bytes program accepted; fed = is_fed; is = refl })

pub finds_feed_once : (limits : Limits) (bytes more : List ℕ) (source input : Option (List ℕ)) (found other : Found) → source ≡ Some bytes → input ≡ Some more → FindsFeed limits source input found
    → FindsFeed limits source input other → found ≡ other
finds_feed_once limits bytes more source input found other s i f g =
    goes_once bytes (Feeding limits more) (Feeding limits more) (feeding_once limits more) found other (feeding limits bytes more source input found s i f) (feeding limits bytes more source input other s i g)

-- the whole text of a source, or its refusal
abbrev text_found : Result (List ℕ) Refusal → Found
text_found (Ok text) = Ok (whole text)
text_found (Err refusal) = Err refusal

-- what is found of a source that is to be printed
data Texts (bytes : List ℕ) : Found → Type 0 where
  large : SOURCE_LIMIT < length bytes → Texts bytes (Err (TooLarge Source))
  text : {found : Found} (read : Result (List ℕ) Refusal) → length bytes ≤ SOURCE_LIMIT → FindsSource bytes read → found ≡ text_found read → Texts bytes found

texts_once : (bytes : List ℕ) (found other : Found) → Texts bytes found → Texts bytes other → found ≡ other
texts_once bytes found other (Texts.large l) (Texts.large k) = refl
texts_once bytes found other (Texts.large l) (Texts.text s w g e) = absurd (omega arith)
texts_once bytes found other (Texts.text r w f d) (Texts.large l) = absurd (omega arith)
texts_once bytes found other (Texts.text r w f d) (Texts.text s v g e) = d ∙ ap text_found (text_once bytes r s f g) ∙ sym e

texts : (bytes : List ℕ) (found : Found) → FindsText (Some bytes) found → Texts bytes found
texts bytes (Err (TooLarge Source)) f = Texts.large f
texts bytes (Err (TooLarge InputFile)) f = absurd f
texts bytes (Err (TooLarge TraceFile)) f = absurd f
texts bytes (Err (Trace fault)) f = absurd f
texts bytes (Err (SourceAt fault at)) f = Texts.text (Err (SourceAt fault at)) f.0 f.1 refl
texts bytes (Err NoMain) f = absurd f
texts bytes (Err (TooDeep at)) f = Texts.text (Err (TooDeep at)) f.0 f.1 refl
texts bytes (Err (LargeTree at)) f = absurd f
texts bytes (Err TooManyNames) f = absurd f
texts bytes (Err (IllTyped fault at variant)) f = absurd f
texts bytes (Err (Variants at)) f = absurd f
texts bytes (Err (Line fault)) f = absurd f
texts bytes (Ok p) f = Texts.text (Ok p.bytes) f.0 f.1 (ap Ok f.2)

pub finds_text_once : (bytes : List ℕ) (source : Option (List ℕ)) (found other : Found) → source ≡ Some bytes → FindsText source found → FindsText source other → found ≡ other
finds_text_once bytes source found other s f g =
    texts_once bytes found other (texts bytes found (subst (λ x. FindsText x found) s f)) (texts bytes other (subst (λ x. FindsText x other) s g))

-- the line of the counters of what a program answers to the records of a number
abbrev pub tallied : Program → ℕ → ℕ → Printout
tallied program number count = ended (counts_line (counted (names_with program.names) (answers_to program number count))) (ending (answers_to program number count))

-- what is found of a program and the records of a number
pub data Samples (number count : ℕ) (program : Program) : Found → Type 0 where
  crowded : HasNoRoom program.names → Samples number count program (Err TooManyNames)
  untyped : (n : ℕ) → HasUntypedSample n program.names program.claim number count → Samples number count program (Err (Line (wrong.Untyped n)))
  tallies : AreTypedSamples program.names program.claim number count → Samples number count program (Ok (tallied program number count))

-- one place, and so one number
same_place : (first : Option ℕ) (n m : ℕ) → option_map (λ i. i + 1) first ≡ Some n → option_map (λ i. i + 1) first ≡ Some m → n ≡ m
same_place first n m is are = let same : Some n ≡ Some m = sym is ∙ are in cc

no_place : (first : Option ℕ) (n : ℕ) → option_map (λ i. i + 1) first ≡ Some n → first ≡ None → ⊥
no_place first n is none = none-some n (sym (ap (option_map (λ i. i + 1)) none) ∙ is)

samples_once : (number count : ℕ) (program : Program) (found other : Found) → Samples number count program found → Samples number count program other → found ≡ other
samples_once number count program found other (Samples.crowded a) (Samples.crowded b) = refl
samples_once number count program found other (Samples.crowded a) (Samples.untyped n b) = let room = b.room in absurd (omega arith)
samples_once number count program found other (Samples.crowded a) (Samples.tallies b) = let room = b.room in absurd (omega arith)
samples_once number count program found other (Samples.untyped n a) (Samples.crowded b) = let room = a.room in absurd (omega arith)
samples_once number count program found other (Samples.untyped n a) (Samples.untyped m b) = ap (λ k. Err (Line (wrong.Untyped k))) (same_place _ n m a.first b.first)
samples_once number count program found other (Samples.untyped n a) (Samples.tallies b) = absurd (no_place _ n a.first b.typed)
samples_once number count program found other (Samples.tallies a) (Samples.crowded b) = let room = a.room in absurd (omega arith)
samples_once number count program found other (Samples.tallies a) (Samples.untyped n b) = absurd (no_place _ n b.first a.typed)
samples_once number count program found other (Samples.tallies a) (Samples.tallies b) = refl

sampled : (number count : ℕ) (found : Found) → FindsSample number count found → Goes source_text (Samples number count) found
sampled number count (Err (TooLarge which)) f = absurd f
sampled number count (Err (SourceAt fault at)) f = wrong_goes source_text (Samples number count) (SourceAt fault at) f
sampled number count (Err NoMain) f = wrong_goes source_text (Samples number count) NoMain f
sampled number count (Err (TooDeep at)) f = wrong_goes source_text (Samples number count) (TooDeep at) f
sampled number count (Err (LargeTree at)) f = wrong_goes source_text (Samples number count) (LargeTree at) f
sampled number count (Err TooManyNames) (inl f) = wrong_goes source_text (Samples number count) TooManyNames f
sampled number count (Err TooManyNames) (inr f) = program_goes source_text (Samples number count) (Err TooManyNames) f.0 f.1 (Samples.crowded f.2)
sampled number count (Err (IllTyped fault at variant)) f = wrong_goes source_text (Samples number count) (IllTyped fault at variant) f
sampled number count (Err (Variants at)) f = wrong_goes source_text (Samples number count) (Variants at) f
sampled number count (Err (Line (wrong.BadLine n))) f = absurd f.2
sampled number count (Err (Line (wrong.Twice n kind name))) f = absurd f.2
sampled number count (Err (Line (wrong.Untyped n))) f = program_goes source_text (Samples number count) (Err (Line (wrong.Untyped n))) f.0 f.1 (Samples.untyped n f.2)
sampled number count (Err (Line (wrong.TooMany n))) f = absurd f.2
sampled number count (Err (Line (wrong.TooLong n))) f = absurd f.2
sampled number count (Err (Trace fault)) f = absurd f
sampled number count (Ok p) (program, accepted, prints) =
    let fields : p ≡ tallied program number count = λ i. record { bytes = prints.bytes_are i; ending = prints.ending_is i; refused = prints.unrefused i } in
    let tallies : Samples number count program (Ok (tallied program number count)) = Samples.tallies prints.typed in
    program_goes source_text (Samples number count) (Ok p) program accepted (subst (λ x. Samples number count program (Ok x)) (sym fields) tallies)

pub finds_sample_once : (number count : ℕ) (found other : Found) → FindsSample number count found → FindsSample number count other → found ≡ other
finds_sample_once number count found other f g =
    goes_once source_text (Samples number count) (Samples number count) (samples_once number count) found other (sampled number count found f) (sampled number count other g)

pub command_once : (command : Command) (file : List ℕ → File) (found other : Found) → AreTold command file → FindsFor command file found → FindsFor command file other → found ≡ other
command_once (Run source input workers fuel depth queue plan) file found other told f g =
    let limits = limits_of fuel depth in
    let once : (x : Found) → Finds WithWorkers limits (file source).told (file input).told x → Finds OnOneThread limits (file source).told (file input).told x =
    λ x. run_is_once limits (file source).told (file input).told told.2 x in
    finds_once limits told.0.bytes told.1.bytes (file source).told (file input).told found other told.0.are told.1.are (once found f) (once other g)
command_once (Once source input fuel depth) file found other told f g =
    finds_once (limits_of fuel depth) told.0.bytes told.1.bytes (file source).told (file input).told found other told.0.are told.1.are f g
command_once (Check source) file found other told f g = finds_report_once report.Flows told.bytes (file source).told found other told.are f g
command_once (Print source) file found other told f g = finds_text_once told.bytes (file source).told found other told.are f g
command_once (Plan source) file found other told f g = finds_report_once report.Plan told.bytes (file source).told found other told.are f g
command_once (ATrace source input workers fuel depth queue) file found other told f g = absurd told
command_once (Replay source input trace fuel depth) file found other told f g =
    finds_replay_once (limits_of fuel depth) told.0.bytes told.1.bytes told.2.bytes (file source).told (file input).told (file trace).told found other told.0.are told.1.are told.2.are f g
command_once (Feed source input batch fuel depth) file found other told f g =
    finds_feed_once (limits_of fuel depth) told.0.bytes told.1.bytes (file source).told (file input).told found other told.0.are told.1.are f g
command_once (Sample number count) file found other told f g = finds_sample_once number count found other f g

-- and so there is one status
pub status_once : (command : Command) (outside : Outside) (status other : Status) → AreTold command outside.file → IsAnswered command outside status → IsAnswered command outside other → status ≡ other
status_once command outside status other told a b =
    a.status_is ∙ ap found_status (command_once command outside.file a.found b.found told a.finds b.finds) ∙ sym b.status_is
