-- What a command may leave: its status, and what it appends to `out` and to `err`.
use Rattle.std.specs.Prelude.{◌≡◌, ◌⊎◌, ◌≤◌, ◌<◌, ℕ, List, [], length, max, codes, Option, None, Some, Result, Ok, Err, IfSome, Bool, false, true}
use Rattle.sn_io.specs.Told.{appended}
use Rattle.sn_words.specs.Command.{usage_text, source_of, input_of, trace_of}
use Rattle.sn_words.specs.declared.command.Command.{Command}
use Rattle.sn_words.specs.declared.command.Command.TheVariants.{Run, Once, Check, Print, Plan, Trace, Replay, Feed, Sample}
use Rattle.sn_stop.specs.declared.status.Status.{Status}
use Rattle.sn_stop.specs.declared.status.Status.TheVariants as status
use Rattle.sn_stop.specs.declared.refusal.Which.{Which}
use Rattle.sn_stop.specs.declared.refusal.Which.TheVariants.{Source, Input, Trace as TraceFile}
use Rattle.sn_stop.specs.declared.refusal.Refusal.{Refusal}
use Rattle.sn_stop.specs.declared.refusal.Refusal.TheVariants.{TooLarge, Source as SourceAt, NoMain, TooDeep, LargeTree, TooManyNames, IllTyped, Variants, Line, Trace as TraceAt}
use Rattle.sn_stop.specs.declared.stop.Stop.{Stop}
use Rattle.sn_stop.specs.declared.stop.Stop.TheVariants as stop
use Rattle.sn_load.specs.declared.load.TheConstants.{SOURCE_LIMIT, INPUT_LIMIT}
use Rattle.sn_load.specs.Source.{FindsSource}
use Rattle.sn_stop.specs.Status.{refusal_status, stop_line, stop_status}
use Rattle.sn_plain.specs.Seen.{Sink, File, seen_sink, seen_file, FileFailed, GotLine}
use Rattle.sn_record.specs.declared.item.Fault.{Fault}
use Rattle.sn_net.specs.declared.net.Claim.{Claim}
use Rattle.sn_output.specs.Printed.{ending}
use Rattle.sn_input.specs.declared.input.Input.{Input as RecordFile}
use Rattle.sn_load.specs.Load.{IsTypedFile, Limits, limits_of, setting, HasManyNames, HasWrongLine}
use Rattle.sn_plain.specs.Feeding.{IsFed, IsFedInPart, fed_of}
use Rattle.sn_plain.specs.Runs.{Manner, Printout, Prints, OnOneThread, WithWorkers, GotPart, HasFailed, cut_by, ended, whole}
use Rattle.sn_plain.specs.Traces.{BegunTrace, IsRefusedTrace, PlayedFrom, Traced}
use Rattle.sn_plain.specs.declared.replaying.TheConstants.{TRACE_LIMIT}
use Rattle.sn_plain.specs.Reports.{HasReport}
use Rattle.sn_plain.specs.declared.reports.Report.{Report}
use Rattle.sn_plain.specs.declared.reports.Report.TheVariants as report
use Rattle.sn_plain.specs.Sample.{AreTypedSamples, HasNoRoom, IsWrongSample, answers_to, names_with}
use Rattle.sn_sample.specs.Source.{source_text}
use Rattle.sn_sample.specs.Tally.{counted, counts_line}
use Rattle.sn_load.specs.Scope.{IsProgram, WhyNoProgram}
use Rattle.sn_load.specs.declared.load.Program.{Program}

-- the source is within the limit, and spells the program
pub record IsAccepted (bytes : List ℕ) (program : Program) : Type 0 where
  pub within : length bytes ≤ SOURCE_LIMIT
  pub main : IsProgram bytes program

-- the source is within the limit, and refused
abbrev pub IsRefusedSource : Refusal → List ℕ → Type 0
IsRefusedSource refusal bytes = (length bytes ≤ SOURCE_LIMIT) × WhyNoProgram bytes refusal

-- the source is accepted, and the input is within the limit and refused
abbrev pub IsRefusedInput : Option (List ℕ) → (List (List ℕ) → Claim → List ℕ → Type 0) → List ℕ → Type 0
IsRefusedInput input Why bytes = (program : Program) × IsAccepted bytes program × IfSome input (λ more. (length more ≤ INPUT_LIMIT) × Why program.names program.claim more)

-- What the checks refuse of a source and an input, where their bytes are told. They come in this order: the source's file, the source
-- and its types, the input's file, the input and its types.
abbrev pub IsRefused : Option (List ℕ) → Option (List ℕ) → Refusal → Type 0
IsRefused source input (TooLarge Source) = IfSome source (λ bytes. SOURCE_LIMIT < length bytes)
IsRefused source input (SourceAt fault at) = IfSome source (IsRefusedSource (SourceAt fault at))
IsRefused source input NoMain = IfSome source (IsRefusedSource NoMain)
IsRefused source input (TooDeep at) = IfSome source (IsRefusedSource (TooDeep at))
IsRefused source input (LargeTree at) = IfSome source (IsRefusedSource (LargeTree at))
IsRefused source input TooManyNames = IfSome source (λ bytes. IsRefusedSource TooManyNames bytes ⊎ IsRefusedInput input HasManyNames bytes)
IsRefused source input (Line fault) = IfSome source (IsRefusedInput input (HasWrongLine fault))
IsRefused source input (IllTyped fault at variant) = IfSome source (IsRefusedSource (IllTyped fault at variant))
IsRefused source input (Variants at) = IfSome source (IsRefusedSource (Variants at))
IsRefused source input (TooLarge Input) = IfSome source (λ bytes. (program : Program) × IsAccepted bytes program × IfSome input (λ more. INPUT_LIMIT < length more))
IsRefused source input (TooLarge TraceFile) = ⊥
IsRefused source input (TraceAt fault) = ⊥

-- what the checks and then the run find of them
abbrev pub Finds : Manner → Limits → Option (List ℕ) → Option (List ℕ) → Result Printout Refusal → Type 0
Finds Shows limits source input (Err refusal) = IsRefused source input refusal
Finds Shows limits source input (Ok p) = IfSome source (λ bytes. (program : Program) × IsAccepted bytes program × IfSome input (λ more. Prints Shows limits program more p))

-- the source is accepted, and the input is within the limit and of its input type, where their bytes are told; and this holds of both
abbrev pub OfTyped : Option (List ℕ) → Option (List ℕ) → (Program → RecordFile → Type 0) → Type 0
OfTyped source input P = IfSome source (λ bytes. (program : Program) × IsAccepted bytes program
    × IfSome input (λ more. (length more ≤ INPUT_LIMIT) × (file : RecordFile) × IsTypedFile program.names program.claim more file × P program file))

-- The same of a trace that is read behind both: it is of a run over the input, and what comes out by it is printed.
abbrev pub FindsReplay : Limits → Option (List ℕ) → Option (List ℕ) → Option (List ℕ) → Result Printout Refusal → Type 0
FindsReplay limits source input trace (Err (TooLarge Source)) = IsRefused source input (TooLarge Source)
FindsReplay limits source input trace (Err (TooLarge Input)) = IsRefused source input (TooLarge Input)
FindsReplay limits source input trace (Err (TooLarge TraceFile)) = OfTyped source input (λ program file. IfSome trace (λ text. TRACE_LIMIT < length text))
FindsReplay limits source input trace (Err (SourceAt fault at)) = IsRefused source input (SourceAt fault at)
FindsReplay limits source input trace (Err NoMain) = IsRefused source input NoMain
FindsReplay limits source input trace (Err (TooDeep at)) = IsRefused source input (TooDeep at)
FindsReplay limits source input trace (Err (LargeTree at)) = IsRefused source input (LargeTree at)
FindsReplay limits source input trace (Err TooManyNames) = IsRefused source input TooManyNames
FindsReplay limits source input trace (Err (IllTyped fault at variant)) = IsRefused source input (IllTyped fault at variant)
FindsReplay limits source input trace (Err (Variants at)) = IsRefused source input (Variants at)
FindsReplay limits source input trace (Err (Line fault)) = IsRefused source input (Line fault)
FindsReplay limits source input trace (Err (TraceAt fault)) = OfTyped source input (λ program file. IsRefusedTrace fault trace (setting program limits) program.claim.net file.records)
FindsReplay limits source input trace (Ok p) = OfTyped source input (λ program file. PlayedFrom trace (setting program limits) program.claim.net file.records file.names p)

-- no fault ends it, and nothing is refused
abbrev pub IsWhole : Printout → Type 0
IsWhole p = p ≡ whole p.bytes

-- the same of a source alone, which is within the limit where more than its size is found
abbrev pub FindsText : Option (List ℕ) → Result Printout Refusal → Type 0
FindsText source (Err (TooLarge Source)) = IfSome source (λ bytes. SOURCE_LIMIT < length bytes)
FindsText source (Err (TooLarge Input)) = ⊥
FindsText source (Err (TooLarge TraceFile)) = ⊥
FindsText source (Err (SourceAt fault at)) = IfSome source (λ bytes. (length bytes ≤ SOURCE_LIMIT) × FindsSource bytes (Err (SourceAt fault at)))
FindsText source (Err NoMain) = ⊥
FindsText source (Err (TooDeep at)) = IfSome source (λ bytes. (length bytes ≤ SOURCE_LIMIT) × FindsSource bytes (Err (TooDeep at)))
FindsText source (Err (LargeTree at)) = ⊥
FindsText source (Err TooManyNames) = ⊥
FindsText source (Err (IllTyped fault at variant)) = ⊥
FindsText source (Err (Variants at)) = ⊥
FindsText source (Err (Line fault)) = ⊥
FindsText source (Err (TraceAt fault)) = ⊥
FindsText source (Ok p) = IfSome source (λ bytes. (length bytes ≤ SOURCE_LIMIT) × FindsSource bytes (Ok p.bytes) × IsWhole p)

-- what the checks refuse of a source alone, whose types are checked
abbrev pub IsRefusedAlone : Option (List ℕ) → Refusal → Type 0
IsRefusedAlone source (TooLarge Source) = IfSome source (λ bytes. SOURCE_LIMIT < length bytes)
IsRefusedAlone source (TooLarge Input) = ⊥
IsRefusedAlone source (TooLarge TraceFile) = ⊥
IsRefusedAlone source (SourceAt fault at) = IfSome source (IsRefusedSource (SourceAt fault at))
IsRefusedAlone source NoMain = IfSome source (IsRefusedSource NoMain)
IsRefusedAlone source (TooDeep at) = IfSome source (IsRefusedSource (TooDeep at))
IsRefusedAlone source (LargeTree at) = IfSome source (IsRefusedSource (LargeTree at))
IsRefusedAlone source TooManyNames = IfSome source (IsRefusedSource TooManyNames)
IsRefusedAlone source (IllTyped fault at variant) = IfSome source (IsRefusedSource (IllTyped fault at variant))
IsRefusedAlone source (Variants at) = IfSome source (IsRefusedSource (Variants at))
IsRefusedAlone source (Line fault) = ⊥
IsRefusedAlone source (TraceAt fault) = ⊥

-- The same of a source whose types are checked: a report on it is printed.
abbrev pub FindsReport : Report → Option (List ℕ) → Result Printout Refusal → Type 0
FindsReport about source (Err refusal) = IsRefusedAlone source refusal
FindsReport about source (Ok p) = IfSome source (λ bytes. (program : Program) × IsAccepted bytes program × HasReport about program p.bytes × IsWhole p)

-- of a source that is accepted, and of an input that is read piece by piece, where their bytes are told, this holds
abbrev pub OfFed : Option (List ℕ) → Option (List ℕ) → (Program → List ℕ → Type 0) → Type 0
OfFed source input P = IfSome source (λ bytes. (program : Program) × IsAccepted bytes program × IfSome input (P program))

-- The same of a source and an input that is read piece by piece: what stands before a refused line of it is printed.
abbrev pub FindsFeed : Limits → Option (List ℕ) → Option (List ℕ) → Result Printout Refusal → Type 0
FindsFeed limits source input (Err refusal) = IsRefusedAlone source refusal
FindsFeed limits source input (Ok p) = OfFed source input (λ program more. IsFed (fed_of limits program) more p)

-- it begins so
abbrev pub BegunFeed : Limits → Option (List ℕ) → Option (List ℕ) → Printout → Type 0
BegunFeed limits source input p = OfFed source input (λ program more. IsFedInPart (fed_of limits program) more p)

-- what the program prints for the records of a number: the line of the counters of what it answers
pub record PrintsSample (program : Program) (number count : ℕ) (p : Printout) : Type 0 where
  pub typed : AreTypedSamples program.names program.claim number count
  pub bytes_are : p.bytes ≡ counts_line (counted (names_with program.names) (answers_to program number count))
  pub ending_is : p.ending ≡ ending (answers_to program number count)
  pub unrefused : p.refused ≡ None

-- the built-in source spells a program of which this holds
abbrev pub OfBuiltIn : (Program → Type 0) → Type 0
OfBuiltIn P = (program : Program) × IsAccepted source_text program × P program

-- The same of the built-in source and the records of a number, which stand in no file.
abbrev pub FindsSample : ℕ → ℕ → Result Printout Refusal → Type 0
FindsSample number count (Err (TooLarge which)) = ⊥
FindsSample number count (Err (SourceAt fault at)) = IsRefusedSource (SourceAt fault at) source_text
FindsSample number count (Err NoMain) = IsRefusedSource NoMain source_text
FindsSample number count (Err (TooDeep at)) = IsRefusedSource (TooDeep at) source_text
FindsSample number count (Err (LargeTree at)) = IsRefusedSource (LargeTree at) source_text
FindsSample number count (Err TooManyNames) = IsRefusedSource TooManyNames source_text ⊎ OfBuiltIn (λ program. HasNoRoom program.names)
FindsSample number count (Err (IllTyped fault at variant)) = IsRefusedSource (IllTyped fault at variant) source_text
FindsSample number count (Err (Variants at)) = IsRefusedSource (Variants at) source_text
FindsSample number count (Err (Line fault)) = OfBuiltIn (λ program. IsWrongSample fault program.names program.claim number count)
FindsSample number count (Err (TraceAt fault)) = ⊥
FindsSample number count (Ok p) = OfBuiltIn (λ program. PrintsSample program number count p)

-- the bytes on `out`, the status and the line on `err` for what was found
abbrev pub found_bytes : Result Printout Refusal → List ℕ
found_bytes (Ok p) = p.bytes
found_bytes (Err refusal) = []

abbrev pub ending_status : Option Fault → Status
ending_status None = status.Ok
ending_status (Some fault) = status.Fault

-- of a refusal behind what was printed, where there is one, and else of how that ends
abbrev pub done_status : Option Fault → Option Refusal → Status
done_status fault None = ending_status fault
done_status fault (Some refusal) = refusal_status refusal

abbrev pub found_status : Result Printout Refusal → Status
found_status (Ok p) = done_status p.ending p.refused
found_status (Err refusal) = refusal_status refusal

abbrev pub ending_line : Option Fault → List ℕ → List ℕ → List ℕ → List ℕ
ending_line None source input trace = []
ending_line (Some fault) source input trace = stop_line (stop.Faulted fault) source input trace

abbrev pub done_line : Option Fault → Option Refusal → List ℕ → List ℕ → List ℕ → List ℕ
done_line fault None source input trace = ending_line fault source input trace
done_line fault (Some refusal) source input trace = stop_line (stop.Refused refusal) source input trace

abbrev pub found_line : Result Printout Refusal → List ℕ → List ℕ → List ℕ → List ℕ
found_line (Ok p) source input trace = done_line p.ending p.refused source input trace
found_line (Err refusal) source input trace = stop_line (stop.Refused refusal) source input trace

-- the outside, as a call found it and as it left it: the file of each name, `out` and `err`
pub record Outside : Type 0 where
  pub file : List ℕ → File
  pub out : Sink
  pub err : Sink

abbrev pub seen : {F O E : Type 0} → (F → List ℕ → Option (List ℕ)) → (F → List ℕ → ℕ) → (O → Option (List ℕ)) → (O → ℕ) → (E → Option (List ℕ)) → (E → ℕ) → F → F → O → O → E → E → Outside
seen bytes_of file_faults out_held out_faults err_held err_faults files new_files out new_out err new_err = record {
  file = λ name. seen_file bytes_of file_faults files new_files name;
  out = seen_sink out_held out_faults out new_out;
  err = seen_sink err_held err_faults err new_err;
}

-- what is found of a command's files
abbrev pub FindsFor : Command → (List ℕ → File) → Result Printout Refusal → Type 0
FindsFor (Run source input workers fuel depth queue plan) file found = Finds WithWorkers (limits_of fuel depth) (file source).told (file input).told found
FindsFor (Once source input fuel depth) file found = Finds OnOneThread (limits_of fuel depth) (file source).told (file input).told found
FindsFor (Check source) file found = FindsReport report.Flows (file source).told found
FindsFor (Print source) file found = FindsText (file source).told found
FindsFor (Plan source) file found = FindsReport report.Plan (file source).told found
FindsFor (Trace source input workers fuel depth queue) file found = Finds Traced (limits_of fuel depth) (file source).told (file input).told found
FindsFor (Replay source input trace fuel depth) file found = FindsReplay (limits_of fuel depth) (file source).told (file input).told (file trace).told found
FindsFor (Feed source input batch fuel depth) file found = FindsFeed (limits_of fuel depth) (file source).told (file input).told found
FindsFor (Sample number count) file found = FindsSample number count found

-- What a command prints begins so, where it is cut off. A trace may be cut off at any event, and an input that is read in pieces behind any line.
abbrev pub BeginsFor : Command → (List ℕ → File) → Printout → Type 0
BeginsFor (Trace source input workers fuel depth queue) file p = Finds BegunTrace (limits_of fuel depth) (file source).told (file input).told (Ok p)
BeginsFor (Feed source input batch fuel depth) file p = BegunFeed (limits_of fuel depth) (file source).told (file input).told p
BeginsFor command file p = FindsFor command file (Ok p)

-- the whole answer: what is found decides the bytes, the status and the line
pub record IsAnswered (command : Command) (outside : Outside) (s : Status) : Type 0 where
  pub found : Result Printout Refusal
  pub finds : FindsFor command outside.file found
  pub status_is : s ≡ found_status found
  pub out_got : outside.out.now ≡ appended outside.out.before (found_bytes found)
  pub err_got : GotLine outside.err (found_line found (source_of command) (input_of command) (trace_of command))

-- the count of that file's faults rose, and no check before its read refuses
abbrev pub IsUnread : Which → File → File → Type 0
IsUnread Source source input = FileFailed source
IsUnread Input source input = FileFailed input × IfSome source.told (λ bytes. (program : Program) × IsAccepted bytes program)
IsUnread TraceFile source input = ⊥

abbrev pub IsSourceUnread : Which → File → Type 0
IsSourceUnread Source source = FileFailed source
IsSourceUnread Input source = ⊥
IsSourceUnread TraceFile source = ⊥

abbrev pub IsReplayUnread : Which → File → File → File → Type 0
IsReplayUnread Source source input trace = IsUnread Source source input
IsReplayUnread Input source input trace = IsUnread Input source input
IsReplayUnread TraceFile source input trace = FileFailed trace × OfTyped source.told input.told (λ program file. Unit {0})

abbrev pub UnreadFor : Command → (List ℕ → File) → Which → Type 0
UnreadFor (Run source input workers fuel depth queue plan) file which = IsUnread which (file source) (file input)
UnreadFor (Once source input fuel depth) file which = IsUnread which (file source) (file input)
UnreadFor (Check source) file which = IsSourceUnread which (file source)
UnreadFor (Print source) file which = IsSourceUnread which (file source)
UnreadFor (Plan source) file which = IsSourceUnread which (file source)
UnreadFor (Trace source input workers fuel depth queue) file which = IsUnread which (file source) (file input)
UnreadFor (Replay source input trace fuel depth) file which = IsReplayUnread which (file source) (file input) (file trace)
UnreadFor (Feed source input batch fuel depth) file which = IsUnread which (file source) (file input)
UnreadFor (Sample number count) file which = ⊥

-- Where a file was not read, nothing was printed; but of an input that is read in pieces a later read may fail.
abbrev pub LeftOfFeed : (Printout → Type 0) → Sink → Which → Type 0
LeftOfFeed Begins out Source = out.now ≡ out.before
LeftOfFeed Begins out Input = GotPart Begins out
LeftOfFeed Begins out TraceFile = out.now ≡ out.before

abbrev pub LeftUnread : Command → (List ℕ → File) → Sink → Which → Type 0
LeftUnread (Feed source input batch fuel depth) file out which = LeftOfFeed (BeginsFor (Feed source input batch fuel depth) file) out which
LeftUnread command file out which = out.now ≡ out.before

-- the line names the file
pub record HasUnread (command : Command) (outside : Outside) : Type 0 where
  pub which : Which
  pub why : UnreadFor command outside.file which
  pub out_got : LeftUnread command outside.file outside.out which
  pub err_got : GotLine outside.err (stop_line (stop.Unread which) (source_of command) (input_of command) (trace_of command))

-- `out` got nothing, or some first bytes of what it would get
pub record IsCutShort (command : Command) (outside : Outside) : Type 0 where
  pub out_got : GotPart (BeginsFor command outside.file) outside.out
  pub err_got : GotLine outside.err (codes "memory\n")

-- the count of `out` rose, and it got some first bytes of what it would get
pub record IsUnwritten (command : Command) (outside : Outside) : Type 0 where
  pub out_failed : HasFailed (BeginsFor command outside.file) outside.out
  pub err_got : GotLine outside.err (codes "write\n")

-- What is refused is found of the files, and nothing is printed; or it is refused behind what is printed.
abbrev pub IsFoundRefused : (Result Printout Refusal → Type 0) → Sink → Refusal → Type 0
IsFoundRefused finds out refusal = (finds (Err refusal) × (out.now ≡ out.before)) ⊎ ((p : List ℕ) × finds (Ok (cut_by p refusal)) × (out.now ≡ appended out.before p))

-- why a run ended otherwise than with its whole output, and what `out` holds then
abbrev pub StoppedFor : (Result Printout Refusal → Type 0) → (Printout → Type 0) → (Which → Type 0) → (Which → Type 0) → Sink → Stop → Type 0
StoppedFor finds Begins unread left out (stop.Refused refusal) = IsFoundRefused finds out refusal
StoppedFor finds Begins unread left out (stop.Faulted fault) = (p : List ℕ) × finds (Ok (ended p (Some fault))) × (out.now ≡ appended out.before p)
StoppedFor finds Begins unread left out (stop.Unread which) = unread which × left which
StoppedFor finds Begins unread left out stop.Memory = GotPart Begins out
StoppedFor finds Begins unread left out stop.Write = HasFailed Begins out

-- nothing was printed where a file was not read
abbrev pub StoppedBefore : (Result Printout Refusal → Type 0) → (Printout → Type 0) → (Which → Type 0) → Sink → Stop → Type 0
StoppedBefore finds Begins unread out why = StoppedFor finds Begins unread (λ which. out.now ≡ out.before) out why

-- a run on a source and an input, which prints in one manner, and is cut off in the same or in another
abbrev pub WhyStopped : Manner → Manner → Limits → File → File → Sink → Stop → Type 0
WhyStopped Shows Begins limits source input out why =
    StoppedBefore (Finds Shows limits source.told input.told) (λ p. Finds Begins limits source.told input.told (Ok p)) (λ which. IsUnread which source input) out why

-- the replay of a trace
abbrev pub WhyUnplayed : Limits → File → File → File → Sink → Stop → Type 0
WhyUnplayed limits source input trace out why =
    StoppedBefore (FindsReplay limits source.told input.told trace.told) (λ p. FindsReplay limits source.told input.told trace.told (Ok p)) (λ which. IsReplayUnread which source input trace) out why

-- the printing of a source
abbrev pub WhyUnprinted : File → Sink → Stop → Type 0
WhyUnprinted source out why = StoppedBefore (FindsText source.told) (λ p. FindsText source.told (Ok p)) (λ which. IsSourceUnread which source) out why

-- a report on a source
abbrev pub WhyUnreported : Report → File → Sink → Stop → Type 0
WhyUnreported about source out why = StoppedBefore (FindsReport about source.told) (λ p. FindsReport about source.told (Ok p)) (λ which. IsSourceUnread which source) out why

-- a run over an input that is read in pieces
abbrev pub WhyUnfed : Limits → File → File → Sink → Stop → Type 0
WhyUnfed limits source input out why =
    StoppedFor (FindsFeed limits source.told input.told) (BegunFeed limits source.told input.told) (λ which. IsUnread which source input) (LeftOfFeed (BegunFeed limits source.told input.told) out) out why

-- a run on the records of a number
abbrev pub WhyUncounted : ℕ → ℕ → Sink → Stop → Type 0
WhyUncounted number count out why = StoppedBefore (FindsSample number count) (λ p. FindsSample number count (Ok p)) (λ which. ⊥) out why

-- where an input is read in pieces, no more bytes of a file are asked for at once than this, but for what was asked for before
abbrev pub AsksFew : Command → ℕ → ℕ → Type 0
AsksFew (Feed source input batch fuel depth) before now = now ≤ max before 1_048_576
AsksFew command before now = Unit {0}

-- the calling thread does the command alone
abbrev pub is_plain : Command → Bool
is_plain (Run source input workers fuel depth queue plan) = false
is_plain (Once source input fuel depth) = true
is_plain (Check source) = true
is_plain (Print source) = true
is_plain (Plan source) = true
is_plain (Trace source input workers fuel depth queue) = false
is_plain (Replay source input trace fuel depth) = true
is_plain (Feed source input batch fuel depth) = true
is_plain (Sample number count) = false

-- the command reads a whole input before anything is printed
abbrev pub reads_whole : Command → Bool
reads_whole (Run source input workers fuel depth queue plan) = true
reads_whole (Once source input fuel depth) = true
reads_whole (Check source) = false
reads_whole (Print source) = false
reads_whole (Plan source) = false
reads_whole (Trace source input workers fuel depth queue) = true
reads_whole (Replay source input trace fuel depth) = true
reads_whole (Feed source input batch fuel depth) = false
reads_whole (Sample number count) = false

-- the command needs other threads, and nothing was written
pub record NeedsOthers (command : Command) (outside : Outside) : Type 0 where
  pub many : is_plain command ≡ false
  pub out_same : outside.out.now ≡ outside.out.before
  pub err_same : outside.err.now ≡ outside.err.before

-- the status of what was done, and what `err` got of it
abbrev pub end_status : Result (Unit {0}) Stop → Status
end_status (Ok done) = status.Ok
end_status (Err why) = stop_status why

abbrev pub GotEnd : Sink → Result (Unit {0}) Stop → Command → Type 0
GotEnd err (Ok done) command = err.now ≡ err.before
GotEnd err (Err why) command = GotLine err (stop_line why (source_of command) (input_of command) (trace_of command))

-- any command
abbrev pub WhyEnded : Command → (List ℕ → File) → Sink → Stop → Type 0
WhyEnded command file out why = StoppedFor (FindsFor command file) (BeginsFor command file) (UnreadFor command file) (LeftUnread command file out) out why

-- The clauses for words, which may be no command.
pub record HasNoCommand (outside : Outside) (s : Status) : Type 0 where
  pub status_is : s ≡ status.Usage
  pub out_same : outside.out.now ≡ outside.out.before
  pub err_got : GotLine outside.err usage_text

abbrev pub IsAnsweredFor : Option Command → Outside → Status → Type 0
IsAnsweredFor None outside s = HasNoCommand outside s
IsAnsweredFor (Some command) outside s = IsAnswered command outside s

-- there is a command, and this holds of it
abbrev pub OfCommand : (Command → Outside → Type 0) → Option Command → Outside → Type 0
OfCommand P None outside = ⊥
OfCommand P (Some command) outside = P command outside

-- want of memory may come before the words are read
pub record IsCutShortFor (command : Option Command) (outside : Outside) : Type 0 where
  pub out_got : (outside.out.now ≡ outside.out.before) ⊎ OfCommand (λ c o. GotPart (BeginsFor c o.file) o.out) command outside
  pub err_got : GotLine outside.err (codes "memory\n")
