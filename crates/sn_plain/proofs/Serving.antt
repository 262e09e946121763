-- From what each step of a run gave to why it stopped, and what it printed.
use Rattle.std.proofs.Common.{◌≡◌, ℕ, ◌<◌, ◌≤◌, List, length, Option, None, Some, subst, arith, inl, inr}
use Rattle.std.specs.Prelude.{Ok, IfSome, ◌⊎◌}
use Rattle.sn_io.specs.Causes.{Rose}
use Rattle.sn_io.specs.Told.{appended}
use Rattle.sn_net.specs.declared.net.Claim.{Claim}
use Rattle.sn_input.specs.declared.input.Input.{Input as RecordFile}
use Rattle.sn_net.specs.declared.expr.BoxProgram.{BoxProgram}
use Rattle.sn_net.specs.declared.net.Net.{Net}
use Rattle.sn_record.specs.Record.{Entries}
use mathlib.Core.Logic.{∥∥₁_map}
use Rattle.sn_load.specs.declared.load.Program.{Program}
use Rattle.sn_stop.specs.declared.refusal.Which.TheVariants.{Source, Input, Trace as TraceFile}
use Rattle.sn_stop.specs.declared.refusal.Refusal.TheVariants.{TooLarge, Source as SourceAt, NoMain, TooDeep, LargeTree, TooManyNames, IllTyped, Variants, Line, Trace}
use Rattle.sn_stop.specs.declared.refusal.Refusal.{Refusal}
use Rattle.sn_stop.specs.declared.stop.Stop.{Stop}
use Rattle.sn_stop.specs.declared.stop.Stop.TheVariants.{Refused, Faulted, Unread, Memory, Write}
use Rattle.sn_load.specs.declared.load.TheConstants.{SOURCE_LIMIT, INPUT_LIMIT}
use Rattle.sn_plain.specs.Seen.{Sink, File, WhyUnread}
use Rattle.sn_record.specs.declared.item.Fault.{Fault}
use Rattle.sn_load.specs.Load.{Limits, HasManyNames, HasWrongLine, IsLoaded, IsTypedFile, WhyUnreadable, setting}
use Rattle.sn_plain.specs.Ready.{IsReady, WhyNotReady, setting_at}
use Rattle.sn_plain.specs.Runs.{HasBegun, HasPrinted, Manner, Printout, Prints, WhyUnfinished, ended}
use Rattle.sn_plain.specs.declared.ready.Ready.{Ready}
use Rattle.sn_load.specs.Scope.{WhyUnloaded, WhyNoProgram}
use Rattle.sn_plain.specs.Answer.{IsAccepted, IsRefusedInput, IsRefusedSource, Finds, OfTyped, WhyStopped}

-- what holds of the bytes that were read holds of those that are told
pub of_told : (told : Option (List ℕ)) (bytes : List ℕ) (P : List ℕ → Type 0) → IfSome told (λ t. bytes ≡ t) → P bytes → IfSome told P
of_told None bytes P is p = tt
of_told (Some t) bytes P is p = subst P is p

-- a file was read to its end
pub record HasBytes (file : File) (limit : ℕ) (bytes : List ℕ) : Type 0 where
  pub told : IfSome file.told (λ t. bytes ≡ t)
  pub within : length bytes ≤ limit

pub accepted : (bytes : List ℕ) (program : Program) → IsLoaded bytes program → length bytes ≤ SOURCE_LIMIT → IsAccepted bytes program
accepted bytes program is within = record { within = within; main = is.main }

module _ (source input : File) where
  pub source_unread : (why : Stop) → WhyUnread Source SOURCE_LIMIT source why → WhyNotReady source input why
  source_unread (Refused (TooLarge Source)) why = why.1
  source_unread (Refused (TooLarge Input)) why = cc
  source_unread (Refused (TooLarge TraceFile)) why = cc
  source_unread (Refused (SourceAt fault at)) why = absurd why
  source_unread (Refused NoMain) why = absurd why
  source_unread (Refused (TooDeep at)) why = absurd why
  source_unread (Refused (LargeTree at)) why = absurd why
  source_unread (Refused TooManyNames) why = absurd why
  source_unread (Refused (Line fault)) why = absurd why
  source_unread (Refused (Trace fault)) why = absurd why
  source_unread (Refused (IllTyped fault at variant)) why = absurd why
  source_unread (Refused (Variants at)) why = absurd why
  source_unread (Faulted fault) why = absurd why
  source_unread (Unread Source) why = why.1
  source_unread (Unread Input) why = cc
  source_unread (Unread TraceFile) why = cc
  source_unread Memory why = tt
  source_unread Write why = absurd why

  module _ (bytes : List ℕ) (read : HasBytes source SOURCE_LIMIT bytes) where
    of_source : (P : List ℕ → Type 0) → P bytes → IfSome source.told P
    of_source P p = of_told source.told bytes P read.told p

    refused_source : (refusal : Refusal) → WhyNoProgram bytes refusal → IfSome source.told (IsRefusedSource refusal)
    refused_source refusal why = of_source (IsRefusedSource refusal) (read.within, why)

    pub not_loaded : (why : Stop) → WhyUnloaded bytes why → WhyNotReady source input why
    not_loaded (Refused (TooLarge which)) why = absurd why
    not_loaded (Refused (SourceAt fault at)) why = refused_source (SourceAt fault at) why
    not_loaded (Refused NoMain) why = refused_source NoMain why
    not_loaded (Refused (TooDeep at)) why = refused_source (TooDeep at) why
    not_loaded (Refused (LargeTree at)) why = refused_source (LargeTree at) why
    not_loaded (Refused TooManyNames) why = of_source (λ t. IsRefusedSource TooManyNames t ⊎ IsRefusedInput input.told HasManyNames t) (inl (read.within, why))
    not_loaded (Refused (Line fault)) why = absurd why
    not_loaded (Refused (Trace fault)) why = absurd why
    not_loaded (Faulted fault) why = absurd why
    not_loaded (Refused (IllTyped fault at variant)) why = refused_source (IllTyped fault at variant) why
    not_loaded (Refused (Variants at)) why = refused_source (Variants at) why
    not_loaded (Unread which) why = absurd why
    not_loaded Memory why = tt
    not_loaded Write why = absurd why

    module _ (program : Program) (is : IsLoaded bytes program) where
      -- `between` is the input's file as its read found it
      pub input_unread : (between : File) → between.told ≡ input.told → input.faults_before ≤ between.faults_before → between.faults_now ≡ input.faults_now
          → (why : Stop) → WhyUnread Input INPUT_LIMIT between why → WhyNotReady source input why
      input_unread between told later now (Refused (TooLarge Source)) why = cc
      input_unread between told later now (Refused (TooLarge TraceFile)) why = cc
      input_unread between told later now (Refused (TooLarge Input)) why =
          of_source (λ t. (p : Program) × IsAccepted t p × IfSome input.told (λ more. INPUT_LIMIT < length more))
          (program, accepted bytes program is read.within, subst (λ t. IfSome t (λ more. INPUT_LIMIT < length more)) told why.1)
      input_unread between told later now (Refused (SourceAt fault at)) why = absurd why
      input_unread between told later now (Refused NoMain) why = absurd why
      input_unread between told later now (Refused (TooDeep at)) why = absurd why
      input_unread between told later now (Refused (LargeTree at)) why = absurd why
      input_unread between told later now (Refused TooManyNames) why = absurd why
      input_unread between told later now (Refused (Line fault)) why = absurd why
      input_unread between told later now (Refused (Trace fault)) why = absurd why
      input_unread between told later now (Refused (IllTyped fault at variant)) why = absurd why
      input_unread between told later now (Refused (Variants at)) why = absurd why
      input_unread between told later now (Faulted fault) why = absurd why
      input_unread between told later now (Unread Source) why = cc
      input_unread between told later now (Unread TraceFile) why = cc
      input_unread between told later now (Unread Input) why =
          let rose : Rose input.faults_before input.faults_now = omega (arith, why.1) in
          (rose, of_source (λ t. (p : Program) × IsAccepted t p) (program, accepted bytes program is read.within))
      input_unread between told later now Memory why = tt
      input_unread between told later now Write why = absurd why

      module _ (more : List ℕ) (has : HasBytes input INPUT_LIMIT more) where
        refused_input : (Why : List (List ℕ) → Claim → List ℕ → Type 0) → Why program.names program.claim more → IsRefusedInput input.told Why bytes
        refused_input Why why =
            (program, accepted bytes program is read.within, of_told input.told more (λ m. (length m ≤ INPUT_LIMIT) × Why program.names program.claim m) has.told (has.within, why))

        pub not_read : (why : Stop) → WhyUnreadable program.names program.claim more why → WhyNotReady source input why
        not_read (Refused (TooLarge which)) why = absurd why
        not_read (Refused (SourceAt fault at)) why = absurd why
        not_read (Refused NoMain) why = absurd why
        not_read (Refused (TooDeep at)) why = absurd why
        not_read (Refused (LargeTree at)) why = absurd why
        not_read (Refused TooManyNames) why = of_source (λ t. IsRefusedSource TooManyNames t ⊎ IsRefusedInput input.told HasManyNames t) (inr (refused_input HasManyNames why))
        not_read (Refused (IllTyped fault at variant)) why = absurd why
        not_read (Refused (Variants at)) why = absurd why
        not_read (Refused (Trace fault)) why = absurd why
        not_read (Refused (Line fault)) why = of_source (IsRefusedInput input.told (HasWrongLine fault)) (refused_input (HasWrongLine fault) why)
        not_read (Faulted fault) why = absurd why
        not_read (Unread which) why = absurd why
        not_read Memory why = tt
        not_read Write why = absurd why

        pub is_ready : (file : RecordFile) → IsTypedFile program.names program.claim more file → (ready : Ready) → ready.net ≡ program.claim.net → ready.boxes ≡ program.boxes
            → ready.records ≡ file.records → ready.names ≡ file.names → IsReady source.told input.told ready
        is_ready file typed ready net boxes records names = record {
          program = program;
          file = file;
          accepted = of_source (λ t. IsAccepted t program) (accepted bytes program is read.within);
          typed = of_told input.told more (λ m. (length m ≤ INPUT_LIMIT) × IsTypedFile program.names program.claim m file) has.told (has.within, typed);
          net_is = net;
          boxes_are = boxes;
          records_are = records;
          names_are = names;
        }

pub if_told : {A : Type 0} (told : Option A) (P Q : A → Type 0) → ((a : A) → P a → Q a) → IfSome told P → IfSome told Q
if_told None P Q f p = tt
if_told (Some a) P Q f p = f a p

-- what holds of what is ready, where both files are told
module _ (source input : File) (ready : Ready) (is : IsReady source.told input.told ready) where
  pub of_typed : (P : Program → RecordFile → Type 0) → P is.program is.file → OfTyped source.told input.told P
  of_typed P p =
      if_told source.told (λ bytes. IsAccepted bytes is.program)
      (λ bytes. (program : Program) × IsAccepted bytes program × IfSome input.told (λ more. (length more ≤ INPUT_LIMIT) × (file : RecordFile) × IsTypedFile program.names program.claim more file × P program file))
      (λ bytes accepts. (
        is.program,
        accepts,
        if_told input.told (λ more. (length more ≤ INPUT_LIMIT) × IsTypedFile is.program.names is.program.claim more is.file)
            (λ more. (length more ≤ INPUT_LIMIT) × (file : RecordFile) × IsTypedFile is.program.names is.program.claim more file × P is.program file)
            (λ more typed. (typed.0, is.file, typed.1, p)) is.typed,
      ))
      is.accepted

  module _ (Shows : Manner) (limits : Limits) where
    pub shown_of : (p : Printout) → Shows (setting_at ready limits) ready.net ready.records ready.names p → Shows (setting is.program limits) is.program.claim.net is.file.records is.file.names p
    shown_of p shown =
        subst (λ (at : List BoxProgram × Net × List Entries × List (List ℕ)). Shows (record { boxes = at.0; fuel = limits.fuel; depth = limits.depth }) at.1 at.2 at.3 p)
        (λ i. (is.boxes_are i, is.net_is i, is.records_are i, is.names_are i)) shown

    -- what is printed then is what is found of both
    pub finds : (p : Printout) → Shows (setting_at ready limits) ready.net ready.records ready.names p → Finds Shows limits source.told input.told (Ok p)
    finds p shown =
        if_told source.told (λ bytes. IsAccepted bytes is.program) (λ bytes. (program : Program) × IsAccepted bytes program × IfSome input.told (λ more. Prints Shows limits program more p))
        (λ bytes accepts. (
          is.program,
          accepts,
          if_told input.told (λ more. (length more ≤ INPUT_LIMIT) × IsTypedFile is.program.names is.program.claim more is.file) (λ more. Prints Shows limits is.program more p)
              (λ more typed. record { within = typed.0; input = is.file; typed = typed.1; shown = shown_of p shown }) is.typed,
        ))
        is.accepted

-- a run on a source and an input, in one manner, cut off in the same or in another
module _ (Shows Begins : Manner) (limits : Limits) (source input : File) (out : Sink) where
  -- nothing was printed where there is nothing to run
  pub not_ready : out.now ≡ out.before → (why : Stop) → WhyNotReady source input why → WhyStopped Shows Begins limits source input out why
  not_ready same (Refused refusal) why = inl (why, same)
  not_ready same (Faulted fault) why = absurd why
  not_ready same (Unread which) why = (why, same)
  not_ready same Memory why = inl same
  not_ready same Write why = absurd why

  module _ (ready : Ready) (is : IsReady source.told input.told ready) where
    abbrev Shown : Printout → Type 0
    Shown = Shows (setting_at ready limits) ready.net ready.records ready.names

    abbrev Begun : Printout → Type 0
    Begun = Begins (setting_at ready limits) ready.net ready.records ready.names

    -- all of it, by how it ends
    pub finds_printed : (fault end : Option Fault) → HasPrinted Shown out fault → fault ≡ end
        → (p : List ℕ) × Finds Shows limits source.told input.told (Ok (ended p end)) × (out.now ≡ appended out.before p)
    finds_printed fault end printed is_end =
        (printed.0, finds source input ready is Shows limits (ended printed.0 end) (subst (λ f. Shown (ended printed.0 f)) is_end printed.1), printed.2)

    begun : HasBegun Begun out → HasBegun (λ p. Finds Begins limits source.told input.told (Ok p)) out
    begun has = ∥∥₁_map has (λ some. (some.0, finds source input ready is Begins limits some.0 some.1, some.2))

    pub not_finished : (why : Stop) → WhyUnfinished Begun out why → WhyStopped Shows Begins limits source input out why
    not_finished (Refused refusal) why = absurd why
    not_finished (Faulted fault) why = absurd why
    not_finished (Unread which) why = absurd why
    not_finished Memory (inl same) = inl same
    not_finished Memory (inr has) = inr (begun has)
    not_finished Write why = (why.0, begun why.1)
