-- From what each step of a feed gave to why it stopped, and what it printed.
use Rattle.std.proofs.Common.{◌≡◌, ℕ, ◌≤◌, List, Option, Some, subst, arith, inl, inr}
use Rattle.std.specs.Prelude.{Ok, IfSome}
use mathlib.Core.Logic.{∥∥₁_map}
use Rattle.sn_io.specs.Causes.{Rose}
use Rattle.sn_io.specs.Told.{appended}
use Rattle.sn_record.specs.declared.item.Fault.{Fault}
use Rattle.sn_load.specs.Load.{IsLoaded, Limits}
use Rattle.sn_load.specs.Scope.{WhyNoProgram, WhyUnloaded}
use Rattle.sn_load.specs.declared.load.Program.{Program}
use Rattle.sn_load.specs.declared.load.TheConstants.{SOURCE_LIMIT}
use Rattle.sn_stop.specs.declared.refusal.Which.TheVariants.{Source, Input, Trace as TraceFile}
use Rattle.sn_stop.specs.declared.refusal.Refusal.TheVariants.{TooLarge, Source as SourceAt, NoMain, TooDeep, LargeTree, TooManyNames, IllTyped, Variants, Line, Trace}
use Rattle.sn_stop.specs.declared.refusal.Refusal.{Refusal}
use Rattle.sn_stop.specs.declared.stop.Stop.{Stop}
use Rattle.sn_stop.specs.declared.stop.Stop.TheVariants.{Refused, Faulted, Unread, Memory, Write}
use Rattle.sn_plain.specs.Answer.{BegunFeed, FindsFeed, IsAccepted, IsRefusedSource, OfFed, WhyUnfed}
use Rattle.sn_plain.specs.Feeding.{IsFed, IsFedInPart, fed_of}
use Rattle.sn_plain.specs.Pieces.{BeginsFed, HasFed, WhyNotFed}
use Rattle.sn_plain.specs.Runs.{GotPart, HasBegun, cut_by, ended}
use Rattle.sn_plain.specs.Seen.{File, Sink, WhyUnread}
use Rattle.sn_plain.proofs.Serving.{HasBytes, accepted, of_told}

module _ (limits : Limits) (source input : File) (out : Sink) where
  pub feed_unread : out.now ≡ out.before → (why : Stop) → WhyUnread Source SOURCE_LIMIT source why → WhyUnfed limits source input out why
  feed_unread same (Refused (TooLarge Source)) why = inl (why.1, same)
  feed_unread same (Refused (TooLarge Input)) why = cc
  feed_unread same (Refused (TooLarge TraceFile)) why = cc
  feed_unread same (Refused (SourceAt fault at)) why = absurd why
  feed_unread same (Refused NoMain) why = absurd why
  feed_unread same (Refused (TooDeep at)) why = absurd why
  feed_unread same (Refused (LargeTree at)) why = absurd why
  feed_unread same (Refused TooManyNames) why = absurd why
  feed_unread same (Refused (IllTyped fault at variant)) why = absurd why
  feed_unread same (Refused (Variants at)) why = absurd why
  feed_unread same (Refused (Line fault)) why = absurd why
  feed_unread same (Refused (Trace fault)) why = absurd why
  feed_unread same (Faulted fault) why = absurd why
  feed_unread same (Unread Source) why = (why.1, same)
  feed_unread same (Unread Input) why = cc
  feed_unread same (Unread TraceFile) why = cc
  feed_unread same Memory why = inl same
  feed_unread same Write why = absurd why

  module _ (bytes : List ℕ) (read : HasBytes source SOURCE_LIMIT bytes) where
    refused : (refusal : Refusal) → WhyNoProgram bytes refusal → IfSome source.told (IsRefusedSource refusal)
    refused refusal why = of_told source.told bytes (IsRefusedSource refusal) read.told (read.within, why)

    pub feed_not_loaded : out.now ≡ out.before → (why : Stop) → WhyUnloaded bytes why → WhyUnfed limits source input out why
    feed_not_loaded same (Refused (TooLarge which)) why = absurd why
    feed_not_loaded same (Refused (SourceAt fault at)) why = inl (refused (SourceAt fault at) why, same)
    feed_not_loaded same (Refused NoMain) why = inl (refused NoMain why, same)
    feed_not_loaded same (Refused (TooDeep at)) why = inl (refused (TooDeep at) why, same)
    feed_not_loaded same (Refused (LargeTree at)) why = inl (refused (LargeTree at) why, same)
    feed_not_loaded same (Refused TooManyNames) why = inl (refused TooManyNames why, same)
    feed_not_loaded same (Refused (IllTyped fault at variant)) why = inl (refused (IllTyped fault at variant) why, same)
    feed_not_loaded same (Refused (Variants at)) why = inl (refused (Variants at) why, same)
    feed_not_loaded same (Refused (Line fault)) why = absurd why
    feed_not_loaded same (Refused (Trace fault)) why = absurd why
    feed_not_loaded same (Faulted fault) why = absurd why
    feed_not_loaded same (Unread which) why = absurd why
    feed_not_loaded same Memory why = inl same
    feed_not_loaded same Write why = absurd why

    module _ (program : Program) (is : IsLoaded bytes program) where
      of_both : (P : Program → List ℕ → Type 0) → IfSome input.told (P program) → OfFed source.told input.told P
      of_both P holds =
          of_told source.told bytes (λ b. (q : Program) × IsAccepted b q × IfSome input.told (P q)) read.told (program, accepted bytes program is read.within, holds)

      -- `between` is the input's file as the feed found it
      module _ (between : File) (told : between.told ≡ input.told) (later : input.faults_before ≤ between.faults_before) (now : between.faults_now ≡ input.faults_now) where
        of_between : (P : Program → List ℕ → Type 0) → IfSome between.told (P program) → OfFed source.told input.told P
        of_between P holds = of_both P (subst (λ t. IfSome t (P program)) told holds)

        pub feed_printed : (fault end : Option Fault) → HasFed (fed_of limits program) between out fault → fault ≡ end
            → (p : List ℕ) × FindsFeed limits source.told input.told (Ok (ended p end)) × (out.now ≡ appended out.before p)
        feed_printed fault end has is_end =
            (has.0, of_between (λ q more. IsFed (fed_of limits q) more (ended has.0 end)) (subst (λ f. IfSome between.told (λ more. IsFed (fed_of limits program) more (ended has.0 f))) is_end has.1), has.2)

        begun : HasBegun (BeginsFed (fed_of limits program) between) out → HasBegun (BegunFeed limits source.told input.told) out
        begun some = ∥∥₁_map some (λ part. (part.0, of_between (λ q more. IsFedInPart (fed_of limits q) more part.0) part.1, part.2))

        got : GotPart (BeginsFed (fed_of limits program) between) out → GotPart (BegunFeed limits source.told input.told) out
        got (inl same) = inl same
        got (inr some) = inr (begun some)

        pub feed_stopped : (why : Stop) → WhyNotFed (fed_of limits program) between out why → WhyUnfed limits source input out why
        feed_stopped (Refused refusal) why = inr (why.0, of_between (λ q more. IsFed (fed_of limits q) more (cut_by why.0 refusal)) why.1, why.2)
        feed_stopped (Faulted fault) why = (why.0, of_between (λ q more. IsFed (fed_of limits q) more (ended why.0 (Some fault))) why.1, why.2)
        feed_stopped (Unread Source) why = cc
        feed_stopped (Unread TraceFile) why = cc
        feed_stopped (Unread Input) why =
            let rose : Rose input.faults_before input.faults_now = omega (arith, why.1) in
            ((rose, of_told source.told bytes (λ b. (q : Program) × IsAccepted b q) read.told (program, accepted bytes program is read.within)), got why.2)
        feed_stopped Memory why = got why
        feed_stopped Write why = (why.0, begun why.1)
