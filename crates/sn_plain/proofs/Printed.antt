-- From what each step of printing a source gave to why it stopped, and what it printed.
use Rattle.std.proofs.Common.{◌≡◌, ℕ, ◌≤◌, List, length, refl, inl}
use Rattle.std.specs.Prelude.{Ok, Err, Result}
use Rattle.sn_io.specs.Told.{AppendsPrefix}
use Rattle.sn_load.specs.declared.load.TheConstants.{SOURCE_LIMIT}
use Rattle.sn_stop.specs.declared.refusal.Which.TheVariants.{Source, Input, Trace as TraceFile}
use Rattle.sn_stop.specs.declared.refusal.Refusal.{Refusal}
use Rattle.sn_stop.specs.declared.refusal.Refusal.TheVariants.{TooLarge, Source as SourceAt, NoMain, TooDeep, LargeTree, TooManyNames, IllTyped, Variants, Line, Trace}
use Rattle.sn_stop.specs.declared.stop.Stop.{Stop}
use Rattle.sn_stop.specs.declared.stop.Stop.TheVariants.{Refused, Faulted, Unread, Memory, Write}
use Rattle.sn_plain.specs.Answer.{FindsText, IsWhole, WhyUnprinted}
use Rattle.sn_plain.specs.Runs.{whole}
use Rattle.sn_plain.specs.Seen.{File, Sink, SinkFailed, WhyUnread}
use Rattle.sn_load.specs.Source.{FindsSource, HasText, WhyNoText}
use Rattle.sn_plain.proofs.Serving.{HasBytes, of_told}

module _ (source : File) (out : Sink) where
  pub text_unread : out.now ≡ out.before → (why : Stop) → WhyUnread Source SOURCE_LIMIT source why → WhyUnprinted source out why
  text_unread same (Refused (TooLarge Source)) why = inl (why.1, same)
  text_unread same (Refused (TooLarge Input)) why = cc
  text_unread same (Refused (TooLarge TraceFile)) why = cc
  text_unread same (Refused (SourceAt fault at)) why = absurd why
  text_unread same (Refused (TooDeep at)) why = absurd why
  text_unread same (Refused NoMain) why = absurd why
  text_unread same (Refused (LargeTree at)) why = absurd why
  text_unread same (Refused TooManyNames) why = absurd why
  text_unread same (Refused (Line fault)) why = absurd why
  text_unread same (Refused (Trace fault)) why = absurd why
  text_unread same (Refused (IllTyped fault at variant)) why = absurd why
  text_unread same (Refused (Variants at)) why = absurd why
  text_unread same (Faulted fault) why = absurd why
  text_unread same (Unread Source) why = (why.1, same)
  text_unread same (Unread Input) why = cc
  text_unread same (Unread TraceFile) why = cc
  text_unread same Memory why = inl same
  text_unread same Write why = absurd why

  module _ (bytes : List ℕ) (read : HasBytes source SOURCE_LIMIT bytes) where
    abbrev Found : Result (List ℕ) Refusal → List ℕ → Type 0
    Found found b = (length b ≤ SOURCE_LIMIT) × FindsSource b found

    pub no_text : out.now ≡ out.before → (why : Stop) → WhyNoText bytes why → WhyUnprinted source out why
    no_text same (Refused (TooLarge which)) why = absurd why
    no_text same (Refused (SourceAt fault at)) why = inl (of_told source.told bytes (Found (Err (SourceAt fault at))) read.told (read.within, why), same)
    no_text same (Refused (TooDeep at)) why = inl (of_told source.told bytes (Found (Err (TooDeep at))) read.told (read.within, why), same)
    no_text same (Refused NoMain) why = absurd why
    no_text same (Refused (LargeTree at)) why = absurd why
    no_text same (Refused TooManyNames) why = absurd why
    no_text same (Refused (Line fault)) why = absurd why
    no_text same (Refused (Trace fault)) why = absurd why
    no_text same (Refused (IllTyped fault at variant)) why = absurd why
    no_text same (Refused (Variants at)) why = absurd why
    no_text same (Faulted fault) why = absurd why
    no_text same (Unread which) why = absurd why
    no_text same Memory why = inl same
    no_text same Write why = absurd why

    pub finds_text : (text : List ℕ) → HasText bytes text → FindsText source.told (Ok (whole text))
    finds_text text h = of_told source.told bytes (λ b. (length b ≤ SOURCE_LIMIT) × FindsSource b (Ok text) × IsWhole (whole text)) read.told (read.within, h, refl)

    pub text_cut : (text : List ℕ) → HasText bytes text → AppendsPrefix out.before out.now text → SinkFailed out → WhyUnprinted source out Write
    text_cut text h part failed = (failed, ∣ (whole text, finds_text text h, part) ∣₁)
