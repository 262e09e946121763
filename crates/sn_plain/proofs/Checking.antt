-- From what each step of a report gave to why it stopped, and what it printed.
use Rattle.std.proofs.Common.{◌≡◌, ℕ, List, refl, inl}
use Rattle.std.specs.Prelude.{Ok, IfSome}
use Rattle.sn_io.specs.Told.{AppendsPrefix}
use Rattle.sn_load.specs.declared.load.Program.{Program}
use Rattle.sn_stop.specs.declared.refusal.Which.TheVariants.{Source, Input, Trace as TraceFile}
use Rattle.sn_stop.specs.declared.refusal.Refusal.TheVariants.{TooLarge, Source as SourceAt, NoMain, TooDeep, LargeTree, TooManyNames, IllTyped, Variants, Line, Trace}
use Rattle.sn_stop.specs.declared.refusal.Refusal.{Refusal}
use Rattle.sn_stop.specs.declared.stop.Stop.{Stop}
use Rattle.sn_stop.specs.declared.stop.Stop.TheVariants.{Refused, Faulted, Unread, Memory, Write}
use Rattle.sn_load.specs.declared.load.TheConstants.{SOURCE_LIMIT}
use Rattle.sn_plain.specs.Seen.{Sink, File, SinkFailed, WhyUnread}
use Rattle.sn_load.specs.Load.{IsLoaded}
use Rattle.sn_load.specs.Scope.{WhyUnloaded, WhyNoProgram}
use Rattle.sn_plain.specs.Reports.{HasReport}
use Rattle.sn_plain.specs.declared.reports.Report.{Report}
use Rattle.sn_plain.specs.Answer.{IsAccepted, IsRefusedSource, FindsReport, IsWhole, WhyUnreported}
use Rattle.sn_plain.specs.Runs.{whole}
use Rattle.sn_plain.proofs.Serving.{HasBytes, accepted, of_told}

module _ (about : Report) (source : File) (out : Sink) where
  pub report_unread : out.now ≡ out.before → (why : Stop) → WhyUnread Source SOURCE_LIMIT source why → WhyUnreported about source out why
  report_unread same (Refused (TooLarge Source)) why = inl (why.1, same)
  report_unread same (Refused (TooLarge Input)) why = cc
  report_unread same (Refused (TooLarge TraceFile)) why = cc
  report_unread same (Refused (SourceAt fault at)) why = absurd why
  report_unread same (Refused NoMain) why = absurd why
  report_unread same (Refused (TooDeep at)) why = absurd why
  report_unread same (Refused (LargeTree at)) why = absurd why
  report_unread same (Refused TooManyNames) why = absurd why
  report_unread same (Refused (IllTyped fault at variant)) why = absurd why
  report_unread same (Refused (Variants at)) why = absurd why
  report_unread same (Refused (Line fault)) why = absurd why
  report_unread same (Refused (Trace fault)) why = absurd why
  report_unread same (Faulted fault) why = absurd why
  report_unread same (Unread Source) why = (why.1, same)
  report_unread same (Unread Input) why = cc
  report_unread same (Unread TraceFile) why = cc
  report_unread same Memory why = inl same
  report_unread same Write why = absurd why

  module _ (bytes : List ℕ) (read : HasBytes source SOURCE_LIMIT bytes) where
    refused : (refusal : Refusal) → WhyNoProgram bytes refusal → IfSome source.told (IsRefusedSource refusal)
    refused refusal why = of_told source.told bytes (IsRefusedSource refusal) read.told (read.within, why)

    pub not_reported : out.now ≡ out.before → (why : Stop) → WhyUnloaded bytes why → WhyUnreported about source out why
    not_reported same (Refused (TooLarge which)) why = absurd why
    not_reported same (Refused (SourceAt fault at)) why = inl (refused (SourceAt fault at) why, same)
    not_reported same (Refused NoMain) why = inl (refused NoMain why, same)
    not_reported same (Refused (TooDeep at)) why = inl (refused (TooDeep at) why, same)
    not_reported same (Refused (LargeTree at)) why = inl (refused (LargeTree at) why, same)
    not_reported same (Refused TooManyNames) why = inl (refused TooManyNames why, same)
    not_reported same (Refused (IllTyped fault at variant)) why = inl (refused (IllTyped fault at variant) why, same)
    not_reported same (Refused (Variants at)) why = inl (refused (Variants at) why, same)
    not_reported same (Refused (Line fault)) why = absurd why
    not_reported same (Refused (Trace fault)) why = absurd why
    not_reported same (Faulted fault) why = absurd why
    not_reported same (Unread which) why = absurd why
    not_reported same Memory why = inl same
    not_reported same Write why = absurd why

    module _ (program : Program) (is : IsLoaded bytes program) (text : List ℕ) (has : HasReport about program text) where
      pub finds_report : FindsReport about source.told (Ok (whole text))
      finds_report =
          of_told source.told bytes (λ b. (q : Program) × IsAccepted b q × HasReport about q text × IsWhole (whole text)) read.told
          (program, accepted bytes program is read.within, has, refl)

      pub report_cut : AppendsPrefix out.before out.now text → SinkFailed out → WhyUnreported about source out Write
      report_cut part failed = (failed, ∣ (whole text, finds_report, part) ∣₁)
