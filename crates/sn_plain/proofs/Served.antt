-- From why a run stopped to what the call that did it may leave.
use Rattle.std.proofs.Common.{◌≡◌, ◌≢◌, ℕ, List, refl, sym, ◌∙◌, subst, inl, inr, Some, Option}
use Rattle.std.specs.Prelude.{Result, Ok, Err, ◌⊎◌, OnOk, IfErr}
use Rattle.sn_io.specs.Told.{appended}
use Rattle.sn_io.proofs.Told.{appended_none}
use Rattle.sn_words.specs.declared.command.Command.{Command}
use Rattle.sn_stop.specs.declared.status.Status.{Status}
use Rattle.sn_stop.specs.declared.status.Status.TheVariants as status
use Rattle.sn_stop.specs.declared.refusal.Refusal.TheVariants.{TooLarge, Source as SourceAt, NoMain, TooDeep, LargeTree, TooManyNames, IllTyped, Variants, Line, Trace}
use Rattle.sn_stop.specs.declared.stop.Stop.{Stop}
use Rattle.sn_stop.specs.declared.stop.Stop.TheVariants.{Refused, Faulted, Unread, Memory, Write}
use Rattle.sn_stop.specs.declared.refusal.LineFault.TheVariants as wrong
use Rattle.sn_stop.specs.Status.{stop_status, stop_line}
use Rattle.sn_words.specs.Command.{source_of, input_of, trace_of}
use Rattle.sn_plain.specs.Runs.{GotPart, cut_by, ended, whole}
use Rattle.sn_plain.specs.Seen.{GotLine}
use Rattle.sn_plain.specs.Answer.{BeginsFor, GotEnd, Outside, end_status, FindsFor, WhyEnded, IsAnswered, HasUnread, IsCutShort, IsUnwritten, IsAnsweredFor, OfCommand, IsCutShortFor}

module _ (command : Command) (outside : Outside) where
  -- the whole output was printed, and nothing was said on `err`
  done : (p : List ℕ) → FindsFor command outside.file (Ok (whole p)) → outside.out.now ≡ appended outside.out.before p → outside.err.now ≡ outside.err.before → IsAnswered command outside status.Ok
  done p finds out_got err_same = record { found = Ok (whole p); finds = finds; status_is = refl; out_got = out_got; err_got = inl (err_same ∙ sym (appended_none outside.err.before)) }

  abbrev Stopped : Stop → Type 0
  Stopped why = WhyEnded command outside.file outside.out why

  abbrev Told : Stop → Type 0
  Told why = GotLine outside.err (stop_line why (source_of command) (input_of command) (trace_of command))

  answered : (why : Stop) → Stopped why → Told why → stop_status why ≢ status.Read → stop_status why ≢ status.Memory → stop_status why ≢ status.Write → IsAnswered command outside (stop_status why)
  answered (Refused refusal) (inl stopped) line not_read not_memory not_write = record { found = Err refusal; finds = stopped.0; status_is = refl; out_got = stopped.1 ∙ sym (appended_none outside.out.before); err_got = line }
  answered (Refused refusal) (inr stopped) line not_read not_memory not_write = record { found = Ok (cut_by stopped.0 refusal); finds = stopped.1; status_is = refl; out_got = stopped.2; err_got = line }
  answered (Faulted fault) stopped line not_read not_memory not_write = record { found = Ok (ended stopped.0 (Some fault)); finds = stopped.1; status_is = refl; out_got = stopped.2; err_got = line }
  answered (Unread which) stopped line not_read not_memory not_write = absurd (not_read refl)
  answered Memory stopped line not_read not_memory not_write = absurd (not_memory refl)
  answered Write stopped line not_read not_memory not_write = absurd (not_write refl)

  unread : (why : Stop) → Stopped why → Told why → stop_status why ≡ status.Read → HasUnread command outside
  unread (Refused (TooLarge which)) stopped line is = cc
  unread (Refused (SourceAt fault at)) stopped line is = cc
  unread (Refused NoMain) stopped line is = cc
  unread (Refused (TooDeep at)) stopped line is = cc
  unread (Refused (LargeTree at)) stopped line is = cc
  unread (Refused TooManyNames) stopped line is = cc
  unread (Refused (Line (wrong.BadLine n))) stopped told is = cc
  unread (Refused (Line (wrong.Untyped n))) stopped told is = cc
  unread (Refused (Line (wrong.Twice n kind name))) stopped told is = cc
  unread (Refused (Line (wrong.TooMany n))) stopped told is = cc
  unread (Refused (Line (wrong.TooLong n))) stopped told is = cc
  unread (Refused (Trace fault)) stopped told is = cc
  unread (Refused (IllTyped fault at variant)) stopped line is = cc
  unread (Refused (Variants at)) stopped line is = cc
  unread (Faulted fault) stopped line is = cc
  unread (Unread which) stopped line is = record { which = which; why = stopped.0; out_got = stopped.1; err_got = line }
  unread Memory stopped line is = cc
  unread Write stopped line is = cc

  cut_short : (why : Stop) → Stopped why → Told why → stop_status why ≡ status.Memory → IsCutShort command outside
  cut_short (Refused (TooLarge which)) stopped line is = cc
  cut_short (Refused (SourceAt fault at)) stopped line is = cc
  cut_short (Refused NoMain) stopped line is = cc
  cut_short (Refused (TooDeep at)) stopped line is = cc
  cut_short (Refused (LargeTree at)) stopped line is = cc
  cut_short (Refused TooManyNames) stopped line is = cc
  cut_short (Refused (Line (wrong.BadLine n))) stopped told is = cc
  cut_short (Refused (Line (wrong.Untyped n))) stopped told is = cc
  cut_short (Refused (Line (wrong.Twice n kind name))) stopped told is = cc
  cut_short (Refused (Line (wrong.TooMany n))) stopped told is = cc
  cut_short (Refused (Line (wrong.TooLong n))) stopped told is = cc
  cut_short (Refused (Trace fault)) stopped told is = cc
  cut_short (Refused (IllTyped fault at variant)) stopped line is = cc
  cut_short (Refused (Variants at)) stopped line is = cc
  cut_short (Faulted fault) stopped line is = cc
  cut_short (Unread which) stopped line is = cc
  cut_short Memory stopped line is = record { out_got = stopped; err_got = line }
  cut_short Write stopped line is = cc

  unwritten : (why : Stop) → Stopped why → Told why → stop_status why ≡ status.Write → IsUnwritten command outside
  unwritten (Refused (TooLarge which)) stopped line is = cc
  unwritten (Refused (SourceAt fault at)) stopped line is = cc
  unwritten (Refused NoMain) stopped line is = cc
  unwritten (Refused (TooDeep at)) stopped line is = cc
  unwritten (Refused (LargeTree at)) stopped line is = cc
  unwritten (Refused TooManyNames) stopped line is = cc
  unwritten (Refused (Line (wrong.BadLine n))) stopped told is = cc
  unwritten (Refused (Line (wrong.Untyped n))) stopped told is = cc
  unwritten (Refused (Line (wrong.Twice n kind name))) stopped told is = cc
  unwritten (Refused (Line (wrong.TooMany n))) stopped told is = cc
  unwritten (Refused (Line (wrong.TooLong n))) stopped told is = cc
  unwritten (Refused (Trace fault)) stopped told is = cc
  unwritten (Refused (IllTyped fault at variant)) stopped line is = cc
  unwritten (Refused (Variants at)) stopped line is = cc
  unwritten (Faulted fault) stopped line is = cc
  unwritten (Unread which) stopped line is = cc
  unwritten Memory stopped line is = cc
  unwritten Write stopped line is = record { out_failed = stopped; err_got = line }

  -- what was done, with its status and what `err` got, and nothing more
  module _ (end : Result (Unit {0}) Stop) (s : Status) (is : s ≡ end_status end) (done_all : OnOk end ((p : List ℕ) × FindsFor command outside.file (Ok (whole p)) × (outside.out.now ≡ appended outside.out.before p)))
      (stopped : IfErr end (WhyEnded command outside.file outside.out)) (got : GotEnd outside.err end command) where
    pub concludes : s ≢ status.Read → s ≢ status.Memory → s ≢ status.Write → IsAnswered command outside s
    concludes = by end s is done_all stopped got
      where
        by : (end : Result (Unit {0}) Stop) (s : Status) → s ≡ end_status end → OnOk end ((p : List ℕ) × FindsFor command outside.file (Ok (whole p)) × (outside.out.now ≡ appended outside.out.before p))
            → IfErr end (WhyEnded command outside.file outside.out) → GotEnd outside.err end command → s ≢ status.Read → s ≢ status.Memory → s ≢ status.Write → IsAnswered command outside s
        by (Ok u) s is all why got not_read not_memory not_write = subst (IsAnswered command outside) (sym is) (done all.0 all.1 all.2 got)
        by (Err stop) s is all why got not_read not_memory not_write =
            subst (IsAnswered command outside) (sym is) (answered stop why got (λ e. not_read (is ∙ e)) (λ e. not_memory (is ∙ e)) (λ e. not_write (is ∙ e)))

    pub concludes_unread : s ≡ status.Read → HasUnread command outside
    concludes_unread e = by end (sym is ∙ e) stopped got
      where
        by : (end : Result (Unit {0}) Stop) → end_status end ≡ status.Read → IfErr end (WhyEnded command outside.file outside.out) → GotEnd outside.err end command → HasUnread command outside
        by (Ok u) e why got = cc
        by (Err stop) e why got = unread stop why got e

    pub concludes_short : s ≡ status.Memory → IsCutShort command outside
    concludes_short e = by end (sym is ∙ e) stopped got
      where
        by : (end : Result (Unit {0}) Stop) → end_status end ≡ status.Memory → IfErr end (WhyEnded command outside.file outside.out) → GotEnd outside.err end command → IsCutShort command outside
        by (Ok u) e why got = cc
        by (Err stop) e why got = cut_short stop why got e

    pub concludes_unwritten : s ≡ status.Write → IsUnwritten command outside
    concludes_unwritten e = by end (sym is ∙ e) stopped got
      where
        by : (end : Result (Unit {0}) Stop) → end_status end ≡ status.Write → IfErr end (WhyEnded command outside.file outside.out) → GotEnd outside.err end command → IsUnwritten command outside
        by (Ok u) e why got = cc
        by (Err stop) e why got = unwritten stop why got e

-- the clauses for words that are this command
module _ (command : Option Command) (found : Command) (is : command ≡ Some found) (outside : Outside) where
  pub answered_for : (s : Status) → IsAnswered found outside s → IsAnsweredFor command outside s
  answered_for s h = subst (λ c. IsAnsweredFor c outside s) (sym is) h

  pub of_command : (P : Command → Outside → Type 0) → P found outside → OfCommand P command outside
  of_command P h = subst (λ c. OfCommand P c outside) (sym is) h

  pub cut_short_for : IsCutShort found outside → IsCutShortFor command outside
  cut_short_for cut = record { out_got = part cut.out_got; err_got = cut.err_got }
    where
      Part : Command → Outside → Type 0
      Part c o = GotPart (BeginsFor c o.file) o.out

      part : Part found outside → (outside.out.now ≡ outside.out.before) ⊎ OfCommand Part command outside
      part h = inr (of_command Part h)
