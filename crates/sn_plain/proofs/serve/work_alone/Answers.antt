use Rattle.std.proofs.Common.{ℕ, List, sym, subst}
use Rattle.std.specs.Prelude.{IfErr}
use Rattle.sn_words.specs.declared.command.Command.{Command}
use Rattle.sn_plain.specs.Answer.{WhyEnded}
use Rattle.sn_plain.specs.Seen.{File, Sink, seen_file, seen_sink}
use Rattle.sn_plain.proofs.serve.work_alone.Goals as goal

pub returns-in-Check-clause-stopped : goal.returns-in-Check-clause-stopped
returns-in-Check-clause-stopped g c =
    let file : List ℕ → File = seen_file g.F.Files.bytes_of g.F.Files.faults c.args.files.now c.run_report.new.files in
    let out : Sink = seen_sink g.O.Sink.held g.O.Sink.faults c.args.out.now c.run_report.new.out in
    subst (λ (command : Command). IfErr c.run_report.result (WhyEnded command file out)) (sym c.in-Check.is) (rw c.as_slice-in-Check.ensures at c.run_report.ensures.stopped)

pub returns-in-Print-clause-stopped : goal.returns-in-Print-clause-stopped
returns-in-Print-clause-stopped g c =
    let file : List ℕ → File = seen_file g.F.Files.bytes_of g.F.Files.faults c.args.files.now c.run_print.new.files in
    let out : Sink = seen_sink g.O.Sink.held g.O.Sink.faults c.args.out.now c.run_print.new.out in
    subst (λ (command : Command). IfErr c.run_print.result (WhyEnded command file out)) (sym c.in-Print.is) (rw c.as_slice-in-Print.ensures at c.run_print.ensures.stopped)

pub returns-in-Plan-clause-stopped : goal.returns-in-Plan-clause-stopped
returns-in-Plan-clause-stopped g c =
    let file : List ℕ → File = seen_file g.F.Files.bytes_of g.F.Files.faults c.args.files.now c.run_report-in-Plan.new.files in
    let out : Sink = seen_sink g.O.Sink.held g.O.Sink.faults c.args.out.now c.run_report-in-Plan.new.out in
    subst (λ (command : Command). IfErr c.run_report-in-Plan.result (WhyEnded command file out)) (sym c.in-Plan.is) (rw c.as_slice-in-Plan.ensures at c.run_report-in-Plan.ensures.stopped)

pub returns-in-Feed-clause-stopped : goal.returns-in-Feed-clause-stopped
returns-in-Feed-clause-stopped g c =
    let file : List ℕ → File = seen_file g.F.Files.bytes_of g.F.Files.faults c.args.files.now c.run_feed.new.files in
    let out : Sink = seen_sink g.O.Sink.held g.O.Sink.faults c.args.out.now c.run_feed.new.out in
    subst (λ (command : Command). IfErr c.run_feed.result (WhyEnded command file out)) (sym c.in-Feed.is) (rw (c.as_slice.ensures, c.as_slice-in-Feed.ensures) at c.run_feed.ensures.stopped)
