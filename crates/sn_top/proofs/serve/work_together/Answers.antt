use Rattle.std.proofs.Common.{◌≡◌, ◌≤◌, ℕ, List, sym, subst}
use Rattle.std.specs.Prelude.{IfErr, Ok, OnOk}
use Rattle.sn_io.specs.Told.{appended}
use Rattle.sn_words.specs.declared.command.Command.{Command}
use Rattle.sn_words.specs.Command.{IsInRange}
use Rattle.sn_load.specs.Load.{AreLimits, limits_of}
use Rattle.sn_model.specs.Ranges.{IsWithin}
use Rattle.sn_model.specs.declared.run.TheConstants.{LONGEST_QUEUE}
use Rattle.sn_top.specs.declared.workers.Setup.{Setup}
use Rattle.sn_plain.specs.Answer.{FindsFor, WhyEnded}
use Rattle.sn_plain.specs.Runs.{whole}
use Rattle.sn_plain.specs.Seen.{File, Sink, seen_file, seen_sink}
use Rattle.sn_top.proofs.serve.work_together.Goals as goal

pub run_with_workers-requires-clause-limits : goal.run_with_workers-requires-clause-limits
run_with_workers-requires-clause-limits g c κs within =
    let numbers = subst IsInRange c.in-Run.is c.requires.numbers in
    subst (λ (setup : Setup). AreLimits (limits_of setup.fuel setup.depth)) (sym c.set_up.ensures) (record { fuel = record { some = numbers.2; few = numbers.3 }; depth = record { some = numbers.4; few = numbers.5 } })

pub run_with_workers-requires-clause-workers : goal.run_with_workers-requires-clause-workers
run_with_workers-requires-clause-workers g c κs within =
    let numbers = subst IsInRange c.in-Run.is c.requires.numbers in
    subst (λ (setup : Setup). (1 ≤ setup.workers) × (setup.workers ≤ 64)) (sym c.set_up.ensures) (numbers.0, numbers.1)

pub run_with_workers-requires-clause-queue : goal.run_with_workers-requires-clause-queue
run_with_workers-requires-clause-queue g c κs within =
    let numbers = subst IsInRange c.in-Run.is c.requires.numbers in
    subst (λ (setup : Setup). IsWithin setup.queue LONGEST_QUEUE) (sym c.set_up.ensures) (record { some = numbers.6; few = numbers.7 })

pub run_traced-requires-clause-limits : goal.run_traced-requires-clause-limits
run_traced-requires-clause-limits g c κs within =
    let numbers = subst IsInRange c.in-Trace.is c.requires.numbers in
    subst (λ (setup : Setup). AreLimits (limits_of setup.fuel setup.depth)) (sym c.set_up-in-Trace.ensures) (record { fuel = record { some = numbers.2; few = numbers.3 }; depth = record { some = numbers.4; few = numbers.5 } })

pub run_traced-requires-clause-workers : goal.run_traced-requires-clause-workers
run_traced-requires-clause-workers g c κs within =
    let numbers = subst IsInRange c.in-Trace.is c.requires.numbers in
    subst (λ (setup : Setup). (1 ≤ setup.workers) × (setup.workers ≤ 64)) (sym c.set_up-in-Trace.ensures) (numbers.0, numbers.1)

pub run_traced-requires-clause-queue : goal.run_traced-requires-clause-queue
run_traced-requires-clause-queue g c κs within =
    let numbers = subst IsInRange c.in-Trace.is c.requires.numbers in
    subst (λ (setup : Setup). IsWithin setup.queue LONGEST_QUEUE) (sym c.set_up-in-Trace.ensures) (record { some = numbers.6; few = numbers.7 })

pub returns-in-Sample-clause-done : goal.returns-in-Sample-clause-done
returns-in-Sample-clause-done g c =
    let file : List ℕ → File = seen_file g.F.Files.bytes_of g.F.Files.faults c.args.files.now c.args.files.now in
    subst (λ (command : Command). OnOk c.run_sample.result ((p : List ℕ) × FindsFor command file (Ok (whole p)) × (g.O.Sink.held c.run_sample.new.out ≡ appended (g.O.Sink.held c.args.out.now) p)))
    (sym c.in-Sample.is) c.run_sample.ensures.done

pub returns-in-Sample-clause-stopped : goal.returns-in-Sample-clause-stopped
returns-in-Sample-clause-stopped g c =
    let file : List ℕ → File = seen_file g.F.Files.bytes_of g.F.Files.faults c.args.files.now c.args.files.now in
    let out : Sink = seen_sink g.O.Sink.held g.O.Sink.faults c.args.out.now c.run_sample.new.out in
    subst (λ (command : Command). IfErr c.run_sample.result (WhyEnded command file out)) (sym c.in-Sample.is) c.run_sample.ensures.stopped

pub returns-in-Run-clause-stopped : goal.returns-in-Run-clause-stopped
returns-in-Run-clause-stopped g c =
    let file : List ℕ → File = seen_file g.F.Files.bytes_of g.F.Files.faults c.args.files.now c.run_with_workers.new.files in
    let out : Sink = seen_sink g.O.Sink.held g.O.Sink.faults c.args.out.now c.run_with_workers.new.out in
    subst (λ (command : Command). IfErr c.run_with_workers.result (WhyEnded command file out)) (sym c.in-Run.is) (rw (c.as_slice.ensures, c.as_slice-in-Run.ensures, c.set_up.ensures) at c.run_with_workers.ensures.stopped)

pub returns-in-Trace-clause-stopped : goal.returns-in-Trace-clause-stopped
returns-in-Trace-clause-stopped g c =
    let file : List ℕ → File = seen_file g.F.Files.bytes_of g.F.Files.faults c.args.files.now c.run_traced.new.files in
    let out : Sink = seen_sink g.O.Sink.held g.O.Sink.faults c.args.out.now c.run_traced.new.out in
    subst (λ (command : Command). IfErr c.run_traced.result (WhyEnded command file out)) (sym c.in-Trace.is) (rw (c.as_slice-in-Trace.ensures, c.as_slice-in-Trace-2.ensures, c.set_up-in-Trace.ensures) at c.run_traced.ensures.stopped)
