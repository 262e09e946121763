use Rattle.std.proofs.Common.{ℕ, List, sym, subst}
use Rattle.std.specs.Prelude.{IfErr}
use Rattle.sn_words.specs.declared.command.Command.{Command}
use Rattle.sn_plain.specs.Answer.{WhyEnded}
use Rattle.sn_plain.specs.Seen.{File, Sink, seen_file, seen_sink}
use Rattle.sn_words.specs.Command.{IsInRange}
use Rattle.sn_plain.proofs.serve.work_on_whole.Goals as goal

pub run_once-requires : goal.run_once-requires
run_once-requires g c =
    let numbers = subst IsInRange c.in-Once.is c.requires.numbers in
    record { fuel = record { some = numbers.0; few = numbers.1 }; depth = record { some = numbers.2; few = numbers.3 } }

pub returns-in-Once-clause-stopped : goal.returns-in-Once-clause-stopped
returns-in-Once-clause-stopped g c =
    let file : List ℕ → File = seen_file g.F.Files.bytes_of g.F.Files.faults c.args.files.now c.run_once.new.files in
    let out : Sink = seen_sink g.O.Sink.held g.O.Sink.faults c.args.out.now c.run_once.new.out in
    subst (λ (command : Command). IfErr c.run_once.result (WhyEnded command file out)) (sym c.in-Once.is) (rw (c.as_slice.ensures, c.as_slice-in-Once.ensures) at c.run_once.ensures.stopped)

pub run_replay-requires : goal.run_replay-requires
run_replay-requires g c =
    let numbers = subst IsInRange c.in-Replay.is c.requires.numbers in
    record { fuel = record { some = numbers.0; few = numbers.1 }; depth = record { some = numbers.2; few = numbers.3 } }

pub returns-in-Replay-clause-stopped : goal.returns-in-Replay-clause-stopped
returns-in-Replay-clause-stopped g c =
    let file : List ℕ → File = seen_file g.F.Files.bytes_of g.F.Files.faults c.args.files.now c.run_replay.new.files in
    let out : Sink = seen_sink g.O.Sink.held g.O.Sink.faults c.args.out.now c.run_replay.new.out in
    subst (λ (command : Command). IfErr c.run_replay.result (WhyEnded command file out)) (sym c.in-Replay.is)
    (rw (c.as_slice-in-Replay.ensures, c.as_slice-in-Replay-2.ensures, c.as_slice-in-Replay-3.ensures) at c.run_replay.ensures.stopped)
