use Rattle.sn_load.specs.Load.{limits_of}
use Rattle.sn_plain.specs.Seen.{Sink, seen_sink}
use Rattle.sn_plain.proofs.Running.{has_printed, not_finished, run_typed}
use Rattle.sn_plain.proofs.transcript.print_once.Goals as goal

pub new-run-requires-clause-fuel : goal.new-run-requires-clause-fuel
new-run-requires-clause-fuel g c = c.requires.limits.fuel

pub new-run-requires-clause-depth : goal.new-run-requires-clause-depth
new-run-requires-clause-depth g c = c.requires.limits.depth

pub print_run-requires : goal.print_run-requires
print_run-requires g c =
    run_typed c.new-run.result (limits_of c.args.fuel c.args.depth) c.args.ready c.new-run.ensures.net c.new-run.ensures.boxes c.new-run.ensures.fuel c.new-run.ensures.depth c.requires.typed

pub returns-clause-done : goal.returns-clause-done
returns-clause-done g c =
    let out : Sink = seen_sink g.O.Sink.held g.O.Sink.faults c.args.out.now c.print_run.new.out in
    has_printed c.new-run.result (limits_of c.args.fuel c.args.depth) c.args.ready c.new-run.ensures.net c.new-run.ensures.boxes c.new-run.ensures.fuel c.new-run.ensures.depth
    out c.print_run.result c.print_run.ensures.ended c.print_run.ensures.whole

pub returns-clause-ended : goal.returns-clause-ended
returns-clause-ended g c =
    let out : Sink = seen_sink g.O.Sink.held g.O.Sink.faults c.args.out.now c.print_run.new.out in
    not_finished c.new-run.result (limits_of c.args.fuel c.args.depth) c.args.ready c.new-run.ensures.net c.new-run.ensures.boxes c.new-run.ensures.fuel c.new-run.ensures.depth
    out c.print_run.result c.print_run.ensures.stopped
