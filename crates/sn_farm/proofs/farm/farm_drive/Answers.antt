use Rattle.std.proofs.Common.{rules, ap, subst}
use Rattle.sn_io.specs.Told.{AppendsPrefix}
use Rattle.sn_output.specs.Printed.{printed}
use Rattle.sn_view.specs.View.{View}
use Rattle.sn_graph.specs.Graph.{seen}
use Rattle.sn_printing.specs.Farmed.{IsAllWritten, IsFaulted, IsWhole}
use Rattle.sn_printing.proofs.Ending.{drive_faulted, drive_first, drive_last, drive_whole, drive_written}
use Rattle.sn_farm.proofs.farm.farm_drive.Goals as goal

pub returns-clause-written : goal.returns-clause-written
returns-clause-written g c =
    subst (λ s. AppendsPrefix (g.S.Sink.held c.args.out.now.sink.now) (g.S.Sink.held s) (printed c.args.out.now.names.now (seen c.drive_watched-outcome.new.graph).out)) (search rules)
    (drive_written c.args.out.now.names.now (seen c.args.graph.now) (seen c.drive_watched-outcome.new.graph) (g.S.Sink.held c.args.out.now.sink.now) (g.S.Sink.held c.drive_watched-outcome.new.watcher.lines.sink.now)
    (g.S.Sink.faults c.args.out.now.sink.now) (g.S.Sink.faults c.drive_watched-outcome.new.watcher.lines.sink.now) (ap (λ (v : View). v.out) c.requires.started) c.drive_watched-outcome.result c.drive_watched-outcome.ensures.goes.turns)

pub returns-clause-whole : goal.returns-clause-whole
returns-clause-whole g c is =
    subst (λ s. IsWhole c.args.out.now.names.now (seen c.drive_watched-outcome.new.graph) (g.S.Sink.held c.args.out.now.sink.now) (g.S.Sink.held s)) (search rules)
    (drive_whole c.args.out.now.names.now (seen c.args.graph.now) (seen c.drive_watched-outcome.new.graph) (g.S.Sink.held c.args.out.now.sink.now) (g.S.Sink.held c.drive_watched-outcome.new.watcher.lines.sink.now)
    (g.S.Sink.faults c.args.out.now.sink.now) (g.S.Sink.faults c.drive_watched-outcome.new.watcher.lines.sink.now) (ap (λ (v : View). v.out) c.requires.started) c.drive_watched-outcome.result is c.drive_watched-outcome.ensures.goes.turns)

pub returns-clause-faulted : goal.returns-clause-faulted
returns-clause-faulted g c fault is =
    subst (λ s. IsFaulted c.args.out.now.names.now fault (seen c.drive_watched-outcome.new.graph) (g.S.Sink.held c.args.out.now.sink.now) (g.S.Sink.held s)) (search rules)
    (drive_faulted c.args.out.now.names.now (seen c.args.graph.now) (seen c.drive_watched-outcome.new.graph) (g.S.Sink.held c.args.out.now.sink.now) (g.S.Sink.held c.drive_watched-outcome.new.watcher.lines.sink.now)
    (g.S.Sink.faults c.args.out.now.sink.now) (g.S.Sink.faults c.drive_watched-outcome.new.watcher.lines.sink.now) (ap (λ (v : View). v.out) c.requires.started) c.drive_watched-outcome.result fault is c.drive_watched-outcome.ensures.goes.turns)

pub returns-clause-first : goal.returns-clause-first
returns-clause-first g c fault ends =
    drive_first c.args.out.now.names.now (seen c.args.graph.now) (seen c.drive_watched-outcome.new.graph) (g.S.Sink.held c.args.out.now.sink.now) (g.S.Sink.held c.drive_watched-outcome.new.watcher.lines.sink.now)
    (g.S.Sink.faults c.args.out.now.sink.now) (g.S.Sink.faults c.drive_watched-outcome.new.watcher.lines.sink.now) (ap (λ (v : View). v.out) c.requires.started) c.drive_watched-outcome.result fault c.drive_watched-outcome.ensures.goes.turns ends

pub returns-clause-last : goal.returns-clause-last
returns-clause-last g c rest written ends unfailed =
    drive_last c.args.out.now.names.now (seen c.args.graph.now) (seen c.drive_watched-outcome.new.graph) (g.S.Sink.held c.args.out.now.sink.now) (g.S.Sink.held c.drive_watched-outcome.new.watcher.lines.sink.now)
    (g.S.Sink.faults c.args.out.now.sink.now) (g.S.Sink.faults c.drive_watched-outcome.new.watcher.lines.sink.now) (ap (λ (v : View). v.out) c.requires.started) c.drive_watched-outcome.result c.drive_watched-outcome.ensures.goes.turns rest
    (subst (λ s. IsAllWritten c.args.out.now.names.now (seen c.drive_watched-outcome.new.graph) (g.S.Sink.held c.args.out.now.sink.now) (g.S.Sink.held s)) (search rules) written) ends unfailed
