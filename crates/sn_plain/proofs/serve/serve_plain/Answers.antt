use Rattle.sn_plain.specs.Answer.{Outside, seen}
use Rattle.sn_plain.proofs.Served.{concludes, concludes_short, concludes_unread, concludes_unwritten}
use Rattle.sn_plain.proofs.serve.serve_plain.Goals as goal

pub returns-clause-answer : goal.returns-clause-answer
returns-clause-answer g c =
    let outside : Outside = seen g.F.Files.bytes_of g.F.Files.faults g.O.Sink.held g.O.Sink.faults g.E.Sink.held g.E.Sink.faults c.args.files.now c.work_alone-end.new.files c.args.out.now c.work_alone-end.new.out c.args.err.now c.conclude.new.err in
    concludes c.args.command.now outside c.work_alone-end.result c.conclude.result c.conclude.ensures.status c.work_alone-end.ensures.done c.work_alone-end.ensures.stopped c.conclude.ensures.got

pub returns-clause-read : goal.returns-clause-read
returns-clause-read g c =
    let outside : Outside = seen g.F.Files.bytes_of g.F.Files.faults g.O.Sink.held g.O.Sink.faults g.E.Sink.held g.E.Sink.faults c.args.files.now c.work_alone-end.new.files c.args.out.now c.work_alone-end.new.out c.args.err.now c.conclude.new.err in
    concludes_unread c.args.command.now outside c.work_alone-end.result c.conclude.result c.conclude.ensures.status c.work_alone-end.ensures.done c.work_alone-end.ensures.stopped c.conclude.ensures.got

pub returns-clause-memory : goal.returns-clause-memory
returns-clause-memory g c =
    let outside : Outside = seen g.F.Files.bytes_of g.F.Files.faults g.O.Sink.held g.O.Sink.faults g.E.Sink.held g.E.Sink.faults c.args.files.now c.work_alone-end.new.files c.args.out.now c.work_alone-end.new.out c.args.err.now c.conclude.new.err in
    concludes_short c.args.command.now outside c.work_alone-end.result c.conclude.result c.conclude.ensures.status c.work_alone-end.ensures.done c.work_alone-end.ensures.stopped c.conclude.ensures.got

pub returns-clause-write : goal.returns-clause-write
returns-clause-write g c =
    let outside : Outside = seen g.F.Files.bytes_of g.F.Files.faults g.O.Sink.held g.O.Sink.faults g.E.Sink.held g.E.Sink.faults c.args.files.now c.work_alone-end.new.files c.args.out.now c.work_alone-end.new.out c.args.err.now c.conclude.new.err in
    concludes_unwritten c.args.command.now outside c.work_alone-end.result c.conclude.result c.conclude.ensures.status c.work_alone-end.ensures.done c.work_alone-end.ensures.stopped c.conclude.ensures.got
