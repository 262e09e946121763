use Rattle.std.proofs.Common.{map}
use Rattle.std.specs.String.{string_bytes}
use Rattle.sn_words.specs.Words.{command_of}
use Rattle.sn_plain.specs.Answer.{Outside, seen, HasUnread, IsUnwritten}
use Rattle.sn_plain.proofs.Served.{answered_for, of_command, cut_short_for}
use Rattle.sn_top.proofs.serve.serve_words.Goals as goal

pub returns-in-Ok-clause-answer : goal.returns-in-Ok-clause-answer
returns-in-Ok-clause-answer g c = λ not_read not_memory not_write.
    let outside : Outside = seen g.F.Files.bytes_of g.F.Files.faults g.O.Sink.held g.O.Sink.faults g.E.Sink.held g.E.Sink.faults c.args.files.now c.serve.new.files c.args.out.now c.serve.new.out c.args.err.now c.serve.new.err in
    answered_for (command_of (map string_bytes c.args.words.now)) c.in-Ok.command c.in-Ok.ensures.ok outside c.serve.result (c.serve.ensures.answer not_read not_memory not_write)

pub returns-in-Ok-clause-read : goal.returns-in-Ok-clause-read
returns-in-Ok-clause-read g c is =
    let outside : Outside = seen g.F.Files.bytes_of g.F.Files.faults g.O.Sink.held g.O.Sink.faults g.E.Sink.held g.E.Sink.faults c.args.files.now c.serve.new.files c.args.out.now c.serve.new.out c.args.err.now c.serve.new.err in
    of_command (command_of (map string_bytes c.args.words.now)) c.in-Ok.command c.in-Ok.ensures.ok outside HasUnread (c.serve.ensures.read is)

pub returns-in-Ok-clause-memory : goal.returns-in-Ok-clause-memory
returns-in-Ok-clause-memory g c is =
    let outside : Outside = seen g.F.Files.bytes_of g.F.Files.faults g.O.Sink.held g.O.Sink.faults g.E.Sink.held g.E.Sink.faults c.args.files.now c.serve.new.files c.args.out.now c.serve.new.out c.args.err.now c.serve.new.err in
    cut_short_for (command_of (map string_bytes c.args.words.now)) c.in-Ok.command c.in-Ok.ensures.ok outside (c.serve.ensures.memory is)

pub returns-in-Ok-clause-write : goal.returns-in-Ok-clause-write
returns-in-Ok-clause-write g c is =
    let outside : Outside = seen g.F.Files.bytes_of g.F.Files.faults g.O.Sink.held g.O.Sink.faults g.E.Sink.held g.E.Sink.faults c.args.files.now c.serve.new.files c.args.out.now c.serve.new.out c.args.err.now c.serve.new.err in
    of_command (command_of (map string_bytes c.args.words.now)) c.in-Ok.command c.in-Ok.ensures.ok outside IsUnwritten (c.serve.ensures.write is)
