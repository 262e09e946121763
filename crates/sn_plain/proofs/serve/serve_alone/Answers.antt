use Rattle.std.proofs.Common.{map}
use Rattle.std.proofs.lemmas.Option.{IfSome_then}
use Rattle.std.specs.String.{string_bytes}
use Rattle.sn_words.specs.Words.{command_of}
use Rattle.sn_plain.specs.Answer.{Outside, seen, HasUnread, IsUnwritten, NeedsOthers}
use Rattle.sn_plain.proofs.Served.{answered_for, of_command, cut_short_for}
use Rattle.sn_plain.proofs.serve.serve_alone.Goals as goal

pub returns-in-Ok-clause-answer : goal.returns-in-Ok-clause-answer
returns-in-Ok-clause-answer g c =
    let outside : Outside = seen g.F.Files.bytes_of g.F.Files.faults g.O.Sink.held g.O.Sink.faults g.E.Sink.held g.E.Sink.faults c.args.files.now c.serve_if_plain.new.files c.args.out.now c.serve_if_plain.new.out c.args.err.now c.serve_if_plain.new.err in
    IfSome_then c.serve_if_plain.result c.serve_if_plain.ensures.answer
    (λ status answered not_read not_memory not_write. answered_for (command_of (map string_bytes c.args.words.now)) c.in-Ok.command c.in-Ok.ensures.ok outside status (answered not_read not_memory not_write))

pub returns-in-Ok-clause-read : goal.returns-in-Ok-clause-read
returns-in-Ok-clause-read g c is =
    let outside : Outside = seen g.F.Files.bytes_of g.F.Files.faults g.O.Sink.held g.O.Sink.faults g.E.Sink.held g.E.Sink.faults c.args.files.now c.serve_if_plain.new.files c.args.out.now c.serve_if_plain.new.out c.args.err.now c.serve_if_plain.new.err in
    of_command (command_of (map string_bytes c.args.words.now)) c.in-Ok.command c.in-Ok.ensures.ok outside HasUnread (c.serve_if_plain.ensures.read is)

pub returns-in-Ok-clause-memory : goal.returns-in-Ok-clause-memory
returns-in-Ok-clause-memory g c is =
    let outside : Outside = seen g.F.Files.bytes_of g.F.Files.faults g.O.Sink.held g.O.Sink.faults g.E.Sink.held g.E.Sink.faults c.args.files.now c.serve_if_plain.new.files c.args.out.now c.serve_if_plain.new.out c.args.err.now c.serve_if_plain.new.err in
    cut_short_for (command_of (map string_bytes c.args.words.now)) c.in-Ok.command c.in-Ok.ensures.ok outside (c.serve_if_plain.ensures.memory is)

pub returns-in-Ok-clause-write : goal.returns-in-Ok-clause-write
returns-in-Ok-clause-write g c is =
    let outside : Outside = seen g.F.Files.bytes_of g.F.Files.faults g.O.Sink.held g.O.Sink.faults g.E.Sink.held g.E.Sink.faults c.args.files.now c.serve_if_plain.new.files c.args.out.now c.serve_if_plain.new.out c.args.err.now c.serve_if_plain.new.err in
    of_command (command_of (map string_bytes c.args.words.now)) c.in-Ok.command c.in-Ok.ensures.ok outside IsUnwritten (c.serve_if_plain.ensures.write is)

pub returns-in-Ok-clause-others : goal.returns-in-Ok-clause-others
returns-in-Ok-clause-others g c is =
    let outside : Outside = seen g.F.Files.bytes_of g.F.Files.faults g.O.Sink.held g.O.Sink.faults g.E.Sink.held g.E.Sink.faults c.args.files.now c.serve_if_plain.new.files c.args.out.now c.serve_if_plain.new.out c.args.err.now c.serve_if_plain.new.err in
    of_command (command_of (map string_bytes c.args.words.now)) c.in-Ok.command c.in-Ok.ensures.ok outside NeedsOthers (c.serve_if_plain.ensures.others is)
