use Rattle.std.proofs.Common.{◌∙◌, subst, sym}
use Rattle.sn_load.specs.Load.{limits_of}
use Rattle.sn_typing.specs.Accepted.{IsAccepted}
use Rattle.sn_plain.specs.Seen.{File, Sink, seen_file, seen_sink}
use Rattle.sn_plain.proofs.LongInput.{fed_done, fed_stopped}
use Rattle.sn_plain.proofs.feeding.feed_program.Goals as goal

pub new-requires-2-clause-accepted : goal.new-requires-2-clause-accepted
new-requires-2-clause-accepted g c = subst (λ boxes. IsAccepted boxes c.args.program.claim) (sym c.new-run.ensures.boxes) c.requires.accepted

pub returns-clause-done : goal.returns-clause-done
returns-clause-done g c =
    let input : File = seen_file g.F.Files.bytes_of g.F.Files.faults c.args.files.now c.print_pieces.new.files c.args.input_name.now in
    let out : Sink = seen_sink g.O.Sink.held g.O.Sink.faults c.args.out.now c.print_pieces.new.out in
    fed_done c.new-run.result c.args.program (limits_of c.args.fuel c.args.depth) c.in_ok-feed.feed (c.new-run.ensures.net ∙ c.in_ok-net.ensures) c.new-run.ensures.boxes c.new-run.ensures.fuel c.new-run.ensures.depth
    c.in_ok-feed.ensures.run c.in_ok-feed.ensures.names c.in_ok-feed.ensures.still input out c.print_pieces.result c.print_pieces.ensures.done

pub returns-clause-stopped : goal.returns-clause-stopped
returns-clause-stopped g c =
    let input : File = seen_file g.F.Files.bytes_of g.F.Files.faults c.args.files.now c.print_pieces.new.files c.args.input_name.now in
    let out : Sink = seen_sink g.O.Sink.held g.O.Sink.faults c.args.out.now c.print_pieces.new.out in
    fed_stopped c.new-run.result c.args.program (limits_of c.args.fuel c.args.depth) c.in_ok-feed.feed (c.new-run.ensures.net ∙ c.in_ok-net.ensures) c.new-run.ensures.boxes c.new-run.ensures.fuel c.new-run.ensures.depth
    c.in_ok-feed.ensures.run c.in_ok-feed.ensures.names c.in_ok-feed.ensures.still input out c.print_pieces.result c.print_pieces.ensures.stopped
