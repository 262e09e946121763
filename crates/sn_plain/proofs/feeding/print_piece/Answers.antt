use Rattle.std.proofs.Common.{map, subst, sym}
use Rattle.std.proofs.lemmas.Result.{err_from_is_err_and}
use Rattle.sn_feed.specs.Still.{names_of}
use Rattle.sn_net.specs.Item.{modelled}
use Rattle.sn_output.specs.Printed.{printed}
use Rattle.sn_plain.specs.Pieces.{CameThrough, WhyPieceStopped}
use Rattle.sn_plain.specs.Runs.{WhyCutOff}
use Rattle.sn_plain.specs.Seen.{Sink, seen_sink}
use Rattle.sn_feed.specs.declared.feed.Feed.{Feed}
use Rattle.sn_plain.proofs.feeding.print_piece.Goals as goal

pub returns-in_err-fault-in-Ok-clause-stopped : goal.returns-in_err-fault-in-Ok-clause-stopped
returns-in_err-fault-in-Ok-clause-stopped g c =
    let p = err_from_is_err_and c.from_residual.result c.from_residual.ensures.1 in
    let out : Sink = seen_sink g.O.Sink.held g.O.Sink.faults c.args.out.now c.print_items.new.out in
    let cut : WhyCutOff out (printed (names_of c.in-Ok.next) (map modelled c.in-Ok.items)) c.in_err-fault-in-Ok.field-0.0 = rw c.names.ensures at c.in_err-fault-in-Ok.ensures.stopped in
    rw (p.1, p.2) (WhyPieceStopped.cut_off c.in-Ok.next c.in-Ok.items c.in-Ok.ensures.names c.in-Ok.ensures.went c.in-Ok.ensures.known cut)

pub returns-in_ok-fault-in-Ok-clause-went : goal.returns-in_ok-fault-in-Ok-clause-went
returns-in_ok-fault-in-Ok-clause-went g c =
    let out : Sink = seen_sink g.O.Sink.held g.O.Sink.faults c.args.out.now c.print_items.new.out in
    let came : CameThrough c.args.run.now c.args.feed c.args.bytes.now out c.in-Ok.next c.in_ok-fault-in-Ok.fault = record {
      items = c.in-Ok.items;
      is = c.in-Ok.ensures.run;
      begins = c.in-Ok.ensures.names;
      went = c.in-Ok.ensures.went;
      known = c.in-Ok.ensures.known;
      fault_is = c.in_ok-fault-in-Ok.ensures.ended;
      whole = rw c.names.ensures at c.in_ok-fault-in-Ok.ensures.whole;
    } in
    subst (λ (next : Feed). CameThrough c.args.run.now c.args.feed c.args.bytes.now out next c.in_ok-fault-in-Ok.fault) (sym c.into_inner-feed.ensures) came

pub returns-in-Err-clause-stopped : goal.returns-in-Err-clause-stopped
returns-in-Err-clause-stopped g c = WhyPieceStopped.at_line c.in-Err.stop c.in-Err.ensures.stopped c.in-Err.ensures.told c.print_before.ensures.told
