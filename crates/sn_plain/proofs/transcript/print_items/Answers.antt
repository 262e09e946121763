use Rattle.std.proofs.Common.{ap, map, ◌∙◌, subst}
use Rattle.std.proofs.lemmas.Result.{err_from_is_err_and}
use Rattle.sn_net.specs.Item.{modelled}
use Rattle.sn_io.specs.Told.{AppendsPrefix, appended}
use Rattle.sn_io.proofs.Told.{prefix_none}
use Rattle.sn_output.specs.Printed.{printed}
use Rattle.sn_plain.proofs.transcript.print_items.Goals as goal

pub returns-in_err-text-clause-stopped : goal.returns-in_err-text-clause-stopped
returns-in_err-text-clause-stopped g c =
    let p = err_from_is_err_and c.from_residual.result c.from_residual.ensures.1 in
    rw (p.1, p.2) (prefix_none (g.O.Sink.held c.args.out.now) (printed c.args.names.now (map modelled c.args.items)))

pub returns-in_err-write_whole-clause-stopped : goal.returns-in_err-write_whole-clause-stopped
returns-in_err-write_whole-clause-stopped g c =
    let p = err_from_is_err_and c.from_residual-in_err-write_whole.result c.from_residual-in_err-write_whole.ensures.1 in
    let part = rw c.as_slice.ensures at c.in_err-write_whole.ensures.part in
    rw (p.1, p.2) (c.in_err-write_whole.ensures.cause.failed, subst (AppendsPrefix (g.O.Sink.held c.args.out.now) (g.O.Sink.held c.write_whole.new.sink)) c.in_ok-text.ensures.text part)

pub returns-clause-ended : goal.returns-clause-ended
returns-clause-ended g c = c.in_ok-text.ensures.fault

pub returns-clause-whole : goal.returns-clause-whole
returns-clause-whole g c = (rw c.as_slice.ensures at c.in_ok-write_whole.ensures.whole) ∙ ap (appended (g.O.Sink.held c.args.out.now)) c.in_ok-text.ensures.text
