use Rattle.std.proofs.Common.{arith, ap, length}
use Rattle.std.proofs.lemmas.Result.{err_from_is_err_and}
use Rattle.sn_record_parser.proofs.Faults.{is_wrong, passed_on}
use Rattle.sn_record_parser.proofs.Lines.{ends, goes_on, nothing_no_entry, overruns, spoils, stops}
use Rattle.sn_record_parser.proofs.Shorter.{entry_shorter}
use Rattle.sn_record_parser.proofs.parsing.further.Goals as goal

pub returns-in_err-goes_on : goal.returns-in_err-goes_on
returns-in_err-goes_on c =
    let p = err_from_is_err_and c.from_residual.result c.from_residual.ensures.1 in
    rw (p.1, p.2) (is_wrong _ c.in_err-goes_on.ensures (stops c.loop-rest.invariant))

pub returns-in_err-first : goal.returns-in_err-first
returns-in_err-first c =
    let p = err_from_is_err_and c.from_residual-in_err-first.result c.from_residual-in_err-first.ensures.1 in
    rw (p.1, p.2) (is_wrong _ c.in_err-first.ensures (λ e. spoils c.loop-rest.invariant c.if-branch.true c.in_ok-goes_on.ensures (rw e nothing_no_entry)))

pub loop-rest-smaller : goal.loop-rest-smaller
loop-rest-smaller c =
    let shorter = entry_shorter c.in_ok-entry.ensures in
    omega (arith, shorter, ap length c.in_ok-goes_on.ensures, ap length c.in_ok-first.ensures)

pub loop-rest-preserved : goal.loop-rest-preserved
loop-rest-preserved c = goes_on c.loop-rest.invariant c.if-branch.true c.in_ok-goes_on.ensures _ c.in_ok-first.ensures c.in_ok-entry.ensures c.in_ok-append.ensures.ok

pub returns : goal.returns
returns c = passed_on c.end.result c.end.ensures (ends c.loop-rest.invariant c.if-branch.false c.in_ok-goes_on.ensures) (overruns c.loop-rest.invariant c.if-branch.false c.in_ok-goes_on.ensures)
