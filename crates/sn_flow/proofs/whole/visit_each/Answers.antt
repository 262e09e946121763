use Rattle.std.proofs.Common.{sym}
use Rattle.std.proofs.lemmas.Result.{err_from_is_err_and}
use Rattle.sn_typing.specs.Outline.{outline}
use Rattle.sn_flow.proofs.EachOne.{whole_begins, whole_ends, whole_goes, whole_stops}
use Rattle.sn_flow.proofs.whole.visit_each.Goals as goal

pub loop-variant-init : goal.loop-variant-init
loop-variant-init c = whole_begins (outline c.args.boxes.now c.args.net.now) c.args.input.now c.no_table-table.result c.no_table-table.ensures

pub loop-variant-preserved : goal.loop-variant-preserved
loop-variant-preserved c =
    whole_goes (outline c.args.boxes.now c.args.net.now) c.args.input.now c.loop-variant.table c.visit.new.table c.loop-variant.variant-index c.variant-item.result c.loop-variant-test.true (sym c.variant-item.is) c.loop-variant.invariant c.in_ok-visit.ensures

pub returns-in_err-visit : goal.returns-in_err-visit
returns-in_err-visit c =
    let p = err_from_is_err_and c.from_residual.result c.from_residual.ensures.1 in
    rw (p.1, p.2)
    (whole_stops (outline c.args.boxes.now c.args.net.now) c.args.input.now c.loop-variant.table c.loop-variant.variant-index c.variant-item.result c.in_err-visit.field-0.0 c.loop-variant-test.true (sym c.variant-item.is) c.loop-variant.invariant c.in_err-visit.ensures)

pub returns : goal.returns
returns c = whole_ends (outline c.args.boxes.now c.args.net.now) c.args.input.now c.loop-variant.table c.loop-variant.variant-index c.loop-variant-test.false c.loop-variant.invariant
