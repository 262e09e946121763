use Rattle.std.proofs.Common.{sym}
use Rattle.sn_typing.specs.Outline.{outline}
use Rattle.sn_flow.proofs.Walking.{row_goes, row_passes}
use Rattle.sn_flow.proofs.spots.row_spot.Goals as goal

pub loop-row-preserved-then-branch : goal.loop-row-preserved-then-branch
loop-row-preserved-then-branch c =
    row_passes (outline c.args.boxes.now c.args.net.now) c.args.rows.now c.loop-row.row-index c.row-item.result c.loop-row.best _ c.loop-row-test.true (sym c.row-item.is) c.loop-row.invariant c.in_ok-is_routed.field-0 c.in_ok-is_routed.ensures c.if-branch.true

pub loop-row-preserved : goal.loop-row-preserved
loop-row-preserved c =
    row_goes (outline c.args.boxes.now c.args.net.now) c.args.rows.now c.loop-row.row-index c.row-item.result c.loop-row.best _ c.loop-row-test.true (sym c.row-item.is) c.loop-row.invariant c.in_ok-is_routed.field-0 c.in_ok-is_routed.ensures
    c.keep_sooner.new.best c.place_of.result c.if-branch.false (c.place_of.ensures c.args.boxes.now) c.in_ok-keep_sooner.ensures
