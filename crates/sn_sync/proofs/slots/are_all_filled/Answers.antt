use Rattle.std.proofs.Common.{◌∙◌, ap, not}
use Rattle.sn_sync.proofs.Filling.{all_from-more}
use Rattle.sn_sync.proofs.slots.are_all_filled.Goals as goal

pub loop-slot-preserved : goal.loop-slot-preserved
loop-slot-preserved c = c.loop-slot.invariant ∙ all_from-more _ _ c.slot-item.result c.loop-slot-test.true c.slot-item.is (ap not (c.is_none.ensures ∙ ap not c.if-is_none.false))
