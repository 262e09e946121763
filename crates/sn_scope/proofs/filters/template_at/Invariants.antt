use Rattle.std.proofs.Common.{◌≡◌, take, drop, map}
use Rattle.std.specs.FinMap as finite
use Rattle.sn_scope.specs.Filters.{part_at, items_required}
use Rattle.sn_scope.proofs.filters.template_at.Given as goal

abbrev pub invariant-loop-item : goal.invariant-loop-item
invariant-loop-item l =
    (l.parts ≡ map (part_at l.names) (take l.item-index l.item-items))
    × (items_required l.names l.pattern l.set (drop l.item-index l.item-items) l.refusals ≡ items_required l.names l.pattern finite.empty l.item-items l.initial.refusals)
