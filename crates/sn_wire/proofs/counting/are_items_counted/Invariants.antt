use Rattle.std.proofs.Common.{take}
use Rattle.std.specs.List.{All}
use Rattle.sn_wire.specs.Wire.{IsItemCounted}
use Rattle.sn_wire.proofs.counting.are_items_counted.Given as goal

abbrev pub invariant-loop-item : goal.invariant-loop-item
invariant-loop-item l = All IsItemCounted (take l.item-index l.items)
