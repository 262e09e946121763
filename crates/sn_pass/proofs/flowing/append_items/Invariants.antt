use Rattle.std.proofs.Common.{◌≡◌, ◌++◌, map}
use Rattle.std.specs.Vec.Iter.{drain_items}
use Rattle.sn_net.specs.Item.{modelled}
use Rattle.sn_pass.specs.Flowing.{flows}
use Rattle.sn_pass.proofs.flowing.append_items.Given as goal

abbrev pub invariant-loop-item : goal.invariant-loop-item
invariant-loop-item l =
    (l.yielded ++ drain_items l.item-iterator ≡ drain_items l.initial.item-iterator) × (map flows l.out ≡ map flows l.initial.out ++ map modelled l.yielded)
