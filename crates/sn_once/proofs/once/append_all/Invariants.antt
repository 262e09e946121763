use Rattle.std.proofs.Common.{◌≡◌, ◌++◌}
use Rattle.std.specs.Vec.Iter.{into_iter_items}
use Rattle.sn_once.proofs.once.append_all.Given as goal

abbrev pub invariant-loop-item : goal.invariant-loop-item
invariant-loop-item l = (l.yielded ++ into_iter_items l.item-iterator ≡ into_iter_items l.initial.item-iterator) × (l.out ≡ l.initial.out ++ l.yielded)
