use Rattle.std.proofs.Common.{◌≡◌, ◌≤◌, ◌++◌, length, map}
use Rattle.std.specs.Vec.Iter.{into_iter_items}
use Rattle.sn_histories.specs.Entries as entry
use Rattle.sn_net.specs.Item.{modelled}
use Rattle.sn_component.specs.Outbox.{given, room}
use Rattle.sn_component.proofs.pass.hold_all.Given as goal

-- what is given, and behind it the items that are left
abbrev pub invariant-loop-item : goal.invariant-loop-item
invariant-loop-item l = record {
  given : given l.out ++ map entry.Item (map modelled (into_iter_items l.item-iterator)) ≡ given l.initial.out ++ map entry.Item (map modelled (into_iter_items l.initial.item-iterator));
  put : l.out.put ≡ l.initial.out.put;
  room : length (into_iter_items l.item-iterator) ≤ room l.out;
}
