use Rattle.std.proofs.Common.{◌≡◌, List, ◌++◌, map}
use Rattle.std.specs.Vec.Iter.{into_iter_items}
use Rattle.sn_record.specs.declared.item.Item.{Item}
use Rattle.sn_net.specs.Item.{modelled}
use Rattle.sn_plain.specs.Shown.{Shows}
use Rattle.sn_plain.proofs.transcript.Transcript.add_all.Given as goal

abbrev pub invariant-loop-item : goal.invariant-loop-item
invariant-loop-item l = record {
  all : l.yielded ++ into_iter_items l.item-iterator ≡ into_iter_items l.initial.item-iterator;
  shown : (before : List Item) → Shows l.names (map modelled before) l.initial.self → Shows l.names (map modelled (before ++ l.yielded)) l.self;
}
