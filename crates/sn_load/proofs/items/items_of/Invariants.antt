use Rattle.std.proofs.Common.{◌≡◌, ◌++◌, map}
use Rattle.std.specs.Vec.Iter.{into_iter_items}
use Rattle.sn_net.specs.Item.{Rec, modelled}
use Rattle.sn_load.proofs.items.items_of.Given as goal

-- the items so far, and behind them the records that are left
abbrev pub invariant-loop-record : goal.invariant-loop-record
invariant-loop-record l = map modelled l.items ++ map Rec (into_iter_items l.record-iterator) ≡ map Rec l.fn.records
