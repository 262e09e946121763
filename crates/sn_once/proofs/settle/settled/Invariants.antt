use Rattle.std.proofs.Common.{◌≡◌, ◌++◌, map}
use Rattle.std.specs.Vec.Iter.{drain_items}
use Rattle.sn_net.specs.Item.{modelled}
use Rattle.sn_pass.specs.Flowing.{flows}
use Rattle.sn_once.proofs.settle.settled.Given as goal

abbrev pub invariant-loop-flowing : goal.invariant-loop-flowing
invariant-loop-flowing l = map modelled l.items ++ map flows (drain_items l.flowing-iterator) ≡ map flows (drain_items l.initial.flowing-iterator)
