use Rattle.std.proofs.Common.{map}
use Rattle.std.specs.Vec.Iter.{into_iter_items}
use Rattle.sn_net.specs.Item.{modelled}
use Rattle.sn_model.specs.Meaning.{one_list}
use Rattle.sn_model.specs.Run.{boxes_of, net_of, setting_of}
use Rattle.sn_model.specs.Typed.{AreTyped}
use Rattle.sn_once.specs.Rest.{IsOf}
use Rattle.sn_once.proofs.Feeding.{IsSoFar}
use Rattle.sn_once.proofs.once.run_over.Given as goal

abbrev pub invariant-loop-item : goal.invariant-loop-item
invariant-loop-item l = record {
  made_by : IsOf l.once l.run;
  so_far : IsSoFar (one_list (setting_of l.run) (net_of l.run) (map modelled l.fn.items)) l.once l.out (into_iter_items l.item-iterator);
  typed : AreTyped (boxes_of l.run) (net_of l.run) (into_iter_items l.item-iterator);
}
