use Rattle.std.proofs.Common.{◌≡◌, List, map, ap, ◌∙◌}
use Rattle.sn_record.specs.declared.item.Item.{Item}
use Rattle.sn_net.specs.Item.{modelled}
use Rattle.sn_model.specs.Run.{boxes_of, depth_of, fuel_of, input_of, net_of}
use Rattle.sn_model.specs.declared.run.Run.{Run}
use Rattle.sn_plain.proofs.ready.start.Goals as goal

pub new-run-requires-clause-fuel : goal.new-run-requires-clause-fuel
new-run-requires-clause-fuel c = c.requires.limits.fuel

pub new-run-requires-clause-depth : goal.new-run-requires-clause-depth
new-run-requires-clause-depth c = c.requires.limits.depth

pub new-run-requires-clause-typed : goal.new-run-requires-clause-typed
new-run-requires-clause-typed c = rw c.into_inner-net.ensures (c.in_ok-items.ensures.typed c.args.ready.boxes c.args.ready.net c.requires.typed)

pub returns-clause-run : goal.returns-clause-run
returns-clause-run c =
    let run : Run = c.in_ok-run.run'.value in
    let is : run ≡ c.new-run.result = c.in_ok-run.ensures in
    record {
      boxes_are = ap boxes_of is ∙ c.new-run.ensures.boxes ∙ ap (λ (x : _). x.1) c.into_inner-net.ensures;
      fuel_is = ap fuel_of is ∙ c.new-run.ensures.fuel;
      depth_is = ap depth_of is ∙ c.new-run.ensures.depth;
      net_is = ap net_of is ∙ c.new-run.ensures.net ∙ ap (λ (x : _). x.0) c.into_inner-net.ensures;
      input_is = ap input_of is ∙ ap (λ (xs : List Item). map modelled xs) c.new-run.ensures.items ∙ c.in_ok-items.ensures.items;
    }
