use Rattle.std.proofs.Common.{◌≡◌, [], map, sym, subst, ◌∙◌}
use Rattle.std.proofs.lemmas.List.{nil_from_length}
use Rattle.std.specs.Vec.Iter.{into_iter_items}
use Rattle.sn_net.specs.Item.{modelled}
use Rattle.sn_model.specs.Meaning.{one_list}
use Rattle.sn_model.specs.Run.{boxes_of, net_of, setting_of}
use Rattle.sn_model.specs.Typed.{AreTyped}
use Rattle.sn_once.proofs.Feeding.{at_first, at_last, first_typed, rest_typed, with_more}
use Rattle.sn_once.proofs.once.run_over.Goals as goal

pub loop-item-init : goal.loop-item-init
loop-item-init c =
    let all : into_iter_items c.into_iter-item-iterator.result ≡ c.args.items = c.into_iter-item-iterator.ensures.into_iter_gives.0 ∙ c.into_vec-item-items.ensures in
    record {
      made_by = c.in_ok-once.ensures.run;
      so_far = at_first c.in_ok-once.once c.args.run.now c.new-out.result c.args.items (into_iter_items c.into_iter-item-iterator.result) c.in_ok-once.ensures.rest c.new-out.ensures all;
      typed = subst (AreTyped (boxes_of c.args.run.now) (net_of c.args.run.now)) (sym all) c.requires;
    }

pub feed-requires-clause-typed : goal.feed-requires-clause-typed
feed-requires-clause-typed c = first_typed (boxes_of c.args.run.now) (net_of c.args.run.now) (into_iter_items c.loop-item.item-iterator) (into_iter_items c.next.new.self) c.in-Some.item c.in-Some.ensures.steps.0 c.loop-item.invariant.typed

pub loop-item-preserved : goal.loop-item-preserved
loop-item-preserved c = record {
  made_by = c.in_ok-next.ensures.kept;
  so_far = with_more (one_list (setting_of c.args.run.now) (net_of c.args.run.now) (map modelled c.args.items)) c.loop-item.once c.in_ok-next.next c.loop-item.out c.in_ok-next.given c.append_all.new.out
      (into_iter_items c.loop-item.item-iterator) (into_iter_items c.next.new.self) c.in-Some.item c.in-Some.ensures.steps.0 c.loop-item.invariant.so_far c.in_ok-next.ensures.given c.in_ok-append_all.ensures;
  typed = rest_typed (boxes_of c.args.run.now) (net_of c.args.run.now) (into_iter_items c.loop-item.item-iterator) (into_iter_items c.next.new.self) c.in-Some.item c.in-Some.ensures.steps.0 c.loop-item.invariant.typed;
}

pub returns : goal.returns
returns c =
    let none : into_iter_items c.loop-item.item-iterator ≡ [] = nil_from_length (into_iter_items c.loop-item.item-iterator) (sym c.loop-item.item-iterator.rest.ok.0 ∙ c.in-None.ensures.steps.0) in
    at_last (one_list (setting_of c.args.run.now) (net_of c.args.run.now) (map modelled c.args.items)) c.loop-item.once c.loop-item.out (into_iter_items c.loop-item.item-iterator) none c.loop-item.invariant.so_far
