use Rattle.std.proofs.Common.{◌≡◌, List, [], ◌∷◌, ◌++◌, map, refl, sym, ap, subst, ◌∙◌, append_assoc}
use Rattle.std.proofs.lemmas.List.{append-nil, nil_from_length}
use Rattle.std.specs.Vec.Iter.{into_iter_items}
use Rattle.sn_record.specs.declared.item.Item.{Item}
use Rattle.sn_net.specs.Item.{modelled}
use Rattle.sn_plain.specs.Shown.{Shows}
use Rattle.sn_plain.proofs.Printing.{added_more}
use Rattle.sn_plain.proofs.transcript.Transcript.add_all.Goals as goal

pub loop-item-init : goal.loop-item-init
loop-item-init c = record {
  all = refl;
  shown = λ before shows. subst (λ (items : List Item). Shows c.args.names.now (map modelled items) c.args.self.now) (sym (append-nil before)) shows;
}

pub loop-item-preserved : goal.loop-item-preserved
loop-item-preserved c = record {
  all = append_assoc c.loop-item.yielded (c.in-Some.item ∷ []) (into_iter_items c.next.new.self)
      ∙ ap (λ items. c.loop-item.yielded ++ items) (sym c.in-Some.ensures.steps.0) ∙ c.loop-item.invariant.all;
  shown = λ before shows. added_more c.args.names.now before c.loop-item.yielded c.in-Some.item c.add.new.self (c.in_ok-add.ensures (before ++ c.loop-item.yielded) (c.loop-item.invariant.shown before shows));
}

pub returns : goal.returns
returns c =
    let none : into_iter_items c.loop-item.item-iterator ≡ [] = nil_from_length (into_iter_items c.loop-item.item-iterator) (sym c.loop-item.item-iterator.rest.ok.0 ∙ c.in-None.ensures.steps.0) in
    let all : c.loop-item.yielded ≡ c.args.items =
    sym (append-nil c.loop-item.yielded) ∙ ap (λ items. c.loop-item.yielded ++ items) (sym none) ∙ c.loop-item.invariant.all ∙ c.into_iter-item-iterator.ensures.into_iter_gives.0 ∙ c.into_vec-item-items.ensures in
    λ before shows. subst (λ (items : List Item). Shows c.args.names.now (map modelled (before ++ items)) c.loop-item.self) all (c.loop-item.invariant.shown before shows)
