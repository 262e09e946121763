use Rattle.std.proofs.Common.{refl, sym, ◌∙◌, subst, arith}
use Rattle.std.proofs.lemmas.Bool.{false≢true}
use Rattle.std.proofs.lemmas.List.{take_all}
use Rattle.std.proofs.lemmas.List.Elements.{All-get_or, All-more, All-same}
use Rattle.sn_wire.specs.Wire.{IsItemCounted}
use Rattle.sn_wire.proofs.counting.are_items_counted.Goals as goal

pub returns-then-not-is_item_counted : goal.returns-then-not-is_item_counted
returns-then-not-is_item_counted c = (
  λ no. absurd (false≢true no),
  λ counted.
      sym c.if-not-is_item_counted.true
      ∙ c.is_item_counted.ensures.1 (subst IsItemCounted (sym c.item-item.is) (All-get_or IsItemCounted _ c.loop-item.item-index c.item-item.result c.loop-item-test.true counted)),
)

pub loop-item-preserved : goal.loop-item-preserved
loop-item-preserved c =
    All-more IsItemCounted c.args.items.now c.loop-item.item-index c.item-item.result c.loop-item-test.true c.loop-item.invariant
    (subst IsItemCounted c.item-item.is (c.is_item_counted.ensures.0 c.if-not-is_item_counted.false))

pub returns : goal.returns
returns c = (
  λ _. All-same IsItemCounted _ _ (sym (take_all c.loop-item.item-index _ (omega arith))) c.loop-item.invariant,
  λ _. refl,
)
