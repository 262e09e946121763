use Rattle.std.proofs.Common.{not, sym, ap, ◌∙◌, arith}
use Rattle.sn_record.specs.declared.item.Item.{Item}
use Rattle.sn_record.specs.declared.item.Item.TheVariants as item
use Rattle.std.specs.FinMap as finite
use Rattle.sn_plain.specs.Sample.{is_item_of_type}
use Rattle.sn_load.proofs.Loading.{first_at, none_at}
use Rattle.sn_counts.proofs.sample.first_untyped.Goals as goal

pub returns-then-not-is_item_of_type : goal.returns-then-not-is_item_of_type
returns-then-not-is_item_of_type c =
    let x = c.index-items-i.result in
    first_at (λ (x : Item). not (is_item_of_type c.args.variants.now x)) c.args.items.now c.loop-i.i x c.loop-i-test.true (λ k l. c.loop-i.invariant k x l)
    (ap (λ (x : Item). not (is_item_of_type c.args.variants.now x)) (sym c.index-items-i.is) ∙ ap not (sym c.is_item_of_type.ensures) ∙ ap not c.if-not-is_item_of_type.true)

pub returns : goal.returns
returns c =
    let other : Item = item.Rec finite.empty in
    none_at (λ (x : Item). not (is_item_of_type c.args.variants.now x)) c.args.items.now other (λ k l. c.loop-i.invariant k other (omega (arith, c.loop-i-test.false)))
