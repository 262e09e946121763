use Rattle.std.proofs.Common.{◌≡◌, ◌<◌, List, None, Some, refl, sym, ap₂, ◌∙◌, arith}
use Rattle.std.proofs.lemmas.Result.{err_from_is_err_and}
use Rattle.sn_record.specs.LabelSet.{Labels}
use Rattle.sn_record.specs.declared.item.Item.{Item}
use Rattle.sn_counts.specs.declared.sample.Samples.{Samples}
use Rattle.sn_plain.specs.Sample.{first_untyped}
use Rattle.sn_counts.proofs.Sampling.{no_room, one_untyped, samples, untyped_below}
use Rattle.sn_counts.proofs.sample.make_samples.Goals as goal

pub returns-in_err-enter_labels-clause-ended : goal.returns-in_err-enter_labels-clause-ended
returns-in_err-enter_labels-clause-ended c =
    let p = err_from_is_err_and c.from_residual.result c.from_residual.ensures.1 in
    rw (p.1, p.2) (no_room c.args.names c.args.claim.now c.args.number c.args.count c.in_err-enter_labels.field-0.0 c.in_err-enter_labels.ensures.refused)

-- the first record that is not of the type, as it was found
first_is : (c : goal.In-Some) → first_untyped c.args.claim.now.input c.in_ok-items.items ≡ Some c.in-Some.i
first_is c = ap₂ (λ (vs : List Labels) (xs : List Item). first_untyped vs xs) (sym c.as_slice.ensures) (sym c.as_slice-2.ensures) ∙ sym c.first_untyped.ensures ∙ c.in-Some.is

below : (c : goal.In-Some) → c.in-Some.i < c.args.count
below c = untyped_below c.args.names c.args.claim.now c.args.number c.args.count c.enter_labels.new.names c.in_ok-enter_labels.ensures.entered c.in_ok-enter_labels.ensures.room c.in_ok-items.items c.in_ok-items.ensures c.in-Some.i (first_is c)

pub overflow_add-result : goal.overflow_add-result
overflow_add-result c = omega (arith, below c, c.ranges.count.fits)

pub returns-in-Some-clause-ended : goal.returns-in-Some-clause-ended
returns-in-Some-clause-ended c =
    let first : first_untyped c.args.claim.now.input c.in_ok-items.items ≡ Some c.in-Some.i =
    ap₂ (λ (vs : List Labels) (xs : List Item). first_untyped vs xs) (sym c.as_slice.ensures) (sym c.as_slice-2.ensures) ∙ sym c.first_untyped.ensures ∙ c.in-Some.is in
    one_untyped c.args.names c.args.claim.now c.args.number c.args.count c.enter_labels.new.names c.in_ok-enter_labels.ensures.entered c.in_ok-enter_labels.ensures.room c.in_ok-items.items c.in_ok-items.ensures c.in-Some.i first

pub returns-in-None-clause-made : goal.returns-in-None-clause-made
returns-in-None-clause-made c =
    let none : first_untyped c.args.claim.now.input c.in_ok-items.items ≡ None =
    ap₂ (λ (vs : List Labels) (xs : List Item). first_untyped vs xs) (sym c.as_slice.ensures) (sym c.as_slice-2.ensures) ∙ sym c.first_untyped.ensures ∙ c.in-None.is in
    let made : Samples = record { names = c.enter_labels.new.names; items = c.in_ok-items.items } in
    samples c.args.names c.args.claim.now c.args.number c.args.count c.enter_labels.new.names c.in_ok-enter_labels.ensures.entered c.in_ok-enter_labels.ensures.room c.in_ok-items.items c.in_ok-items.ensures made refl refl none
