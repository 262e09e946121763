use Rattle.std.proofs.Common.{◌≡◌, ◌∙◌, arith, length, sym}
use Rattle.std.specs.Vec.Iter.{into_iter_items}
use Rattle.sn_box_values.proofs.Emitted.{no_values}
use Rattle.sn_box_values.proofs.emission.record_of.Goals as goal

-- src/emission.rt:45:1
pub returns : goal.returns
returns c =
    let at = c.loop-value in
    let none : length (into_iter_items at.value-iterator) ≡ 0 = omega (arith, c.in-None.ensures.steps.0) in
    sym at.invariant ∙ no_values at.left.now (into_iter_items at.value-iterator) at.made none
