use Rattle.sn_typing.specs.Outline.{outline}
use Rattle.sn_flow.proofs.EachOne.{Far}
use Rattle.sn_flow.proofs.whole.visit_each.Given as goal

abbrev pub invariant-loop-variant : goal.invariant-loop-variant
invariant-loop-variant l = Far (outline l.boxes l.net) l.input l.table l.variant-index
