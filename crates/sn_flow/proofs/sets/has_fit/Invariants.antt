use Rattle.std.proofs.Common.{◌≡◌, drop}
use Rattle.sn_types.specs.RecordType.{has_fit}
use Rattle.sn_flow.proofs.sets.has_fit.Given as goal

abbrev pub invariant-loop-variant : goal.invariant-loop-variant
invariant-loop-variant l = has_fit (drop l.variant-index l.variants) l.set ≡ has_fit l.variants l.set
