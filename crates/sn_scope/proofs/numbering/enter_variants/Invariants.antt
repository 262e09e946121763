use Rattle.std.proofs.Common.{◌≡◌, drop, fold}
use Rattle.sn_scope.specs.Numbering.{after_variant}
use Rattle.sn_scope.proofs.numbering.enter_variants.Given as goal

abbrev pub invariant-loop-variant : goal.invariant-loop-variant
invariant-loop-variant l = fold after_variant l.names (drop l.variant-index l.variants) ≡ fold after_variant l.initial.names l.variants
