use Rattle.std.proofs.Common.{◌≡◌, take, drop, fold, map}
use Rattle.sn_label_scope.specs.Labels.{variant_at, variant_required}
use Rattle.sn_label_scope.proofs.labels.label_sets.Given as goal

abbrev pub invariant-loop-variant : goal.invariant-loop-variant
invariant-loop-variant l =
    (l.sets ≡ map (variant_at l.names) (take l.variant-index l.variants))
    × (fold (variant_required l.names) l.refusals (drop l.variant-index l.variants) ≡ fold (variant_required l.names) l.initial.refusals l.variants)
