use Rattle.std.proofs.Common.{◌≡◌, drop, fold}
use Rattle.std.specs.FinMap as map
use Rattle.sn_label_scope.specs.Labels.{label_at, labels_at, no_repeats}
use Rattle.sn_label_scope.proofs.labels.label_set.Given as goal

abbrev pub invariant-loop-label : goal.invariant-loop-label
invariant-loop-label l =
    (fold (λ set label. map.insert set (label_at l.names label) tt) l.set (drop l.label-index l.labels) ≡ labels_at l.names l.labels)
    × (no_repeats l.names l.set (drop l.label-index l.labels) l.refusals ≡ no_repeats l.names map.empty l.labels l.initial.refusals)
