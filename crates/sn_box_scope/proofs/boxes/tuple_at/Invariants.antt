use Rattle.std.proofs.Common.{◌≡◌, take, drop, map}
use Rattle.std.specs.FinMap as finite
use Rattle.sn_label_scope.specs.Labels.{label_at, no_repeats}
use Rattle.sn_box_scope.proofs.boxes.tuple_at.Given as goal

abbrev pub invariant-loop-label : goal.invariant-loop-label
invariant-loop-label l =
    (l.labels ≡ map (label_at l.names) (take l.label-index l.label-items))
    × (no_repeats l.names l.set (drop l.label-index l.label-items) l.refusals ≡ no_repeats l.names finite.empty l.label-items l.initial.refusals)
