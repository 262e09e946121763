use Rattle.std.proofs.Common.{◌≡◌, drop, fold}
use Rattle.sn_scope.specs.Numbering.{after_label}
use Rattle.sn_scope.proofs.numbering.enter_labels.Given as goal

abbrev pub invariant-loop-label : goal.invariant-loop-label
invariant-loop-label l = fold after_label l.names (drop l.label-index l.labels) ≡ fold after_label l.initial.names l.labels
