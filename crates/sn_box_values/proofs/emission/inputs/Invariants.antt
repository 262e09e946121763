use Rattle.std.proofs.Common.{◌≡◌, ◌++◌, drop}
use Rattle.sn_net.specs.BoxEvaluation.{values_at}
use Rattle.sn_box_values.specs.Datum.{values_of}
use Rattle.sn_box_values.proofs.emission.inputs.Given as goal

abbrev pub invariant-loop-label : goal.invariant-loop-label
invariant-loop-label l = values_of l.values ++ values_at l.taken (drop l.label-index l.labels) ≡ values_at l.taken l.labels
