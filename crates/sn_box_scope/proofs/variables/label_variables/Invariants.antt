use Rattle.std.proofs.Common.{◌≡◌, take, map}
use Rattle.sn_box_scope.specs.Variables.{label_variable}
use Rattle.sn_box_scope.proofs.variables.label_variables.Given as goal

abbrev pub invariant-loop-label : goal.invariant-loop-label
invariant-loop-label l = l.variables ≡ map label_variable (take l.label-index l.labels)
