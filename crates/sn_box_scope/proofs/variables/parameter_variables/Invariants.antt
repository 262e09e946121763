use Rattle.std.proofs.Common.{◌≡◌, take, map}
use Rattle.sn_box_scope.specs.Variables.{field_variable}
use Rattle.sn_box_scope.proofs.variables.parameter_variables.Given as goal

abbrev pub invariant-loop-param : goal.invariant-loop-param
invariant-loop-param l = l.variables ≡ map field_variable (take l.param-index l.params)
