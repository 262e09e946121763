use Rattle.std.proofs.Common.{◌≡◌, drop}
use Rattle.sn_box_scope.specs.Variables.{last_named, variable_number}
use Rattle.sn_box_scope.proofs.variables.Variables.number.Given as goal

abbrev pub invariant-loop-place : goal.invariant-loop-place
invariant-loop-place l = last_named l.tag l.name l.found l.place (drop l.place l.variable-items) ≡ variable_number l.tag l.name l.variable-items
