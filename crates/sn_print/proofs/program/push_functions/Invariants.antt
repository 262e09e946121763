use Rattle.std.proofs.Common.{◌≡◌, ◌++◌, take}
use Rattle.std.specs.List.{flat_map}
use Rattle.sn_print.specs.Declarations.{fun_text}
use Rattle.sn_print.proofs.program.push_functions.Given as goal

abbrev pub invariant-loop-function : goal.invariant-loop-function
invariant-loop-function l = l.text ≡ l.initial.text ++ flat_map fun_text (take l.function-index l.functions)
