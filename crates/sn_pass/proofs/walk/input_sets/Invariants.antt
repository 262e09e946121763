use Rattle.std.proofs.Common.{◌≡◌, ◌++◌, drop}
use Rattle.sn_pass.specs.Inputs.{input_sets}
use Rattle.sn_pass.proofs.walk.input_sets.Given as goal

abbrev pub invariant-loop-program : goal.invariant-loop-program
invariant-loop-program l = l.sets ++ input_sets (drop l.program-index l.boxes) ≡ input_sets l.boxes
