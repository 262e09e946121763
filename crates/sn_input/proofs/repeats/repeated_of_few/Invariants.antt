use Rattle.std.proofs.Common.{◌≡◌, take, drop}
use Rattle.sn_input.proofs.Repeating.{labels_of}
use Rattle.sn_input.specs.Numbered.{first_repeat, repeated}
use Rattle.sn_input.proofs.repeats.repeated_of_few.Given as goal

abbrev pub invariant-loop-i : goal.invariant-loop-i
invariant-loop-i l = first_repeat (labels_of (take l.i l.entries)) (labels_of (drop l.i l.entries)) ≡ repeated l.entries
