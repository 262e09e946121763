use Rattle.std.proofs.Common.{◌≡◌, ◌++◌, map, take}
use Rattle.std.specs.Prelude.{codes}
use Rattle.sn_print.specs.Labels.{part_text}
use Rattle.sn_print.specs.Words.{joined}
use Rattle.sn_print.proofs.labels.push_types.Given as goal

abbrev pub invariant-loop-i : goal.invariant-loop-i
invariant-loop-i l = l.text ≡ l.initial.text ++ joined (codes " | ") (map part_text (take l.i l.parts))
