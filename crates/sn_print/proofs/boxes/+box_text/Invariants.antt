use Rattle.std.proofs.Common.{◌≡◌, ◌++◌, map, take}
use Rattle.sn_print.specs.Expressions.{box_shown, part}
use Rattle.sn_print.specs.Words.{joined}
use Rattle.sn_print.proofs.boxes.+box_text.Given as goal

abbrev pub invariant-push_parts-loop-i : goal.invariant-push_parts-loop-i
invariant-push_parts-loop-i l = l.text ≡ l.initial.text ++ joined l.separator (map part (map box_shown (take l.i l.parts)))
