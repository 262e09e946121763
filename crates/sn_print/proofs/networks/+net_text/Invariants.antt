use Rattle.std.proofs.Common.{◌≡◌, ◌++◌, map, take}
use Rattle.sn_print.specs.Expressions.{operand}
use Rattle.sn_print.specs.Networks.{net_shown}
use Rattle.sn_print.specs.Words.{joined}
use Rattle.sn_print.proofs.networks.+net_text.Given as goal

abbrev pub invariant-push_operands-loop-i : goal.invariant-push_operands-loop-i
invariant-push_operands-loop-i l = l.text ≡ l.initial.text ++ joined l.separator (map operand (map net_shown (take l.i l.parts)))
