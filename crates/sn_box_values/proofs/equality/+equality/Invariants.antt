use Rattle.std.proofs.Common.{◌≡◌, drop, map}
use Rattle.sn_net.specs.BoxValues.{all_equal, are_equal}
use Rattle.sn_box_values.proofs.equality.+equality.Given as goal

abbrev pub invariant-all_same-loop-i : goal.invariant-all_same-loop-i
invariant-all_same-loop-i l = all_equal (map are_equal (drop l.i l.left)) (drop l.i l.right) ≡ all_equal (map are_equal l.left) l.right
