use Rattle.std.proofs.Common.{arith, map, sym}
use Rattle.std.proofs.lemmas.List.{length-map}
use Rattle.sn_net.specs.BoxValues.{are_equal}
use Rattle.sn_box_values.proofs.Equal.{unequal_lengths}
use Rattle.sn_box_values.proofs.equality.+equality.Goals as goal

-- src/equality.rt:25:9
pub all_same-returns-then-left-right : goal.all_same-returns-then-left-right
all_same-returns-then-left-right t c = sym (unequal_lengths (map are_equal c.args.left.now) c.args.right.now (rw length-map (omega arith)))
