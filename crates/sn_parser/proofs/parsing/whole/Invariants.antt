use Rattle.std.proofs.Common.{◌≡◌, ◌++◌}
use Rattle.std.specs.Vec.Iter.{into_iter_items}
use Rattle.sn_parser.specs.Whole.{AreWhole, all_whole}
use Rattle.sn_parser.proofs.parsing.whole.Given as goal

abbrev pub invariant-loop-part : goal.invariant-loop-part
invariant-loop-part l = (l.yielded ++ into_iter_items l.part-iterator ≡ into_iter_items l.initial.part-iterator)
    × AreWhole l.yielded
    × (l.whole ≡ all_whole l.yielded)
