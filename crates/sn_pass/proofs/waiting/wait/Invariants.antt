use Rattle.std.proofs.Common.{◌≡◌, ◌++◌, map, vec_len}
use Rattle.sn_pass.specs.Flowing.{flows}
use Rattle.sn_pass.specs.Levels.{entries}
use Rattle.sn_pass.specs.Waiting.{stack_of}
use Rattle.sn_pass.proofs.waiting.wait.Given as goal

abbrev pub invariant-loop-item : goal.invariant-loop-item
invariant-loop-item l =
    entries l.level (map flows l.items.items) ++ stack_of l.waiting.items ≡ entries l.level (map flows l.initial.items.items) ++ stack_of l.initial.waiting.items

abbrev pub decreases-loop-item : goal.decreases-loop-item
decreases-loop-item l = vec_len l.items
