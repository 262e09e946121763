use Rattle.std.proofs.Common.{◌≡◌, ◌++◌, ◌+◌, ◌*◌, map, max}
use Rattle.std.specs.Vec.Iter.{drain_items}
use Rattle.sn_net.specs.declared.net.Merge.TheVariants.{Det}
use Rattle.sn_model.specs.Meaning.{tree}
use Rattle.sn_model.specs.Run.{setting_of}
use Rattle.sn_net.proofs.net.Net.TheLaws.{the_size}
use Rattle.sn_pass.specs.Flowing.{flows}
use Rattle.sn_pass.specs.Levels.{taps}
use Rattle.sn_pass.specs.Output.{given}
use Rattle.sn_pass.specs.Passing.{PassesAll}
use Rattle.sn_pass.specs.States.{held}
use Rattle.sn_pass.specs.Waiting.{stack_of}
use Rattle.sn_pass.proofs.StarLoop.{IsSoFar, at_levels, star_with}
use Rattle.sn_pass.proofs.pass.+pass.Given as goal

abbrev pub decreases-pass : goal.decreases-pass
decreases-pass l = 3 * the_size l.net.now + 2

abbrev pub decreases-pass_series : goal.decreases-pass_series
decreases-pass_series l = 3 * max (the_size l.left.now) (the_size l.right.now) + 4

abbrev pub decreases-pass_choice : goal.decreases-pass_choice
decreases-pass_choice l = 3 * goal.size-pass_choice l + 4

abbrev pub decreases-pass_split : goal.decreases-pass_split
decreases-pass_split l = 3 * the_size l.body.now + 4

abbrev pub decreases-pass_each : goal.decreases-pass_each
decreases-pass_each l = 3 * the_size l.net.now + 3

abbrev pub decreases-pass_branch : goal.decreases-pass_branch
decreases-pass_branch l = 3 * the_size l.branch.now + 3

abbrev pub decreases-pass_replica : goal.decreases-pass_replica
decreases-pass_replica l = 3 * the_size l.body.now + 3

abbrev pub decreases-pass_star : goal.decreases-pass_star
decreases-pass_star l = 3 * the_size l.body.now + 3

abbrev pub invariant-pass_each-loop-item : goal.invariant-pass_each-loop-item
invariant-pass_each-loop-item l =
    (l.yielded ++ drain_items l.item-iterator ≡ drain_items l.initial.item-iterator) ×
    PassesAll (tree (setting_of l.walk.run.now) l.net) (held l.initial.kept) (held l.kept) (map flows l.yielded) (given l.initial.out) (given l.out)

abbrev pub invariant-pass_star-loop-next : goal.invariant-pass_star-loop-next
invariant-pass_star-loop-next l =
    IsSoFar l.place l.exit l.guard (tree (setting_of l.walk.run.now) l.body) l.depth (at_levels l.initial.levels.items) (flows l.fn.item) (given l.initial.out) (given l.out) l.levels.items l.waiting.items

abbrev pub decreases-pass_star-loop-next : goal.decreases-pass_star-loop-next
decreases-pass_star-loop-next l =
    taps (star_with l.place l.exit l.guard (tree (setting_of l.walk.run.now) l.body) Det) l.depth (at_levels l.levels.items) (stack_of l.waiting.items)
