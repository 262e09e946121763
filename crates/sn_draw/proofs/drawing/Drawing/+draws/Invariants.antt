use Rattle.std.proofs.Common.{◌≡◌, ◌+◌, ◌*◌, map, max, take}
use Rattle.std.specs.Prelude.{sum}
use Rattle.sn_net.proofs.net.Net.TheLaws.{the_size}
use Rattle.sn_draw.specs.Picture.{count_nodes, drawn}
use Rattle.sn_draw.proofs.drawing.Drawing.+draws.Given as goal

abbrev pub decreases-draw : goal.decreases-draw
decreases-draw l = 4 * the_size l.net.now + 1

abbrev pub decreases-series : goal.decreases-series
decreases-series l = 4 * max (the_size l.left.now) (the_size l.right.now) + 2

abbrev pub decreases-choice : goal.decreases-choice
decreases-choice l = 4 * goal.size-choice l + 2

abbrev pub decreases-star : goal.decreases-star
decreases-star l = 4 * the_size l.body.now + 2

abbrev pub decreases-split : goal.decreases-split
decreases-split l = 4 * the_size l.body.now + 2

-- the branches so far are drawn
abbrev pub invariant-choice-loop-i : goal.invariant-choice-loop-i
invariant-choice-loop-i l = count_nodes l.self.statements ≡ count_nodes l.initial.self.statements + sum (map drawn (take l.i l.branches))
