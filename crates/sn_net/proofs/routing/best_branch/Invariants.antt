use Rattle.std.proofs.Common.{◌≡◌, None, drop}
use Rattle.sn_net.specs.Best.{best_from}
use Rattle.sn_net.proofs.routing.best_branch.Given as goal

abbrev pub invariant-loop-i : goal.invariant-loop-i
invariant-loop-i l = best_from l.best l.i (drop l.i l.faces) l.r ≡ best_from None 0 l.faces l.r
