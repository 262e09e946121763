use Rattle.std.proofs.Common.{◌≡◌, ◌++◌, take}
use Rattle.sn_net.proofs.faces.push_copies.Given as goal

abbrev pub invariant-loop-set : goal.invariant-loop-set
invariant-loop-set l = l.sets ≡ l.initial.sets ++ take l.set-index l.more
