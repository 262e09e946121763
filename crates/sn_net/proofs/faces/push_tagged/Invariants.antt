use Rattle.std.proofs.Common.{◌≡◌, ◌++◌, take, map}
use Rattle.sn_net.specs.Face.{with_tag}
use Rattle.sn_net.proofs.faces.push_tagged.Given as goal

abbrev pub invariant-loop-set : goal.invariant-loop-set
invariant-loop-set l = l.sets ≡ l.initial.sets ++ map (with_tag l.id) (take l.set-index l.more)
