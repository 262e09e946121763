use Rattle.std.proofs.Common.{◌≡◌, take}
use Rattle.sn_net.proofs.+copy.Given as goal

abbrev pub invariant-copying::copy_each-loop-net : goal.invariant-copying::copy_each-loop-net
invariant-copying::copy_each-loop-net l = l.copies ≡ take l.net-index l.nets
