use Rattle.std.proofs.Common.{◌≡◌, ◌+◌, drop, map, sum}
use Rattle.sn_net.specs.Net.{nodes}
use Rattle.sn_plan.proofs.counting.+counting.Given as goal

abbrev pub invariant-count_each-loop-net : goal.invariant-count_each-loop-net
invariant-count_each-loop-net l = l.count + sum (map nodes (drop l.net-index l.nets)) ≡ sum (map nodes l.nets)
