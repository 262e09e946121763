use Rattle.std.proofs.Common.{◌≡◌, drop, map}
use Rattle.std.specs.List.{position_from}
use Rattle.sn_net.specs.Dispatchers.{stream_key}
use Rattle.sn_view.specs.Next.{has_key}
use Rattle.sn_node.specs.Child.{child_of}
use Rattle.sn_node.proofs.children.find_child.Given as goal

abbrev pub invariant-loop-i : goal.invariant-loop-i
invariant-loop-i l =
    position_from (has_key (stream_key l.key)) l.i (drop l.i (map child_of l.children)) ≡ position_from (has_key (stream_key l.key)) 0 (map child_of l.children)
