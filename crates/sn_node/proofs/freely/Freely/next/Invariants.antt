use Rattle.std.proofs.Common.{◌≡◌, ◌≤◌, false, drop, length, map}
use Rattle.std.specs.Prelude.{slice_get}
use Rattle.std.specs.List.{list_any}
use Rattle.sn_view.specs.Next.{may_merge_by}
use Rattle.sn_view.specs.View as view
use Rattle.sn_node.specs.Child.{child_of}
use Rattle.sn_node.proofs.freely.Freely.next.Given as goal

-- nothing may be merged of the children behind the i-th that is listed
abbrev pub invariant-loop-i : goal.invariant-loop-i
invariant-loop-i l =
    (l.i ≤ length l.listed)
    × (list_any (λ c. may_merge_by (view.Freely l.self.fork) c (slice_get (map child_of l.children.list.items) c)) (drop l.i l.listed) ≡ false)

abbrev pub decreases-loop-i : goal.decreases-loop-i
decreases-loop-i l = l.i
