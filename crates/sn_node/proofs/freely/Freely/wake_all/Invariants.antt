use Rattle.std.proofs.Common.{◌≡◌, ◌<◌, ℕ, map, true}
use Rattle.std.specs.Prelude.{slice_get}
use Rattle.sn_view.specs.Next.{may_merge_by}
use Rattle.sn_view.specs.View as view
use Rattle.sn_node.specs.Agenda.{is_listed}
use Rattle.sn_node.specs.Child.{child_of}
use Rattle.sn_node.proofs.freely.Freely.wake_all.Given as goal

-- the children before the c-th are listed of which something may be merged
abbrev pub invariant-loop-c : goal.invariant-loop-c
invariant-loop-c l =
    (l.self.fork ≡ l.initial.self.fork)
    × ((d : ℕ) → d < l.c → may_merge_by (view.Freely l.initial.self.fork) d (slice_get (map child_of l.children.list.items) d) ≡ true → is_listed d l.self.waking.stack.items ≡ true)
