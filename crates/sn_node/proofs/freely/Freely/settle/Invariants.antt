use Rattle.std.proofs.Common.{◌≡◌, length, map}
use Rattle.sn_node.specs.Child.{child_of}
use Rattle.sn_node.specs.Woken.{AreAwake}
use Rattle.sn_node.proofs.freely.Freely.settle.Given as goal

abbrev pub invariant-loop-c : goal.invariant-loop-c
invariant-loop-c l = (l.self.fork ≡ l.initial.self.fork) × AreAwake l.self.fork l.self.waking.stack.items (map child_of l.children.list.items)

abbrev pub decreases-loop-c : goal.decreases-loop-c
decreases-loop-c l = length l.self.waking.stack.items
