use Rattle.std.proofs.Common.{◌≡◌, ◌-◌}
use Rattle.std.specs.VecDeque.{deque_len}
use Rattle.sn_node.proofs.queue.Queue.skip.Given as goal

abbrev pub invariant-loop-self : goal.invariant-loop-self
invariant-loop-self l = l.self.entries ≡ l.initial.self.entries

abbrev pub decreases-loop-self : goal.decreases-loop-self
decreases-loop-self l = deque_len l.self.entries - l.self.called
