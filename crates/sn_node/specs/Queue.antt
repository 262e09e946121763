-- How much fits into a queue.
use Rattle.std.specs.Prelude.{ℕ, ◌-◌}
use Rattle.std.specs.VecDeque.{deque_capacity, deque_len}
use Rattle.sn_node.specs.declared.queue.Queue.{Queue}

-- how many entries fit behind those that wait, without more memory
abbrev pub room : Queue → ℕ
room queue = deque_capacity queue.entries - deque_len queue.entries
