-- Room for what nodes send.
use Rattle.std.specs.Prelude.{◌≡◌, ◌≤◌, ◌<◌, ◌-◌, ℕ, length, None, Option, Some, slice_get}
use Rattle.std.specs.VecDeque.{deque_capacity, deque_len}
use Rattle.sn_node.specs.Kept.{kept_room}
use Rattle.sn_node.specs.Queue.{room}
use Rattle.sn_node.specs.declared.node.Node.{Node}
use Rattle.sn_node.specs.declared.node.Target.{Target}
use Rattle.sn_node.specs.declared.node.Target.TheVariants as target
use Rattle.sn_graph.specs.declared.arena.Arena.{Arena}

-- where a node sends there is room for so many entries
abbrev pub HasRoom : Target → ℕ → Arena → Type 0
HasRoom target.Out n arena = n ≤ deque_capacity arena.ready - deque_len arena.ready
HasRoom (target.Node i) n arena = (node : Node) → slice_get arena.nodes.items i ≡ Some node → n ≤ room node.waiting
HasRoom (target.Child i c) n arena = (node : Node) → slice_get arena.nodes.items i ≡ Some node → c < length node.children.list.items → n ≤ kept_room node.children c

-- the node that is written to
abbrev pub written : Target → Option ℕ
written target.Out = None
written (target.Node i) = Some i
written (target.Child i c) = Some i
