-- How much more may be kept of each child without more memory.
use Rattle.std.specs.Prelude.{ℕ, ◌-◌, List, slice_get, unwrap_or}
use Rattle.std.specs.Option.{option_map}
use Rattle.std.specs.VecDeque.{deque_capacity, deque_len}
use Rattle.sn_node.specs.declared.children.Child.{Child}
use Rattle.sn_node.specs.declared.children.Children.{Children}

abbrev pub room_of : Child → ℕ
room_of child = deque_capacity child.kept - deque_len child.kept

-- where there is no child of the number there is no room
abbrev pub room_at : List Child → ℕ → ℕ
room_at list c = unwrap_or (option_map room_of (slice_get list c)) 0

-- how many more entries of a child fit behind those that are kept
abbrev pub kept_room : Children → ℕ → ℕ
kept_room children = room_at children.list.items
