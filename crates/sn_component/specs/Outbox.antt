-- What is given to a stream.
use Rattle.std.specs.Prelude.{◌≡◌, ◌-◌, ℕ, Bool, true, false, List, [], ◌∷◌, ◌++◌}
use Rattle.std.specs.List.{list_any}
use Rattle.std.specs.VecDeque.{deque_capacity, deque_len}
use Rattle.sn_net.specs.Item.{ModelItem}
use Rattle.sn_histories.specs.Entries.{Entry}
use Rattle.sn_stream.specs.Ends.{End, passed}
use Rattle.sn_stream.specs.declared.item.StreamItem.{StreamItem}
use Rattle.sn_stream.specs.declared.item.StreamItem.TheVariants as stream_item
use Rattle.sn_component.specs.declared.outbox.Outbox.{Outbox}
use Rattle.sn_component.specs.declared.outbox.Until.{Until}
use Rattle.sn_component.specs.declared.outbox.Until.TheVariants as until

-- what was put there, and then what is held to be put there
abbrev pub given : Outbox → List (Entry ModelItem)
given out = passed (out.put.moved ++ out.held.items)

-- how many more entries may be held without more memory
abbrev pub room : Outbox → ℕ
room out = deque_capacity out.held - deque_len out.held

-- the end was put last
abbrev pub Ends : End → Type 0
Ends end = (before : List StreamItem) × (end.moved ≡ before ++ stream_item.End ∷ [])

-- the end was put
abbrev pub is_the_end : StreamItem → Bool
is_the_end (stream_item.Item x) = false
is_the_end stream_item.Mark = false
is_the_end stream_item.End = true

abbrev pub has_ended : End → Bool
has_ended end = list_any is_the_end end.moved

-- no more was put since the end was
abbrev pub is_end : Until → Bool
is_end until.Empty = false
is_end until.Full = false
is_end until.End = true
