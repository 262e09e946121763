-- What contracts see of the ends of a stream.
use Rattle.std.specs.Prelude.{◌≡◌, ℕ, Bool, true, false, List, [], ◌∷◌, ◌++◌, map, Option, None, Some}
use mathlib.Core.List.{IsPrefix}
use Rattle.atomic_table.specs.Seated.{TableId}
use Rattle.crossbeam_queue.specs.Fifo.{Held}
use Rattle.crossbeam_queue.specs.Passes.{Pass, view, IsPassOf, ruled_capacity}
use Rattle.sn_record.specs.declared.item.Item.TheVariants as item
use Rattle.sn_net.specs.Item.{ModelItem, Rec, Fault, Stuck, modelled}
use Rattle.sn_model.specs.declared.run.Run.{Run}
use Rattle.sn_histories.specs.Entries as entry
use Rattle.sn_histories.specs.Entries.{Entry}
use Rattle.sn_net_histories.specs.Histories.{leads_somewhere}
use Rattle.sn_net_histories.specs.Places.{history_at, tree_step}
use Rattle.sn_net_histories.specs.declared.place.Place.{Place}
use Rattle.sn_net_histories.specs.declared.place.Port.{Port}
use Rattle.sn_net_histories.specs.declared.place.Port.TheVariants as port
use Rattle.sn_stream.specs.declared.ends.Stream.{Stream}
use Rattle.sn_stream.specs.declared.item.StreamItem.{StreamItem}
use Rattle.sn_stream.specs.declared.item.StreamItem.TheVariants.{Item, Mark, End as TheEnd}
use Rattle.sn_stream.specs.declared.rule.Known.{Known}
use Rattle.sn_stream.specs.Flow.{Moment, IsLastOf, Stated, known}

-- the entry of a history that an entry of a stream is
abbrev pub entry_of : StreamItem → Entry ModelItem
entry_of (Item i) = entry.Item (modelled i)
entry_of Mark = entry.Mark
entry_of TheEnd = entry.End

-- the other way: a record without a route and a decision stand on no stream
abbrev pub streamed : Entry ModelItem → Option StreamItem
streamed (entry.Item (Rec r)) = Some (Item (item.Rec r))
streamed (entry.Item (Fault fault)) = Some (Item (item.Fault fault))
streamed (entry.Item (Stuck place)) = None
streamed (entry.To k) = None
streamed entry.Mark = Some Mark
streamed entry.End = Some TheEnd

-- of which `make` an end is: the run, the place, for how many entries there is room, and which queue it is
pub record Made : Type 0 where
  pub run : Run
  pub place : Place
  pub capacity : ℕ
  pub queue : TableId

-- an end, and what it has put or got so far
pub record End : Type 0 where
  pub made : Made
  pub moved : List StreamItem

-- an end that has moved nothing yet, and one that moves one entry more
abbrev pub new_end : Made → End
new_end made = record { made = made; moved = [] }

abbrev pub moves : End → StreamItem → End
moves end x = record end { moved = end.moved ++ x ∷ [] }

-- the history of the place that a stream is for
abbrev pub history_of : End → List (Entry ModelItem)
history_of end = history_at end.made.run end.made.place

-- what moved, as entries of a history
abbrev pub passed : List StreamItem → List (Entry ModelItem)
passed moved = map entry_of moved

-- the list that is stated for a place
abbrev pub stated_at : Run → Place → Stated
stated_at run place = map streamed (history_at run place)

-- the steps reach a component of the run's network
abbrev pub Leads : Run → Place → Type 0
Leads run place = leads_somewhere run.depth run.net (map tree_step place.steps) ≡ true

-- entries pass there from one thread to another
abbrev pub is_open : Port → Bool
is_open port.In = true
is_open port.Out = true
is_open port.Decisions = false

-- of which `make` a stream is
abbrev pub made_of : Stream → Made
made_of stream = record {
  run = stream.run.value;
  place = stream.place.value;
  capacity = ruled_capacity stream.line;
  queue = stream.line.table.shared.table_id;
}

-- the pass is of this stream, does this, knows the stated list, and what it moved is a beginning of the history
abbrev pub IsEndOf : Bool → Bool → Stream → Pass StreamItem Known → Type 0
IsEndOf puts gets stream pass =
    IsPassOf stream.line pass
    × (view pass ≡ known puts gets (stated_at stream.run.value stream.place.value) (view pass).moved)
    × IsPrefix (passed (view pass).moved) (history_at stream.run.value stream.place.value)

-- at one moment the stream held as many entries as there is room for: the last of those that were put
abbrev pub WasFull : End → Type 0
WasFull end = Held end.made.capacity (IsLastOf end.moved)

-- at one moment it held none, by the rule of the stream
abbrev pub WasEmpty : End → Type 0
WasEmpty end = Held 0 (Moment (known false true (stated_at end.made.run end.made.place) end.moved))
