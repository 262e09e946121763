-- A history that is known as items and then the end.
use Rattle.std.specs.Prelude.{ℕ, zero, suc, List, [], ◌∷◌, ◌++◌, map}
use Rattle.sn_record.specs.declared.item.Item.{Item}
use Rattle.sn_net.specs.Item.{ModelItem, modelled}
use Rattle.sn_histories.specs.Entries.{Entry, End}
use Rattle.sn_histories.specs.Entries as entry
use Rattle.sn_stream.specs.declared.item.StreamItem.{StreamItem}
use Rattle.sn_stream.specs.declared.item.StreamItem.TheVariants as stream_item

-- the items, and then the end
abbrev pub ended : List Item → List (Entry ModelItem)
ended items = map entry.Item (map modelled items) ++ (End ∷ [])

-- the entry of a number, from 0; the end has the number behind the last item
abbrev pub numbered : List Item → ℕ → StreamItem
numbered [] n = stream_item.End
numbered (x ∷ xs) zero = stream_item.Item x
numbered (x ∷ xs) (suc n) = numbered xs n
