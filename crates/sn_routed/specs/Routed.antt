-- Entries of records that no route was for, and the items among entries.
use Rattle.std.specs.Prelude.{Bool, false, List, [], ◌∷◌}
use Rattle.std.specs.List.{list_any}
use Rattle.sn_histories.specs.Entries.{Entry, Item, To, Mark, End}
use Rattle.sn_net.specs.Item.{ModelItem, is_stuck}

-- the entry is an item that is stuck
abbrev pub lacks_route : Entry ModelItem → Bool
lacks_route (Item x) = is_stuck x
lacks_route (To k) = false
lacks_route Mark = false
lacks_route End = false

-- whether some entry is such an item
abbrev pub has_stuck : List (Entry ModelItem) → Bool
has_stuck entries = list_any lacks_route entries

-- the items among entries
abbrev pub items_in : {A : Type 0} → List (Entry A) → List A
items_in [] = []
items_in (Item x ∷ es) = x ∷ items_in es
items_in (To k ∷ es) = items_in es
items_in (Mark ∷ es) = items_in es
items_in (End ∷ es) = items_in es
