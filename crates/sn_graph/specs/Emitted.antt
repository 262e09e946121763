-- What came out of the network.
use Rattle.std.specs.Prelude.{Bool, true, false, List, [], ◌∷◌}
use Rattle.sn_record.specs.declared.item.Item.{Item}
use Rattle.sn_graph.specs.declared.emit.Emitted.{Emitted}
use Rattle.sn_graph.specs.declared.emit.Emitted.TheVariants as emitted

-- whether an entry waited
abbrev pub has_emitted : Emitted → Bool
has_emitted emitted.No = false
has_emitted emitted.Nothing = true
has_emitted (emitted.Item x) = true

abbrev pub items_of : Emitted → List Item
items_of emitted.No = []
items_of emitted.Nothing = []
items_of (emitted.Item x) = x ∷ []
