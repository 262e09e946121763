-- Which items a network may be fed.
use Rattle.std.specs.Prelude.{List, map}
use Rattle.std.specs.List.{All}
use Rattle.sn_record.specs.declared.item.Item.{Item}
use Rattle.sn_net.specs.declared.expr.BoxProgram.{BoxProgram}
use Rattle.sn_net.specs.declared.net.Net.{Net}
use Rattle.sn_net.specs.Item.{modelled}
use Rattle.sn_typing.specs.Typed.{IsTyped}

-- the item is a fault, or a record all of whose ways through the network have a route; a fact with one proof alone, which a type may keep
abbrev pub FitsNet : List BoxProgram → Net → Item → Type 0
FitsNet boxes net item = ∥ IsTyped boxes net (modelled item) ∥₁

-- so is each of the items
abbrev pub AreTyped : List BoxProgram → Net → List Item → Type 0
AreTyped boxes net items = ∥ All (IsTyped boxes net) (map modelled items) ∥₁
