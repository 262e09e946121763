-- What flows in the model of a network.
use Rattle.std.specs.Prelude.{ℕ, Bool, true, false, List}
use Rattle.std.specs.List.{list_any}
use Rattle.sn_record.specs.declared.item.Fault.{Fault as FaultAt}
use Rattle.sn_record.specs.declared.item.Item.{Item}
use Rattle.sn_record.specs.declared.item.Item.TheVariants as item
use Rattle.sn_record.specs.Record.{Entries}

-- a record, a fault, or what stands for a record that no route was for, at the place in the source where it got stuck
pub data ModelItem : Type 0 where
  Rec : Entries → ModelItem
  Fault : FaultAt → ModelItem
  Stuck : ℕ → ModelItem

-- an item of a run, which is never stuck
abbrev pub modelled : Item → ModelItem
modelled (item.Rec r) = Rec r
modelled (item.Fault fault) = Fault fault

abbrev pub is_stuck : ModelItem → Bool
is_stuck (Rec r) = false
is_stuck (Fault fault) = false
is_stuck (Stuck place) = true

-- whether some item is stuck
abbrev pub holds_stuck : List ModelItem → Bool
holds_stuck items = list_any is_stuck items
