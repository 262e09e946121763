-- By which a proof tells two lists of model items apart.
use Rattle.std.specs.Prelude.{◌≡◌, ◌⊎◌, ℕ, List}
use Rattle.std.proofs.Common.{refl, inl, inr}
use Rattle.std.specs.Coded.{Coded, Coded-set, code_by, coded⊎, coded_list, coded_ℕ}
use Rattle.sn_record.specs.declared.item.Fault.{Fault as FaultAt}
use Rattle.sn_record.specs.contracts.item.Fault as fault
use Rattle.sn_record.specs.contracts.record.Record as record_code
use Rattle.sn_record.specs.Record.{Entries}
use Rattle.sn_net.specs.Item.{ModelItem, Rec, Fault, Stuck}

abbrev parts : ModelItem → Entries ⊎ (FaultAt ⊎ ℕ)
parts (Rec r) = inl r
parts (Fault fault) = inr (inl fault)
parts (Stuck place) = inr (inr place)

abbrev item : Entries ⊎ (FaultAt ⊎ ℕ) → ModelItem
item (inl r) = Rec r
item (inr (inl fault)) = Fault fault
item (inr (inr place)) = Stuck place

pub item-parts : (x : ModelItem) → item (parts x) ≡ x
item-parts (Rec r) = refl
item-parts (Fault fault) = refl
item-parts (Stuck place) = refl

abbrev pub model_item_code : Coded ModelItem
model_item_code = code_by (Entries ⊎ (FaultAt ⊎ ℕ)) (coded⊎ record_code.the_row.coded (coded⊎ fault.the_row.coded coded_ℕ)) parts item item-parts

-- an equation of lists of model items has one proof alone
pub items_once : (xs ys : List ModelItem) (p q : xs ≡ ys) → p ≡ q
items_once = Coded-set (coded_list model_item_code)
