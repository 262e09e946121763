-- What comes out of a cell.
use Rattle.std.specs.Prelude.{◌≡◌, List, [], ◌∷◌}
use Rattle.sn_record.specs.Record.{Entries}
use Rattle.sn_net.specs.Cell.{Reception, Held, Joined, Passed, Unmatched}
use Rattle.sn_net.specs.Item.{ModelItem, Rec}
use Rattle.sn_sync.specs.declared.cell.CellOut.{CellOut}
use Rattle.sn_sync.specs.declared.cell.CellOut.TheVariants as out

-- what comes out for the record r. Nothing does for one that matches no pattern
abbrev pub ComesOut : Entries → Reception → CellOut → Type 0
ComesOut r (Held slots) result = result ≡ out.Held
ComesOut r (Joined both) result = result ≡ out.Joined both
ComesOut r Passed result = result ≡ out.Passed r
ComesOut r Unmatched result = ⊥

-- what comes out, as items of the model
abbrev pub items_out : CellOut → List ModelItem
items_out out.Held = []
items_out (out.Passed r) = Rec r ∷ []
items_out (out.Joined both) = Rec both ∷ []
