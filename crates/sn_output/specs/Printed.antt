-- What is printed of a stream, and the fault that ends it.
--
-- A stuck item stands for a record that no route was for. No accepted run has one, so what is said of streams with
-- one does not matter: printing stops there, and no fault ends such a stream.
use Rattle.std.specs.Prelude.{ℕ, List, [], ◌∷◌, ◌++◌, Option, None, Some}
use Rattle.sn_record.specs.declared.item.Fault.{Fault as FaultAt}
use Rattle.sn_net.specs.Item.{ModelItem, Rec, Fault, Stuck}
use Rattle.sn_output.specs.Line.{line}

-- the lines of the records, up to the first item that is none, be it a fault or stuck
abbrev pub printed : List (List ℕ) → List ModelItem → List ℕ
printed names [] = []
printed names (Rec r ∷ items) = line names r ++ printed names items
printed names (Fault fault ∷ items) = []
printed names (Stuck place ∷ items) = []

-- the first fault, where there is one and nothing is stuck before it
abbrev pub ending : List ModelItem → Option FaultAt
ending [] = None
ending (Rec r ∷ items) = ending items
ending (Fault fault ∷ items) = Some fault
ending (Stuck place ∷ items) = None
