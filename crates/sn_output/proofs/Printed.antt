-- What is printed of streams that are put together.
use Rattle.std.proofs.Common.{◌≡◌, ℕ, Bool, true, false, IsTrue, List, [], ◌∷◌, ◌++◌, map, None, Some, refl, sym, ap, ◌∙◌, append_assoc}
use Rattle.std.specs.List.{flat_map, list_all}
use Rattle.sn_record.specs.Record.{Entries}
use Rattle.sn_record.specs.declared.item.Fault.{Fault as FaultAt}
use Rattle.sn_net.specs.Item.{ModelItem, Rec, Fault, Stuck}
use Rattle.sn_output.specs.Line.{line}
use Rattle.sn_output.specs.Printed.{printed, ending}

-- records are printed line by line
pub printed-records : (names : List (List ℕ)) (records : List Entries) → printed names (map Rec records) ≡ flat_map (line names) records
printed-records names [] = refl
printed-records names (r ∷ records) = ap (λ text. line names r ++ text) (printed-records names records)

-- and before what follows them
pub printed-after_records : (names : List (List ℕ)) (records : List Entries) (items : List ModelItem) → printed names (map Rec records ++ items) ≡ flat_map (line names) records ++ printed names items
printed-after_records names [] items = refl
printed-after_records names (r ∷ records) items =
    ap (λ text. line names r ++ text) (printed-after_records names records items) ∙ sym (append_assoc (line names r) (flat_map (line names) records) (printed names items))

-- no fault ends records
pub ending-records : (records : List Entries) → ending (map Rec records) ≡ None
ending-records [] = refl
ending-records (r ∷ records) = ending-records records

-- what follows them ends as it would without them
pub ending-after_records : (records : List Entries) (items : List ModelItem) → ending (map Rec records ++ items) ≡ ending items
ending-after_records [] items = refl
ending-after_records (r ∷ records) items = ending-after_records records items

abbrev pub is_record : ModelItem → Bool
is_record (Rec r) = true
is_record (Fault fault) = false
is_record (Stuck place) = false

-- the same where the items are known to be records by a test
pub printed-append : (names : List (List ℕ)) (items more : List ModelItem) → IsTrue (list_all is_record items) → printed names (items ++ more) ≡ printed names items ++ printed names more
printed-append names [] more records = refl
printed-append names (Rec r ∷ items) more records =
    ap (λ text. line names r ++ text) (printed-append names items more records) ∙ sym (append_assoc (line names r) (printed names items) (printed names more))
printed-append names (Fault fault ∷ items) more records = cc
printed-append names (Stuck place ∷ items) more records = cc

pub ending-append : (items more : List ModelItem) → IsTrue (list_all is_record items) → ending (items ++ more) ≡ ending more
ending-append [] more records = refl
ending-append (Rec r ∷ items) more records = ending-append items more records
ending-append (Fault fault ∷ items) more records = cc
ending-append (Stuck place ∷ items) more records = cc

-- nothing that follows a fault is printed
pub printed-before_fault : (names : List (List ℕ)) (items more : List ModelItem) (fault : FaultAt) → ending items ≡ Some fault → printed names (items ++ more) ≡ printed names items
printed-before_fault names [] more fault e = cc
printed-before_fault names (Rec r ∷ items) more fault e = ap (λ text. line names r ++ text) (printed-before_fault names items more fault e)
printed-before_fault names (Fault found ∷ items) more fault e = refl
printed-before_fault names (Stuck place ∷ items) more fault e = cc

pub ending-before_fault : (items more : List ModelItem) (fault : FaultAt) → ending items ≡ Some fault → ending (items ++ more) ≡ Some fault
ending-before_fault [] more fault e = cc
ending-before_fault (Rec r ∷ items) more fault e = ending-before_fault items more fault e
ending-before_fault (Fault found ∷ items) more fault e = e
ending-before_fault (Stuck place ∷ items) more fault e = cc
