-- What the end of the stream that leaves a network has got, and what was printed of it.
use Rattle.std.specs.Prelude.{◌≡◌, ℕ, Bool, false, List, [], ◌∷◌, Option, None}
use Rattle.std.specs.List.{list_any}
use Rattle.sn_record.specs.declared.item.Fault.{Fault}
use Rattle.sn_net.specs.Item.{ModelItem, modelled}
use Rattle.sn_io.specs.Told.{AppendsPrefix, appended}
use Rattle.sn_output.specs.Printed.{ending, printed}
use Rattle.sn_model.specs.declared.run.Run.{Run}
use Rattle.sn_histories.specs.Entries.{is_end}
use Rattle.sn_net_histories.specs.Places.{root_at}
use Rattle.sn_net_histories.specs.declared.place.Port.TheVariants as port
use Rattle.sn_stream.specs.Ends.{End as StreamEnd, passed}
use Rattle.sn_stream.specs.declared.item.StreamItem.{StreamItem}
use Rattle.sn_stream.specs.declared.item.StreamItem.TheVariants.{Item, Mark, End}

-- the end belongs to a stream of what leaves the whole network of the run
pub record IsRootOf (run : Run) (root : StreamEnd) : Type 0 where
  pub run_is : root.made.run ≡ run
  pub leaves : root.made.place ≡ root_at port.Out

-- the items among the entries of a stream
abbrev pub items_among : List StreamItem → List ModelItem
items_among [] = []
items_among (Item x ∷ entries) = modelled x ∷ items_among entries
items_among (Mark ∷ entries) = items_among entries
items_among (End ∷ entries) = items_among entries

-- the end of the stream is among them
abbrev pub has_ended : List StreamItem → Bool
has_ended entries = list_any is_end (passed entries)

module _ (names : List (List ℕ)) (entries : List StreamItem) (before now : Option (List ℕ)) where
  -- The end is among them or not, this is the first fault if there is one, and the line of each record before it was written.
  pub record HasWritten (ended : Bool) (fault : Option Fault) : Type 0 where
    pub ended_is : has_ended entries ≡ ended
    pub fault_is : ending (items_among entries) ≡ fault
    pub all : now ≡ appended before (printed names (items_among entries))

  -- Neither the end nor a fault is among them, and some first bytes of the lines were written.
  pub record HasBegun : Type 0 where
    pub goes_on : has_ended entries ≡ false
    pub unfaulted : ending (items_among entries) ≡ None
    pub part : AppendsPrefix before now (printed names (items_among entries))
