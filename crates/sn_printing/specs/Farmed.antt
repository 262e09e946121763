-- What a run with workers printed.
use Rattle.std.specs.Prelude.{◌≡◌, ℕ, List, ◌++◌, Option, Some, map}
use Rattle.sn_record.specs.Record.{Entries}
use Rattle.sn_record.specs.declared.item.Fault.{Fault}
use Rattle.sn_model.specs.Run.{MayGive}
use Rattle.sn_model.specs.declared.run.Run.{Run}
use Rattle.sn_net.specs.Item.{ModelItem, Rec}
use Rattle.sn_io.specs.Told.{appended}
use Rattle.sn_output.specs.Printed.{ending, printed}
use Rattle.sn_view.specs.View.{View}
use Rattle.sn_turns.specs.Over.{IsOver}

-- nothing but records is among the items
abbrev pub AreRecords : List ModelItem → Type 0
AreRecords items = (records : List Entries) × (items ≡ map Rec records)

module _ (names : List (List ℕ)) where
  -- the graph is at rest, nothing but records came out, and all that came out was written
  pub record IsWhole (graph : View) (before now : Option (List ℕ)) : Type 0 where
    pub over : IsOver graph
    pub records : AreRecords graph.out
    pub all : now ≡ appended before (printed names graph.out)

  -- all that came out was written, to a sink that tells what it holds
  pub record IsAllWritten (graph : View) (before now : Option (List ℕ)) : Type 0 where
    pub told : List ℕ
    pub first : before ≡ Some told
    pub all : now ≡ Some (told ++ printed names graph.out)

  -- this fault came out first, and all that came out before it was written
  pub record IsFaulted (fault : Fault) (graph : View) (before now : Option (List ℕ)) : Type 0 where
    pub first : ending graph.out ≡ Some fault
    pub all : now ≡ appended before (printed names graph.out)

  -- All of some bytes was written: what is printed of a stream that the run may give, and that ends so.
  pub record HasPrinted (run : Run) (end : Option Fault) (before now : Option (List ℕ)) : Type 0 where
    pub text : List ℕ
    pub all : now ≡ appended before text
    pub stream : ∥ ((ys : List ModelItem) × MayGive run ys × (text ≡ printed names ys) × (end ≡ ending ys)) ∥₁
