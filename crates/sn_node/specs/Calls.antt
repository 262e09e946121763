-- Calls that are begun and finished at a node.
use Rattle.std.specs.Prelude.{◌≡◌, ℕ, true, false, List, Some, slice_get, slice_set, take}
use Rattle.std.specs.List.{Any, list_any}
use Rattle.sn_record.specs.Record.{Entries}
use Rattle.sn_net.specs.Item.{Rec}
use Rattle.sn_record.specs.declared.item.Item.{Item}
use Rattle.sn_model.specs.declared.run.Run.{Run}
use Rattle.sn_node.specs.Answered.{IsAnswerAt}
use Rattle.sn_view.specs.View.{Node, InFlight, Finished, It, Plain}
use Rattle.sn_view.specs.Next.{IsCall, first_called, has_no_call}

-- the first record without a call stands at p
pub record IsNextCall (p : ℕ) (given : Entries) (n : Node) : Type 0 where
  pub before : list_any has_no_call (take p n.waiting) ≡ false
  pub here : slice_get n.waiting p ≡ Some (Plain (It (Rec given)))

-- the node with its first free record in the call
abbrev pub begins : ℕ → Node → Node
begins call n = record n { waiting = first_called call n.waiting }

-- the first record without a call is in flight now
pub record Begins (call : ℕ) (given : Entries) (old new : Node) : Type 0 where
  pub some : list_any has_no_call old.waiting ≡ true
  pub begun : new ≡ begins call old
  pub flies : Any (IsCall call given) new.waiting

-- the node with the call at p finished
abbrev pub finishes : ℕ → Entries → Node → Node
finishes p given n = record n { waiting = slice_set n.waiting p (Finished given) }

-- a call is in flight at p, and the items are the answer to its record
pub record IsAnswering (run : Run) (path : List ℕ) (p : ℕ) (items : List Item) (n : Node) : Type 0 where
  pub call : ℕ
  pub given : Entries
  pub flies : slice_get n.waiting p ≡ Some (InFlight call given)
  pub answer : IsAnswerAt run path given items
