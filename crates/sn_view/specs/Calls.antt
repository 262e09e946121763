-- Where calls are in flight.
use Rattle.std.specs.Prelude.{◌≡◌, ℕ, Some, slice_get}
use Rattle.std.specs.List.{Any}
use Rattle.sn_record.specs.Record.{Entries}
use Rattle.sn_view.specs.View.{Emit, Finish, Happening, InFlight, Local, Merge, Node, Route, Start, Take, Unfold, View}
use Rattle.sn_view.specs.Next.{IsCall}

-- the call is in flight with this record, at this place of what waits at the node of this number
pub record FliesAt (g : View) (i p call : ℕ) (given : Entries) : Type 0 where
  pub node : Node
  pub there : slice_get g.nodes i ≡ Some node
  pub flies : slice_get node.waiting p ≡ Some (InFlight call given)

-- the same at some place
pub record Flies (g : View) (i call : ℕ) (given : Entries) : Type 0 where
  pub node : Node
  pub there : slice_get g.nodes i ≡ Some node
  pub flies : Any (IsCall call given) node.waiting

-- the call of that number is finished by the event
abbrev pub IsFinishOf : Happening → ℕ → Type 0
IsFinishOf Take call = ⊥
IsFinishOf (Start i) call = ⊥
IsFinishOf (Finish other number place given) call = other ≡ call
IsFinishOf (Local i) call = ⊥
IsFinishOf (Route i) call = ⊥
IsFinishOf (Unfold i) call = ⊥
IsFinishOf (Merge i c) call = ⊥
IsFinishOf Emit call = ⊥
