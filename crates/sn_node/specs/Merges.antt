-- What the code of a merge does.
use Rattle.std.specs.Prelude.{◌≡◌, ℕ, Bool, true, false, List, [], ◌∷◌, None}
use Rattle.sn_net.specs.Item.{ModelItem}
use Rattle.sn_view.specs.Epochs.{Epochs, marked, is_passed, moved_on}
use Rattle.sn_view.specs.View.{Entry, Mark, Turn, State, InTurn, Freely, Node}
use Rattle.sn_view.specs.Next.{keeps}
use Rattle.sn_node.specs.declared.merge.Merged.{Merged}
use Rattle.sn_node.specs.declared.merge.Merged.TheVariants as made
use Rattle.sn_node.specs.Entry.{entry_of}
use Rattle.sn_node.specs.Merged.{moved, merged}

pub record Unmoved (c : ℕ) (old new : Node) : Type 0 where
  pub none : merged old c ≡ None
  pub same : new ≡ old

abbrev pub MergesTo : Merged → ℕ → Node → Node → Type 0
MergesTo made.No c old new = Unmoved c old new
MergesTo made.Nothing c old new = merged old c ≡ moved new []
MergesTo (made.Gives e) c old new = merged old c ≡ moved new (entry_of e ∷ [])

-- the decision was first, and is served
pub record PopsTurn (d : Entry Turn) (old new : Node) : Type 0 where
  pub others : List (Entry Turn)
  pub was : old.state ≡ InTurn (d ∷ others)
  pub now : new ≡ keeps (InTurn others) old

abbrev pub after_mark : Bool → Epochs → State
after_mark true e = Freely (moved_on e)
after_mark false e = Freely e

abbrev pub mark_given : Bool → List (Entry ModelItem)
mark_given true = Mark ∷ []
mark_given false = []

-- a mark of the child passes, and tells whether a mark goes out
pub record PassesMark (c : ℕ) (old new : State) (out : Bool) : Type 0 where
  pub epochs : Epochs
  pub was : old ≡ Freely epochs
  pub answer : out ≡ is_passed (marked c epochs)
  pub now : new ≡ after_mark out (marked c epochs)
