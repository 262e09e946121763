-- What a deterministic dispatcher decides of its first entry.
use Rattle.std.specs.Prelude.{◌≡◌, List, [], ◌∷◌, ◌++◌, Option}
use Rattle.sn_streams.specs.Forks.{Router}
use Rattle.sn_streams.specs.Keys.{Key as StreamKey}
use Rattle.sn_net.specs.Item.{ModelItem}
use Rattle.sn_view.specs.View.{Entry, Turn, Node, State, InTurn}
use Rattle.sn_view.specs.Next.{decides, decision_of}
use Rattle.sn_node.specs.Routes.{item_sent}

-- a decision is noted
pub record DecidesTo (d : Entry Turn) (old new : State) : Type 0 where
  pub before : List (Entry Turn)
  pub was : old ≡ InTurn before
  pub now : new ≡ InTurn (before ++ d ∷ [])

-- another decision stands in place of the last one
abbrev pub Redecides : Entry Turn → State → State → Type 0
Redecides d old new = (before : List (Entry Turn)) (x : Entry Turn) → old ≡ InTurn (before ++ x ∷ []) → new ≡ InTurn (before ++ d ∷ [])

-- the last decision is taken away
abbrev pub Undecides : State → State → Type 0
Undecides old new = (before : List (Entry Turn)) (x : Entry Turn) → old ≡ InTurn (before ++ x ∷ []) → new ≡ InTurn before

-- the first entry is decided on, and this item goes to a child
pub record DecidesFirst (r : Router ModelItem) (e : Entry ModelItem) (k : StreamKey) (item : Option ModelItem) (old new : Node) : Type 0 where
  pub before : List (Entry Turn)
  pub was : old.state ≡ InTurn before
  pub now : new ≡ decides before (decision_of r e) old
  pub sends : item ≡ item_sent k e
