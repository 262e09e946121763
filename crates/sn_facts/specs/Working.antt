-- Components that run: what they have given for the entries that they have received.
use Rattle.std.specs.Prelude.{◌≡◌, List, [], ◌∷◌, map}
use Rattle.sn_streams.specs.Machines.{Machine}
use Rattle.sn_histories.specs.Entries.{Entry, Item, To, Mark, End}
use Rattle.sn_histories.specs.Histories.{worked}

-- what a machine gives for one entry: it works on the items alone
abbrev pub gives_on : {A S : Type 0} → Machine A S → S → Entry A → List (Entry A)
gives_on m s (Item x) = map Item (m.emits s x)
gives_on m s (To k) = To k ∷ []
gives_on m s Mark = Mark ∷ []
gives_on m s End = End ∷ []

-- its state behind one entry
abbrev pub next_on : {A S : Type 0} → Machine A S → S → Entry A → S
next_on m s (Item x) = m.next s x
next_on m s e = s

-- its state behind entries
abbrev pub state_on : {A S : Type 0} → Machine A S → S → List (Entry A) → S
state_on m s [] = s
state_on m s (e ∷ es) = state_on m (next_on m s e) es

-- A box, a filter or a synchrocell: what it has given is what its machine makes of what it has received, and its state is the
-- machine's then.
pub record Works {A S : Type 0} (m : Machine A S) (start : S) (received : List (Entry A)) (state : S) (given : List (Entry A)) : Type 0 where
  pub image : given ≡ worked m start received
  pub reached : state ≡ state_on m start received
