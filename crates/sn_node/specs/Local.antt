-- What a component passes on.
use Rattle.std.specs.Prelude.{◌≡◌, ◌≤◌, ℕ, Bool, true, false, IsTrue, List, [], ◌∷◌, length, map, Option, None, Some, IfSome, MatchOption}
use Rattle.std.specs.List.{list_all}
use Rattle.sn_net.specs.declared.net.Net.{Net}
use Rattle.sn_net.specs.declared.net.Net.TheOpen.{Net-F}
use Rattle.sn_net.specs.Cell.{cell_emits}
use Rattle.sn_net.specs.Item.{ModelItem, modelled}
use Rattle.sn_model.specs.declared.run.Run.{Run}
use Rattle.sn_model.specs.Run.{net_of}
use Rattle.sn_view.specs.View.{Entry, State, Cell, Node, first_of}
use Rattle.sn_view.specs.Next.{Given as Step, local_step, items, keeps, passed, cell_after, answering_entry}
use Rattle.sn_view.specs.Routed.{is_going}
use Rattle.sn_node.specs.declared.given.Given.{Given}
use Rattle.sn_node.specs.declared.given.Given.TheVariants as given
use Rattle.sn_node.specs.declared.local.Passing.{Passing}
use Rattle.sn_node.specs.declared.local.Passing.TheVariants as passing
use Rattle.sn_node.specs.declared.node.Made.{Made}
use Rattle.sn_node.specs.Answered.{form_at}
use Rattle.sn_node.specs.Entry.{entry_of}

abbrev pub given_of : Given → List (Entry ModelItem)
given_of (given.Items xs) = items (map modelled xs)
given_of (given.Entry e) = entry_of e ∷ []

-- what a node of this form passes on for its first entry
abbrev pub local_at : Run → Option (Net-F Net) → Node → Option Step
local_at run form n = local_step run form n.state (first_of n.waiting)

-- none of it is stuck
abbrev pub HasRoute : Run → Option (Net-F Net) → Node → Type 0
HasRoute run form n = IfSome (local_at run form n) (λ step. IsTrue (list_all is_going step.entries))

-- the node passes its first entry on as these entries
pub record PassesOn (run : Run) (form : Option (Net-F Net)) (old new : Node) (entries : List (Entry ModelItem)) : Type 0 where
  pub step : local_at run form old ≡ Some (record { state = new.state; entries = entries })
  pub kept : new ≡ keeps new.state (passed old)

-- there is nothing that it may pass on
pub record Stays (run : Run) (form : Option (Net-F Net)) (old new : Node) : Type 0 where
  pub none : local_at run form old ≡ None
  pub same : new ≡ old

-- it keeps its state, and would pass this on
pub record Gives (run : Run) (form : Option (Net-F Net)) (n : Node) (entries : List (Entry ModelItem)) : Type 0 where
  pub step : local_at run form n ≡ Some (record { state = n.state; entries = entries })

-- it would pass on no more entries than so many
pub record GivesAtMost (run : Run) (form : Option (Net-F Net)) (n : Node) (most : ℕ) : Type 0 where
  pub step : Step
  pub is : local_at run form n ≡ Some step
  pub few : length step.entries ≤ most

abbrev pub IsPassing : Run → Option (Net-F Net) → Node → Passing → Type 0
IsPassing run form n passing.Nothing = local_at run form n ≡ None
IsPassing run form n (passing.Given g) = Gives run form n (given_of g)
IsPassing run form n (passing.Count most) = GivesAtMost run form n most

-- at most so many entries, if there is something that it may pass on
abbrev pub Counts : Run → Option (Net-F Net) → Node → Option ℕ → Type 0
Counts run form n count = MatchOption count (local_at run form n ≡ None) (GivesAtMost run form n)

-- what it passed on for its first entry, if it may
abbrev pub Passes : Run → Option (Net-F Net) → Node → Node → Option Given → Type 0
Passes run form old new passed = MatchOption passed (Stays run form old new) (λ g. PassesOn run form old new (given_of g))

-- what it would pass on
abbrev pub WouldGive : Run → Option (Net-F Net) → Node → Option Given → Type 0
WouldGive run form n given = MatchOption given (local_at run form n ≡ None) (λ g. Gives run form n (given_of g))

-- it is this box
abbrev pub IsBox : Made → ℕ → ℕ → Type 0
IsBox made place number = form_at (net_of made.run.value) made.path ≡ Some (Net-F.Box place number)

abbrev pub is_cell : State → Bool
is_cell (Cell patterns cell) = true
is_cell other = false

-- the step of a synchrocell for an entry
abbrev pub cell_step : ℕ → State → Entry ModelItem → Option Step
cell_step place (Cell patterns cell) e =
    Some (record { state = Cell patterns (cell_after patterns cell e); entries = answering_entry (cell_emits place patterns cell) e })
cell_step place other e = None
