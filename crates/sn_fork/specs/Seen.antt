-- Forks as contracts see them.
use Rattle.std.specs.Prelude.{◌≡◌, ℕ, Bool, true, false, if◌then◌else◌, List, [], ◌∷◌, ◌++◌, map, slice_get, Some}
use Rattle.sn_streams.specs.Keys.{Key, key_eq}
use Rattle.sn_histories.specs.Entries as entry
use Rattle.sn_histories.specs.Entries.{Entry}
use Rattle.sn_net.specs.Dispatchers.{stream_key}
use Rattle.sn_net.specs.Item.{ModelItem, modelled}
use Rattle.sn_model.specs.declared.run.Run.{Run}
use Rattle.sn_model.specs.declared.step.Step.{Step}
use Rattle.sn_dispatch.specs.declared.det_fork.Decision.{Decision}
use Rattle.sn_dispatch.specs.declared.det_fork.Decision.TheVariants as decision
use Rattle.sn_stream.specs.Ends.{End, passed}
use Rattle.sn_stream.specs.declared.item.StreamItem.{StreamItem}
use Rattle.sn_component.specs.Seen.{given_by}

-- a child: its key, the way to it with what is held to be put there, and the way back
pub record ChildSeen : Type 0 where
  pub key : Key
  pub to : End
  pub held : List StreamItem
  pub from : End

-- A choice, a level of a star or a split: which part of a run's network it is, with how many replicas left, and where that stands; its ends; what
-- it has got and not decided on; the decisions that it keeps; its children; and what it holds to be put.
pub record Forking : Type 0 where
  pub run : Run
  pub path : List ℕ
  pub left : ℕ
  pub steps : List Step
  pub input : End
  pub waiting : List StreamItem
  pub decisions : List Decision
  pub children : List ChildSeen
  pub output : End
  pub held : List StreamItem

-- a decision as an entry of a history
abbrev pub decision_entry : Decision → Entry ModelItem
decision_entry (decision.To k) = entry.To (stream_key k)
decision_entry (decision.Own item) = entry.Item (modelled item)
decision_entry decision.Mark = entry.Mark
decision_entry decision.End = entry.End

-- what came from the child of a key; nothing where there is none
abbrev pub came_from : List ChildSeen → Key → List (Entry ModelItem)
came_from [] k = []
came_from (child ∷ children) k = if key_eq k child.key then passed child.from.moved else came_from children k

-- whether it asks for a group of a child
abbrev pub asks_child : Decision → Bool
asks_child (decision.To k) = true
asks_child (decision.Own item) = false
asks_child decision.Mark = false
asks_child decision.End = false

-- the fork with what came from a child, with these decisions, holding this to be put
abbrev pub got_from : Forking → List ChildSeen → List ChildSeen → ChildSeen → End → List Decision → List StreamItem → Forking
got_from f front back c from decisions held = record f { children = front ++ record c { from = from } ∷ back; decisions = decisions; held = held }

abbrev pub keys_of : List ChildSeen → List Key
keys_of children = map (λ (c : ChildSeen). c.key) children

-- for each child one entry more is held
abbrev pub AllHold : Entry ModelItem → (before now : List ChildSeen) → Type 0
AllHold e [] [] = Unit {0}
AllHold e (c ∷ before) (d ∷ now) =
    ((held : List StreamItem) × (d ≡ record c { held = held }) × (given_by c.to held ≡ given_by c.to c.held ++ e ∷ [])) × AllHold e before now
AllHold e before now = ⊥

-- one that was given nothing, and from which nothing came
pub record IsNew (c : ChildSeen) : Type 0 where
  pub put : c.to.moved ≡ []
  pub held : c.held ≡ []
  pub got : c.from.moved ≡ []

-- The first decision is served by what the node has: it asks for no child, and it is not the end while something is held for a child.
abbrev pub serves_now : (holds : Bool) → List Decision → Bool
serves_now holds [] = false
serves_now holds (decision.To k ∷ ds) = false
serves_now holds (decision.Own item ∷ ds) = true
serves_now holds (decision.Mark ∷ ds) = true
serves_now true (decision.End ∷ ds) = false
serves_now false (decision.End ∷ ds) = true

-- the first decision asks for the child of that number
abbrev pub AsksFor : Forking → ℕ → Type 0
AsksFor f c =
    (child : ChildSeen) × (d : Decision) × (ds : List Decision)
    × (slice_get f.children c ≡ Some child) × (f.decisions ≡ d ∷ ds) × (decision_entry d ≡ entry.To child.key)
