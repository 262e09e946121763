-- What the type of a fork keeps.
use Rattle.std.specs.Prelude.{◌≡◌, ℕ, Some, false, List, [], ◌∷◌, ◌++◌, filter, map}
use mathlib.Core.List.{IsPrefix}
use Rattle.sn_streams.specs.Forks.{Merge, Router}
use Rattle.sn_streams.specs.Keys.{AreDistinct, Key, Own, is_among, key_eq}
use Rattle.sn_streams.specs.Segments.{Segments}
use Rattle.sn_streams.specs.Trees.{Fork}
use Rattle.sn_histories.specs.Entries.{Entry, is_end}
use Rattle.sn_histories.specs.Histories.{In, Out}
use Rattle.sn_histories.specs.Sites.{Into, Step}
use Rattle.sn_net.specs.Dispatchers.{Network, level_key, router}
use Rattle.sn_net.specs.Routable.{IsDispatcher}
use Rattle.sn_net.specs.Route.{key_at, of_record}
use Rattle.sn_net.specs.declared.net.Net.{Net}
use Rattle.sn_net.specs.declared.net.Net.TheOpen.{Net-F}
use Rattle.sn_net.specs.declared.net.Net.TheViews.{out-Net}
use Rattle.sn_net.specs.declared.routing.Key.{Key as NetKey}
use Rattle.sn_view.specs.Parts.{part_at}
use Rattle.sn_view.specs.Placed.{HasBranches}
use Rattle.sn_net.specs.Item.{ModelItem, modelled}
use Rattle.sn_record.specs.declared.item.Item.{Item}
use Rattle.sn_stream.specs.declared.item.StreamItem.TheVariants as stream_item
use Rattle.sn_model.specs.declared.run.Run.{Run}
use Rattle.sn_net_histories.specs.Histories.{IsAtRun, Whole, history}
use Rattle.sn_net_histories.specs.Places.{tree_step}
use Rattle.sn_routed.specs.Spots.{from_form, spot_at}
use Rattle.sn_stream.specs.Ends.{passed}
use Rattle.sn_facts.specs.Forking.{Decides, Merges, to_child}
use Rattle.sn_component.specs.Facts.{history_for}
use Rattle.sn_component.specs.Seen.{given_by}
use Rattle.sn_fork.specs.Seen.{ChildSeen, Forking, came_from, decision_entry, keys_of}

-- the fact holds of each
abbrev pub Each : {A : Type 0} → (A → Type 0) → List A → Type 0
Each P [] = Unit {0}
Each P (x ∷ xs) = P x × Each P xs

-- the ways to a child and back are for the places of that child of the fork at the steps
pub record IsChildAt (run : Run) (steps : List Step) (child : ChildSeen) : Type 0 where
  pub apart : key_eq child.key Own ≡ false
  pub comes : history_for child.to.made ≡ history run (steps ++ Into child.key ∷ []) In
  pub leaves : history_for child.from.made ≡ history run (steps ++ Into child.key ∷ []) Out
  pub begins : IsPrefix (passed child.from.moved) (history_for child.from.made)

-- the steps to it in the run's tree
abbrev pub steps_to : Forking → List Step
steps_to f = map tree_step f.steps

-- the key of an item at a choice, a split, or a level of a star with so many replicas left
abbrev pub key_in : ℕ → Net-F Net → ModelItem → NetKey
key_in left (Net-F.Star place merge body exit guard) = of_record (level_key place exit guard left)
key_in left net = key_at net

abbrev pub place_in : Net-F Net → ℕ
place_in (Net-F.Choice place merge branches faces) = place
place_in (Net-F.Star place merge body exit guard) = place
place_in (Net-F.Split place merge body id) = place
place_in net = 0

-- where it sends items, and what becomes of one that passes its children by
abbrev pub router_of : ℕ → Net-F Net → Router ModelItem
router_of left net = router (place_in net) (key_in left net)

-- At its steps stands the choice, the split or the level of a star that the part at a path is, and one step further what stands behind such
-- a part; with the ends for its places and for those of the children that it has, each of which has a key of its own; a choice has all its branches.
pub record ForksAt (f : Forking) : Type 0 where
  pub net : Net
  pub there : part_at f.run.net f.path ≡ Some net
  pub dispatches : IsDispatcher (out-Net net)
  pub merge : Merge
  pub router : Router ModelItem
  pub child : Key → Network
  pub routes : router ≡ router_of f.left (out-Net net)
  pub seg : Segments ModelItem
  pub at : IsAtRun f.run (steps_to f) (record { part = Fork merge router child; seg = seg })
  pub onward : (step : Step) → spot_at f.run.depth (Whole f.run.net) (steps_to f ++ step ∷ []) ≡ from_form f.left (out-Net net) step
  pub comes : history_for f.input.made ≡ history f.run (steps_to f) In
  pub leaves : history_for f.output.made ≡ history f.run (steps_to f) Out
  pub children : Each (IsChildAt f.run (steps_to f)) f.children
  pub apart : AreDistinct (keys_of f.children)
  pub whole : HasBranches (out-Net net) (keys_of f.children)

-- A fork: its decisions are those on what it has received; to each child it has given the items of its key, each with a mark, and the end;
-- nothing of a key without a child was received but the end; and what it has given is its served decisions with the groups that came.
pub record Forks (f : Forking) : Type 0 where
  pub stands : ForksAt f
  pub received : List (Entry ModelItem)
  pub served : List (Entry ModelItem)
  pub got : passed f.input.moved ≡ received ++ passed f.waiting
  pub begins : IsPrefix (passed f.input.moved) (history_for f.input.made)
  pub decides : Decides stands.router received served (map decision_entry f.decisions)
  pub sends : Each (λ c. given_by c.to c.held ≡ to_child stands.router c.key received) f.children
  pub unheard : (k : Key) → key_eq k Own ≡ false → is_among k (map (λ c. c.key) f.children) ≡ false → to_child stands.router k received ≡ filter is_end received
  pub merges : Merges (came_from f.children) served (map decision_entry f.decisions) (given_by f.output f.held)

-- an item of the key waits, at the part of the run's network that the path names
abbrev pub Wants : Forking → NetKey → Type 0
Wants f key =
    (net : Net) × (item : Item) × (part_at f.run.net f.path ≡ Some net) × (f.waiting ≡ stream_item.Item item ∷ []) × (key_in f.left (out-Net net) (modelled item) ≡ key)
