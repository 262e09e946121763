-- What a part of a network does with an item that comes to it.
use Rattle.std.specs.Prelude.{◌≡◌, ◌<◌, ℕ, ℤ, true, false, List, [], ◌∷◌, ◌++◌, Option, None, Some, length}
use Rattle.sn_record.specs.LabelSet.{Labels}
use Rattle.sn_record.specs.Record.{Entries}
use Rattle.sn_streams.specs.Keys.{Own, Branch, Value}
use Rattle.sn_streams.specs.Machines.{after as follows, emitted}
use Rattle.sn_tagexpr.specs.declared.expr.TagExpr.{TagExpr}
use Rattle.sn_net.specs.declared.routing.Key.{Key}
use Rattle.sn_net.specs.Cell.{CellState}
use Rattle.sn_net.specs.Dispatchers.{Network, level_key, passed_by, stream_key}
use Rattle.sn_net.specs.Item.{ModelItem, Rec}
use Rattle.sn_net.specs.Routable.{IsDispatcher}
use Rattle.sn_net.specs.Route.{choice_key, of_record, record_key, split_key, tap_key}
use Rattle.sn_net.specs.declared.net.Merge.{Merge}
use Rattle.sn_net.specs.declared.net.Net.{Net}
use Rattle.sn_net.specs.declared.net.Net.TheVariants.{Choice, Split}
use Rattle.sn_net.specs.declared.net.Net.TheViews.{out-Net}
use Rattle.sn_pass.specs.Keeping.{Keeping, Same, keeping}
use Rattle.sn_pass.specs.Levels.{goes_inside}

-- A network that keeps `before` gives what it does for the item x behind what was given, and keeps `after`.
pub record Passes (t : Network) (before after : Keeping CellState) (x : ModelItem) (out grown : List ModelItem) : Type 0 where
  pub gives : grown ≡ out ++ (keeping t).emits before x
  pub keeps : Same t after ((keeping t).next before x)

-- The same of items that come one behind the other.
pub record PassesAll (t : Network) (before after : Keeping CellState) (xs out grown : List ModelItem) : Type 0 where
  pub gives : grown ≡ out ++ emitted (keeping t) before xs
  pub keeps : Same t after (follows (keeping t) before xs)

-- an item passed all children of a dispatcher by
pub record PassedBy (place : ℕ) (key : Key) (x : ModelItem) (out grown : List ModelItem) : Type 0 where
  pub past : stream_key key ≡ Own
  pub given : grown ≡ out ++ passed_by place key x ∷ []

-- a record goes to the branch of a number
pub record GoesToBranch (faces : List (List Labels)) (x : ModelItem) (i : ℕ) (r : Entries) (out grown : List ModelItem) : Type 0 where
  pub item : x ≡ Rec r
  pub there : i < length faces
  pub key : stream_key (of_record (choice_key faces) x) ≡ Branch i
  pub nothing : grown ≡ out

-- what a choice does with an item first
abbrev pub IsChosen : ℕ → List (List Labels) → ModelItem → (out grown : List ModelItem) → Option (ℕ × Entries) → Type 0
IsChosen place faces x out grown None = PassedBy place (of_record (choice_key faces) x) x out grown
IsChosen place faces x out grown (Some chosen) = GoesToBranch faces x chosen.0 chosen.1 out grown

-- a record goes to the replica for a value
pub record GoesToReplica (id : ℕ) (x : ModelItem) (n : ℤ) (r : Entries) (out grown : List ModelItem) : Type 0 where
  pub item : x ≡ Rec r
  pub key : stream_key (of_record (split_key id) x) ≡ Value n
  pub nothing : grown ≡ out

-- what a split does with an item first
abbrev pub IsSplit : ℕ → ℕ → ModelItem → (out grown : List ModelItem) → Option (ℤ × Entries) → Type 0
IsSplit place id x out grown None = PassedBy place (of_record (split_key id) x) x out grown
IsSplit place id x out grown (Some chosen) = GoesToReplica id x chosen.0 chosen.1 out grown

-- an item is given out at a tap of a star
pub record LeavesAt (place : ℕ) (key : Key) (x : ModelItem) (out grown : List ModelItem) : Type 0 where
  pub out_of : goes_inside key ≡ false
  pub given : grown ≡ out ++ passed_by place key x ∷ []

-- a record goes inside there
pub record EntersAt (key : Key) (x : ModelItem) (r : Entries) (out grown : List ModelItem) : Type 0 where
  pub item : x ≡ Rec r
  pub inside : goes_inside key ≡ true
  pub nothing : grown ≡ out

-- what becomes of an item at the tap before so many replicas
abbrev pub IsTapped : ℕ → Labels → Option TagExpr → (left : ℕ) → ModelItem → (out grown : List ModelItem) → Option Entries → Type 0
IsTapped place exit guard left x out grown None = LeavesAt place (of_record (level_key place exit guard left) x) x out grown
IsTapped place exit guard left x out grown (Some r) = EntersAt (of_record (level_key place exit guard left) x) x r out grown

-- the network is a dispatcher that sends records as a choice with these faces does
pub record IsAtChoice (net : Net) (faces : List (List Labels)) : Type 0 where
  pub dispatches : IsDispatcher (out-Net net)
  pub keys : (r : Entries) → record_key (out-Net net) r ≡ choice_key faces r

-- as a split by this tag does
pub record IsAtSplit (net : Net) (id : ℕ) : Type 0 where
  pub dispatches : IsDispatcher (out-Net net)
  pub keys : (r : Entries) → record_key (out-Net net) r ≡ split_key id r

-- as a star with this exit and this guard does at its taps
pub record IsAtStar (net : Net) (place : ℕ) (exit : Labels) (guard : Option TagExpr) : Type 0 where
  pub dispatches : IsDispatcher (out-Net net)
  pub keys : (r : Entries) → record_key (out-Net net) r ≡ tap_key place exit guard r

-- the network is a choice at this place of these branches with these faces, merged in one way or the other
abbrev pub IsChoiceOf : Net → ℕ → List Net → List (List Labels) → Type 0
IsChoiceOf net place branches faces = (m : Merge) × (net ≡ Choice place m branches faces)

-- a split at this place into replicas of this body by this tag
abbrev pub IsSplitOf : Net → ℕ → Net → ℕ → Type 0
IsSplitOf net place body id = (m : Merge) × (net ≡ Split place m body id)
