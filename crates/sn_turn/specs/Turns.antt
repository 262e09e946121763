-- What a turn of a node comes to.
use Rattle.std.specs.Prelude.{◌≡◌, ◌≤◌, ◌<◌, ◌+◌, ◌⊎◌, ℕ, zero, suc, List, [], ◌∷◌, ◌++◌, length, map, Some, None, if◌then◌else◌, unwrap_or}
use Rattle.std.specs.Option.{option_map}
use Rattle.sn_net.specs.declared.net.Net.{Net}
use Rattle.sn_net.specs.declared.net.Net.TheOpen.{Net-F}
use Rattle.sn_net.specs.declared.net.Net.TheViews.{out-Net}
use Rattle.sn_model.specs.declared.run.Run.{Run}
use Rattle.sn_view.specs.Parts.{part_at}
use Rattle.sn_streams.specs.Keys.{Key}
use Rattle.sn_stream.specs.Ends.{Made, WasEmpty, WasFull}
use Rattle.sn_component.specs.Moved.{is_done}
use Rattle.sn_component.specs.Outbox.{Ends, has_ended}
use Rattle.sn_component.specs.declared.moved.Moved.{Moved}
use Rattle.sn_component.specs.declared.moved.Moved.TheVariants as moved
use Rattle.sn_fork.specs.Seen.{Forking}
use Rattle.sn_fork.specs.Turns as fork
use Rattle.sn_fork.specs.Turns.{ChildFull, ways_of}
use Rattle.sn_turn.specs.Kinds.{moves_of, way_out}
use Rattle.sn_turn.specs.Nodes.{Grown, parts_of}
use Rattle.sn_turn.specs.declared.node.Kind.{Kind}
use Rattle.sn_turn.specs.declared.node.Kind.TheVariants as kind
use Rattle.sn_turn.specs.declared.node.Node.{Node}
use Rattle.sn_turn.specs.declared.turned.Turned.{Turned}

-- The fork stays what it is, with its ends; it keeps its children, with their keys and streams, maybe with more behind them, and entries only
-- move.
pub record Unfolds (old new : Forking) : Type 0 where
  pub run : new.run ≡ old.run
  pub path : new.path ≡ old.path
  pub left : new.left ≡ old.left
  pub steps : new.steps ≡ old.steps
  pub input : new.input.made ≡ old.input.made
  pub output : new.output.made ≡ old.output.made
  pub more : List (Key × (Made × Made))
  pub children : map ways_of new.children ≡ map ways_of old.children ++ more
  pub moves : fork.moves_of old ≤ fork.moves_of new

-- the parts that a replica of a star or a split at a path has nodes for: the body, and of a star then the next level
abbrev pub replica_parts : Net-F Net → List ℕ → List (List ℕ)
replica_parts (Net-F.Star place merge body exit guard) path = parts_of body (path ++ 0 ∷ []) ++ path ∷ []
replica_parts (Net-F.Split place merge body id) path = parts_of body (path ++ 0 ∷ [])
replica_parts net path = []

-- the same of the part of a run's network that a path leads to
abbrev pub new_parts : Run → List ℕ → List (List ℕ)
new_parts run path = unwrap_or (option_map (λ net. replica_parts (out-Net net) path) (part_at run.net path)) []

abbrev pub times : ℕ → List (List ℕ) → List (List ℕ)
times zero parts = []
times (suc n) parts = times n parts ++ parts

-- for each new child of a fork its nodes stand behind the others
pub record Spawned (old new : Forking) (before now : List Node) : Type 0 where
  pub count : ℕ
  pub many : length new.children ≡ length old.children + count
  pub grown : Grown before now (times count (new_parts old.run old.path))

-- a node stays what it is, and where it is
abbrev pub GoesOn : Kind → Kind → Type 0
GoesOn (kind.Source s) (kind.Source t) = (t.run ≡ s.run) × (t.output.made ≡ s.output.made)
GoesOn (kind.Component v) (kind.Component w) = (w.run ≡ v.run) × (w.path ≡ v.path) × (w.input.made ≡ v.input.made) × (w.output.made ≡ v.output.made)
GoesOn (kind.Fork f) (kind.Fork g) = Unfolds f g
GoesOn old new = ⊥

-- its way in was found empty, or a way out of it full
abbrev pub MetAnEnd : Kind → Type 0
MetAnEnd (kind.Source s) = WasFull s.output
MetAnEnd (kind.Component w) = WasEmpty w.input ⊎ WasFull w.output
MetAnEnd (kind.Fork f) = WasEmpty f.input ⊎ (WasFull f.output ⊎ ChildFull f)

-- how many children it has
abbrev pub children_of : Kind → ℕ
children_of (kind.Source s) = 0
children_of (kind.Component w) = 0
children_of (kind.Fork f) = length f.children

-- An entry was got or put, or a replica was made; or it met an end; or it passed on the end.
abbrev pub Moves : Kind → Kind → Moved → Type 0
Moves old new moved.Some = (moves_of old < moves_of new) ⊎ (children_of old < children_of new)
Moves old new moved.Idle = MetAnEnd new
Moves old new moved.Done = Ends (way_out new)

-- the nodes of new replicas; only a fork has any
abbrev pub Spawns : Kind → Kind → List Node → Type 0
Spawns (kind.Fork f) (kind.Fork g) nodes = Spawned f g [] nodes
Spawns old new nodes = nodes ≡ []

-- The node went on to what it is then, and is kept, unless it passed on the end: then the end was put, and else it was not.
pub record Went (old : Kind) (turned : Turned) : Type 0 where
  pub new : Kind
  pub goes : GoesOn old new
  pub moved : Moves old new turned.moved
  pub ended : has_ended (way_out new) ≡ is_done turned.moved
  pub node : option_map (λ (n : Node). n.kind) turned.node ≡ (if is_done turned.moved then None else Some new)
  pub spawned : Spawns old new turned.spawned.items
