-- A graph as its callers see it.
use Rattle.std.specs.Prelude.{ℕ, zero, suc, Bool, List, [], ◌∷◌, ◌++◌, Option, None, Some}
use Rattle.sn_record.specs.Record.{Entries}
use Rattle.sn_streams.specs.Keys.{Key}
use Rattle.sn_record.specs.LabelSet.{Labels}
use Rattle.sn_net.specs.Cell.{CellState}
use Rattle.sn_net.specs.Item.{ModelItem}
use Rattle.sn_view.specs.Epochs.{Epochs}
use Rattle.sn_model.specs.declared.run.Run.{Run}
use Rattle.sn_model.specs.declared.step.Step.{Step}

-- What stands in a stream between two nodes: an item, a border of an enclosing deterministic dispatcher, or the end.
pub data Entry (A : Type 0) : Type 0 where
  It : (item : A) → Entry A
  Mark : Entry A
  End : Entry A

-- What waits at a node. At a box a record may have a call, which is in flight, or finished: what it answered
-- is the box's answer to that record (Next).
pub data Waiting : Type 0 where
  Plain : (entry : Entry ModelItem) → Waiting
  InFlight : (call : ℕ) → (given : Entries) → Waiting
  Finished : (given : Entries) → Waiting

-- What a deterministic dispatcher decided of an item: it went to the child of a key, or passes the children by as this.
pub data Turn : Type 0 where
  To : (key : Key) → Turn
  Own : (item : ModelItem) → Turn

-- What a node keeps from one entry to the next.
pub data State : Type 0 where
  -- a box or a filter
  Alone : State
  -- a synchrocell
  Cell : (patterns : List Labels) → (cell : CellState) → State
  -- a deterministic dispatcher
  InTurn : (decisions : List (Entry Turn)) → State
  -- a free one
  Freely : (epochs : Epochs) → State

-- A child of a dispatcher: its key, the node at which its items come in, and what waits of its output. Child 0 is what passes
-- the others by; it has the key Own, and no items go to its node.
pub record Child : Type 0 where
  pub key : Key
  pub entry : ℕ
  pub kept : List (Entry ModelItem)

-- Where what a node gives goes: out of the network, to a node, or to what is kept of a child.
pub data Target : Type 0 where
  Out : Target
  ToNode : (node : ℕ) → Target
  ToChild : (node : ℕ) → (child : ℕ) → Target

-- A node: its steps, the path to the part of the network that it is (Parts), how many replicas a star has left here, where
-- what it gives goes, what waits at it, what it keeps, and its children, by their numbers. Others than dispatchers have no
-- children.
pub record Node : Type 0 where
  pub steps : List Step
  pub path : List ℕ
  pub left : ℕ
  pub goes : Target
  pub waiting : List Waiting
  pub state : State
  pub children : List Child

-- A graph: the run that started it, its nodes, how many events were applied, calls started and input items taken, whether the
-- end was taken, what waits at the root for the output, and what was emitted.
pub record View : Type 0 where
  pub run : Run
  pub nodes : List Node
  pub applied : ℕ
  pub calls : ℕ
  pub taken : ℕ
  pub ended : Bool
  pub ready : List (Entry ModelItem)
  pub out : List ModelItem

-- What may happen to a graph. A result that is given back has the number, the box, the place and the record of its call.
pub data Happening : Type 0 where
  Take : Happening
  Start : (node : ℕ) → Happening
  Finish : (call number place : ℕ) → (given : Entries) → Happening
  Local : (node : ℕ) → Happening
  Route : (node : ℕ) → Happening
  Unfold : (node : ℕ) → Happening
  Merge : (node : ℕ) → (child : ℕ) → Happening
  Emit : Happening

-- the list with its i-th element changed, if there is one
abbrev pub changed_at : {X : Type 0} → ℕ → (X → X) → List X → List X
changed_at i f [] = []
changed_at zero f (x ∷ xs) = f x ∷ xs
changed_at (suc i) f (x ∷ xs) = x ∷ changed_at i f xs

-- the graph with one node changed
abbrev pub at_node : ℕ → (Node → Node) → View → View
at_node i f g = record g { nodes = changed_at i f g.nodes }

-- the node without the entry that is first
abbrev pub rest_of : {X : Type 0} → List X → List X
rest_of [] = []
rest_of (x ∷ xs) = xs

abbrev pub first_of : {X : Type 0} → List X → Option X
first_of [] = None
first_of (x ∷ xs) = Some x

-- the node with entries put behind what waits at it
abbrev pub waits_more : List Waiting → Node → Node
waits_more o n = record n { waiting = n.waiting ++ o }

abbrev pub keeps_more : List (Entry ModelItem) → Child → Child
keeps_more o c = record c { kept = c.kept ++ o }

-- the node with entries put behind what is kept of a child
abbrev pub child_gives : ℕ → List (Entry ModelItem) → Node → Node
child_gives c o n = record n { children = changed_at c (keeps_more o) n.children }
