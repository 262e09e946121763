-- What routing its first entry makes of a dispatcher, and what it sends.
use Rattle.std.specs.Prelude.{ℕ, zero, suc, List, [], ◌∷◌, Option, None, Some, slice_get}
use Rattle.sn_streams.specs.Forks.{Router}
use Rattle.sn_view.specs.Epochs.{Epochs, closed}
use Rattle.sn_net.specs.Item.{ModelItem}
use Rattle.sn_view.specs.View.{Entry, It, Mark, End, Turn, State, InTurn, Freely, Child, Node, View, ToNode, child_gives, rest_of}
use Rattle.sn_view.specs.Next.{Routing, decides, decision_of, keeps, passed, needs, send, to_all}

-- where entries are sent
pub data Sends : Type 0 where
  Nowhere : Sends
  ToEntry : (node : ℕ) → (entries : List (Entry ModelItem)) → Sends
  ToAll : (children : List Child) → (entries : List (Entry ModelItem)) → Sends

abbrev pub sent : Sends → View → View
sent Nowhere g = g
sent (ToEntry node es) g = send (ToNode node) es g
sent (ToAll children es) g = to_all children es g

pub record Routed : Type 0 where
  pub node : Node
  pub sends : Sends

-- to the node of a child, if that is not child 0
abbrev pub to_child_of : ℕ → List (Entry ModelItem) → Option Child → Sends
to_child_of zero es child = Nowhere
to_child_of (suc c) es (Some child) = ToEntry child.entry es
to_child_of (suc c) es None = Nowhere

abbrev pub det_routed : Node → List (Entry Turn) → Router ModelItem → Entry ModelItem → ℕ → Option Child → Routed
det_routed n ds r (It x) c child = record { node = decides ds (decision_of r (It x)) n; sends = to_child_of c (It x ∷ Mark ∷ []) child }
det_routed n ds r Mark c child = record { node = decides ds Mark n; sends = Nowhere }
det_routed n ds r End c child = record { node = decides ds End n; sends = Nowhere }

abbrev pub free_routed : Node → Epochs → Router ModelItem → Entry ModelItem → ℕ → Option Child → Routed
free_routed n e r (It x) zero child = record { node = child_gives 0 (It (r.own x) ∷ []) (passed n); sends = Nowhere }
free_routed n e r (It x) (suc c) child = record { node = passed n; sends = to_child_of (suc c) (It x ∷ []) child }
free_routed n e r Mark c child = record { node = keeps (Freely (closed e)) (child_gives 0 (Mark ∷ []) (passed n)); sends = ToAll (rest_of n.children) (Mark ∷ []) }
free_routed n e r End c child = record { node = child_gives 0 (End ∷ []) (passed n); sends = Nowhere }

abbrev pub state_routed : Node → State → Router ModelItem → Entry ModelItem → ℕ → Option Child → Option Routed
state_routed n (InTurn ds) r e c child = Some (det_routed n ds r e c child)
state_routed n (Freely es) r e c child = Some (free_routed n es r e c child)
state_routed n other r e c child = None

abbrev pub child_routed : Node → Routing → Option ℕ → Option Routed
child_routed n r None = None
child_routed n r (Some c) = state_routed n n.state r.router r.entry c (slice_get n.children c)

-- what comes of a dispatcher with this routing
abbrev pub routed_node : Node → Option Routing → Option Routed
routed_node n None = None
routed_node n (Some r) = child_routed n r (needs n r)
