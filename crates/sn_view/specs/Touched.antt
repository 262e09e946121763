-- Which nodes an event writes to.
use Rattle.std.specs.Prelude.{ℕ, suc, ◌==◌, Bool, false, ◌||◌, Option, None, Some, unwrap_or, slice_get}
use Rattle.std.specs.List.{list_any}
use Rattle.std.specs.Option.{option_map}
use Rattle.sn_net.specs.Item.{ModelItem}
use Rattle.sn_view.specs.View.{Entry, It, Mark, Waiting, InFlight, State, Freely, Child, Target, Out, ToNode, ToChild, Node, View, Happening, Take, Start, Finish, Local, Route, Unfold, Merge, Emit, rest_of}
use Rattle.sn_view.specs.Next.{Routing, routing_of, needs, if_node, node_at}

-- the node at which an event happens
abbrev pub happens_at : Happening → Option ℕ
happens_at Take = None
happens_at (Start i) = Some i
happens_at (Finish call number place given) = None
happens_at (Local i) = Some i
happens_at (Route i) = Some i
happens_at (Unfold i) = Some i
happens_at (Merge i c) = Some i
happens_at Emit = None

-- what is sent there comes to node j, or is kept at it
abbrev pub is_sent_to : Target → ℕ → Bool
is_sent_to Out j = false
is_sent_to (ToNode i) j = j == i
is_sent_to (ToChild i c) j = j == i

abbrev pub begins_at : ℕ → Child → Bool
begins_at j child = j == child.entry

-- node j is the first of the child of that number, if that is not child 0
abbrev pub is_first_of : ℕ → Option Child → ℕ → Bool
is_first_of (suc c) (Some child) j = begins_at j child
is_first_of c child j = false

-- Where a dispatcher's first entry goes: an item to its child, and a mark to all children of a free one.
abbrev pub is_routed_to : State → Node → Entry ModelItem → ℕ → ℕ → Bool
is_routed_to st n (It x) c j = is_first_of c (slice_get n.children c) j
is_routed_to (Freely epochs) n Mark c j = list_any (begins_at j) (rest_of n.children)
is_routed_to st n e c j = false

abbrev pub routing_touches : Node → Option Routing → ℕ → Bool
routing_touches n (Some routing) j = unwrap_or (option_map (λ c. is_routed_to n.state n routing.entry c j) (needs n routing)) false
routing_touches n None j = false

abbrev pub is_in_call : ℕ → Waiting → Bool
is_in_call call (InFlight other given) = call == other
is_in_call call w = false

-- THE EVENT WRITES TO NODE j, where its own node and the nodes that it sends to are. Nodes that Unfold makes are new, and not written to.
abbrev pub is_touched : View → Happening → ℕ → Bool
is_touched g Take j = j == 0
is_touched g (Start i) j = j == i
is_touched g (Finish call number place given) j = if_node (λ n. list_any (is_in_call call) n.waiting) false (node_at j g)
is_touched g (Local i) j = j == i || if_node (λ n. is_sent_to n.goes j) false (node_at i g)
is_touched g (Route i) j = j == i || if_node (λ n. routing_touches n (routing_of g n) j) false (node_at i g)
is_touched g (Unfold i) j = j == i
is_touched g (Merge i c) j = j == i || if_node (λ n. is_sent_to n.goes j) false (node_at i g)
is_touched g Emit j = false
