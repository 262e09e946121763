-- What each event makes of a graph, and where it may happen.
use Rattle.std.specs.Prelude.{◌≡◌, IsTrue, ℕ, zero, suc, ◌+◌, ◌==◌, Bool, true, false, not, ◌&&◌, ◌||◌, ◌-◌, if◌then◌else◌, List, [], ◌∷◌, ◌++◌, map, length, slice_get, Option, None, Some, unwrap_or, is_some}
use Rattle.std.specs.List.{Any, list_any, position_from}
use Rattle.std.specs.Option.{option_map}
use Rattle.sn_record.specs.LabelSet.{Labels}
use Rattle.sn_record.specs.Record.{Entries}
use Rattle.sn_streams.specs.Forks.{Router}
use Rattle.sn_streams.specs.Keys.{Key as StreamKey, key_eq}
use Rattle.sn_streams.specs.Keys as key
use Rattle.sn_view.specs.Epochs.{Epochs, marked, stands_at_output, is_passed, moved_on, closed, with_child}
use Rattle.sn_net.specs.declared.net.Net.{Net}
use Rattle.sn_net.specs.declared.net.Net.TheOpen.{Net-F}
use Rattle.sn_net.specs.declared.net.Net.TheViews.{out-Net}
use Rattle.sn_net.specs.Cell.{CellState, cell_next, cell_emits}
use Rattle.sn_net.specs.Dispatchers.{router, level_key}
use Rattle.sn_net.specs.Item.{ModelItem, Rec, Fault, Stuck}
use Rattle.sn_net.specs.Route.{of_record, choice_key, split_key}
use Rattle.sn_model.specs.declared.run.Run.{Run}
use Rattle.sn_model.specs.Components.{filter_item, box_item}
use Rattle.sn_model.specs.Run.{boxes_of, depth_of, fuel_of, input_of, net_of}
use Rattle.sn_model.specs.declared.step.Step.TheVariants as step
use Rattle.sn_view.specs.View.{Entry, It, Mark, End, Waiting, Plain, InFlight, Finished, Turn, To, Own, State, Alone, Cell, InTurn, Freely, Child, Target, Out, ToNode, ToChild, Node, View, Happening, Take, Start, Finish, Local, Route, Unfold, Merge, Emit, changed_at, at_node, first_of, rest_of, waits_more, child_gives}
use Rattle.sn_view.specs.Parts.{part_at, plan, dispatcher, own_child}

-- items as entries
abbrev pub items : List ModelItem → List (Entry ModelItem)
items = map (λ item. It item)

-- entries as they wait at a node
abbrev pub plain : List (Entry ModelItem) → List Waiting
plain = map (λ entry. Plain entry)

-- the graph with entries put where a node sends them
abbrev pub send : Target → List (Entry ModelItem) → View → View
send Out o g = record g { ready = g.ready ++ o }
send (ToNode n) o g = at_node n (waits_more (plain o)) g
send (ToChild n c) o g = at_node n (child_gives c o) g

-- with a node changed, and then entries that it gives sent on
abbrev pub gives : ℕ → (Node → Node) → Target → List (Entry ModelItem) → View → View
gives i f goes o g = send goes o (at_node i f g)

-- the node without its first entry
abbrev pub passed : Node → Node
passed n = record n { waiting = rest_of n.waiting }

abbrev pub keeps : State → Node → Node
keeps state n = record n { state = state }

-- one level of the part of the network that a node is
abbrev pub form_of : View → Node → Option (Net-F Net)
form_of g n = option_map out-Net (part_at (net_of g.run) n.path)

abbrev pub node_at : ℕ → View → Option Node
node_at i g = slice_get g.nodes i

-- Take: the next input item, or the end, comes in at the first node.
abbrev pub comes_in : Entry ModelItem → View → View
comes_in e g = send (ToNode 0) (e ∷ []) g

abbrev pub took : Option ModelItem → View → View
took (Some x) g = comes_in (It x) (record g { taken = g.taken + 1 })
took None g = comes_in End (record g { ended = true })

abbrev pub next_input : View → Option ModelItem
next_input g = slice_get (input_of g.run) g.taken

abbrev pub may_take : View → Bool
may_take g = is_some (next_input g) || not g.ended

-- Start: the first record at a box that has no call gets the next one.
abbrev pub has_no_call : Waiting → Bool
has_no_call (Plain (It (Rec r))) = true
has_no_call other = false

abbrev pub in_call : ℕ → Waiting → Waiting
in_call call (Plain (It (Rec r))) = InFlight call r
in_call call other = other

abbrev pub first_called : ℕ → List Waiting → List Waiting
first_called call [] = []
first_called call (w ∷ ws) = if has_no_call w then in_call call w ∷ ws else w ∷ first_called call ws

abbrev pub is_box : Option (Net-F Net) → Bool
is_box (Some (Net-F.Box place number)) = true
is_box other = false

abbrev pub may_start : View → Node → Bool
may_start g n = is_box (form_of g n) && list_any has_no_call n.waiting

abbrev pub started : ℕ → View → View
started i g = at_node i (λ n. record n { waiting = first_called g.calls n.waiting }) (record g { calls = g.calls + 1 })

-- Finish: the call of that number is finished, wherever it is in flight.
abbrev pub with_answer : ℕ → Waiting → Waiting
with_answer call (InFlight other given) = if call == other then Finished given else InFlight other given
with_answer call w = w

abbrev pub gets_answer : ℕ → Node → Node
gets_answer call n = record n { waiting = map (with_answer call) n.waiting }

abbrev pub finished : ℕ → View → View
finished call g = record g { nodes = map (gets_answer call) g.nodes }

-- Local: a component passes its first entry on.
pub record Given : Type 0 where
  pub state : State
  pub entries : List (Entry ModelItem)

-- an item is answered; a mark and the end pass
abbrev pub answering_entry : (ModelItem → List ModelItem) → Entry ModelItem → List (Entry ModelItem)
answering_entry answer (It x) = items (answer x)
answering_entry answer Mark = Mark ∷ []
answering_entry answer End = End ∷ []

-- a box passes on its answer to the record of a finished call, and what is no record
abbrev pub box_gives : (ModelItem → List ModelItem) → Waiting → Option (List (Entry ModelItem))
box_gives answer (Finished given) = Some (items (answer (Rec given)))
box_gives answer (Plain (It (Fault fault))) = Some (It (Fault fault) ∷ [])
box_gives answer (Plain (It (Stuck place))) = Some (It (Stuck place) ∷ [])
box_gives answer (Plain Mark) = Some (Mark ∷ [])
box_gives answer (Plain End) = Some (End ∷ [])
box_gives answer other = None

-- the state of a cell after an entry
abbrev pub cell_after : List Labels → CellState → Entry ModelItem → CellState
cell_after patterns cell (It x) = cell_next patterns cell x
cell_after patterns cell Mark = cell
cell_after patterns cell End = cell

abbrev pub local_step : Run → Option (Net-F Net) → State → Option Waiting → Option Given
local_step run (Some (Net-F.Box place number)) Alone (Some w) =
    option_map (λ o. record { state = Alone; entries = o }) (box_gives (box_item (boxes_of run) (fuel_of run) place number) w)
local_step run (Some (Net-F.Filter filter)) Alone (Some (Plain e)) = Some (record { state = Alone; entries = answering_entry (filter_item filter) e })
local_step run (Some (Net-F.Sync place own)) (Cell patterns cell) (Some (Plain e)) =
    Some (record { state = Cell patterns (cell_after patterns cell e); entries = answering_entry (cell_emits place patterns cell) e })
local_step run other state w = None

abbrev pub local_of : View → Node → Option Given
local_of g n = local_step g.run (form_of g n) n.state (first_of n.waiting)

abbrev pub local_then : ℕ → Node → View → Option Given → View
local_then i n g (Some given) = gives i (λ n. keeps given.state (passed n)) n.goes given.entries g
local_then i n g None = g

-- Route: a dispatcher sends its first entry to a child, or past all.
abbrev pub router_of : Option (Net-F Net) → ℕ → Option (Router ModelItem)
router_of (Some (Net-F.Choice place merge branches faces)) left = Some (router place (of_record (choice_key faces)))
router_of (Some (Net-F.Star place merge body exit guard)) left = Some (router place (of_record (level_key place exit guard left)))
router_of (Some (Net-F.Split place merge body id)) left = Some (router place (of_record (split_key id)))
router_of other left = None

abbrev pub has_key : StreamKey → Child → Bool
has_key k child = key_eq k child.key

-- the number of the child with a key
abbrev pub child_of : List Child → StreamKey → Option ℕ
child_of children k = position_from (has_key k) 0 children

-- the key by which an entry goes; what is no item goes by child 0
abbrev pub key_of : Router ModelItem → Entry ModelItem → StreamKey
key_of r (It x) = r.key x
key_of r Mark = key.Own
key_of r End = key.Own

-- the first entry of a dispatcher, with how it routes
pub record Routing : Type 0 where
  pub router : Router ModelItem
  pub entry : Entry ModelItem

abbrev pub plain_entry : Option Waiting → Option (Entry ModelItem)
plain_entry (Some (Plain e)) = Some e
plain_entry other = None

abbrev pub both : Option (Router ModelItem) → Option (Entry ModelItem) → Option Routing
both (Some r) (Some e) = Some (record { router = r; entry = e })
both r e = None

abbrev pub routing_of : View → Node → Option Routing
routing_of g n = both (router_of (form_of g n) n.left) (plain_entry (first_of n.waiting))

-- whether the state is a dispatcher's
abbrev pub is_fork : State → Bool
is_fork (InTurn decisions) = true
is_fork (Freely epochs) = true
is_fork other = false

-- the child that the first entry needs: whether it is there, is not there, or there is no such entry
abbrev pub needs : Node → Routing → Option ℕ
needs n routing = child_of n.children (key_of routing.router routing.entry)

abbrev pub may_route : Node → Option Routing → Bool
may_route n (Some routing) = is_fork n.state && is_some (needs n routing)
may_route n None = false

abbrev pub may_unfold_then : Node → Option Routing → Bool
may_unfold_then n (Some routing) = is_fork n.state && not (is_some (needs n routing))
may_unfold_then n None = false

-- what a deterministic dispatcher decides of an item
abbrev pub turn_of : StreamKey → ModelItem → Turn
turn_of key.Own y = Own y
turn_of k y = To k

abbrev pub decision_of : Router ModelItem → Entry ModelItem → Entry Turn
decision_of r (It x) = It (turn_of (r.key x) (r.own x))
decision_of r Mark = Mark
decision_of r End = End

-- what its child gets: the item, and a mark behind it, which ends the item's group
abbrev pub group_of : Entry ModelItem → List (Entry ModelItem)
group_of (It x) = It x ∷ Mark ∷ []
group_of Mark = []
group_of End = []

-- entries put at the node of the child of a number, if that is not child 0
abbrev pub to_entry : ℕ → List (Entry ModelItem) → Option Child → View → View
to_entry zero o child g = g
to_entry (suc c) o (Some child) g = send (ToNode child.entry) o g
to_entry (suc c) o None g = g

abbrev pub to_child : Node → ℕ → List (Entry ModelItem) → View → View
to_child n c o g = to_entry c o (slice_get n.children c) g

-- entries put at the nodes of all of these children
abbrev pub to_all : List Child → List (Entry ModelItem) → View → View
to_all [] o g = g
to_all (child ∷ children) o g = to_all children o (send (ToNode child.entry) o g)

abbrev pub decides : List (Entry Turn) → Entry Turn → Node → Node
decides ds d n = keeps (InTurn (ds ++ d ∷ [])) (passed n)

abbrev pub det_routes : ℕ → Node → List (Entry Turn) → Routing → ℕ → View → View
det_routes i n ds routing c g =
    to_child n c (group_of routing.entry) (at_node i (decides ds (decision_of routing.router routing.entry)) g)

-- an item that goes to no child waits at child 0, and so does the end. A mark waits there too, and goes to all other children,
-- whose epochs it ends. The end goes to no other child.
abbrev pub free_routes : ℕ → Node → Epochs → Router ModelItem → Entry ModelItem → ℕ → View → View
free_routes i n epochs r (It x) zero g = at_node i (λ n. child_gives 0 (It (r.own x) ∷ []) (passed n)) g
free_routes i n epochs r (It x) (suc c) g = to_child n (suc c) (It x ∷ []) (at_node i passed g)
free_routes i n epochs r Mark c g =
    to_all (rest_of n.children) (Mark ∷ [])
    (at_node i (λ n. keeps (Freely (closed epochs)) (child_gives 0 (Mark ∷ []) (passed n))) g)
free_routes i n epochs r End c g = at_node i (λ n. child_gives 0 (End ∷ []) (passed n)) g

abbrev pub routes_by : ℕ → Node → State → Routing → ℕ → View → View
routes_by i n (InTurn ds) routing c g = det_routes i n ds routing c g
routes_by i n (Freely epochs) routing c g = free_routes i n epochs routing.router routing.entry c g
routes_by i n other routing c g = g

abbrev pub routed : ℕ → Node → Option Routing → View → View
routed i n None g = g
routed i n (Some routing) g = unwrap_or (option_map (λ c. routes_by i n n.state routing c g) (needs n routing)) g

-- Unfold: the child of a key is made, with new nodes behind all others.
abbrev pub more_children : StreamKey → ℕ → Node → Node
more_children k entry n = record n { children = n.children ++ record { key = k; entry = entry; kept = [] } ∷ [] }

-- a new child of a free dispatcher stands in the input's epoch
abbrev pub with_epoch : State → State
with_epoch (Freely epochs) = Freely (with_child epochs)
with_epoch other = other

abbrev pub adds_child : StreamKey → ℕ → Node → Node
adds_child k entry n = keeps (with_epoch n.state) (more_children k entry n)

-- the nodes of the new child, the first of which is at `base`: the body, and behind that of a star the next level
abbrev pub new_nodes : ℕ → Option (Net-F Net) → StreamKey → ℕ → Node → ℕ → List Node
new_nodes depth (Some (Net-F.Star place merge body exit guard)) k i n base =
    (plan depth body).nodes (n.steps ++ step.Inside ∷ step.Left ∷ []) (n.path ++ 0 ∷ []) (ToNode (base + (plan depth body).width)) base
    ++ dispatcher merge (n.left - 1) (own_child (base + (plan depth body).width) ∷ []) (n.steps ++ step.Inside ∷ step.Right ∷ []) n.path (ToChild i (length n.children))
    ∷ []
new_nodes depth (Some (Net-F.Split place merge body id)) (key.Value v) i n base =
    (plan depth body).nodes (n.steps ++ step.Value v ∷ []) (n.path ++ 0 ∷ []) (ToChild i (length n.children)) base
new_nodes depth other k i n base = []

abbrev pub unfolded_by : ℕ → Node → StreamKey → View → View
unfolded_by i n k g =
    record g { nodes = changed_at i (adds_child k (length g.nodes)) g.nodes ++ new_nodes (depth_of g.run) (form_of g n) k i n (length g.nodes) }

abbrev pub unfolded : ℕ → Node → Option Routing → View → View
unfolded i n None g = g
unfolded i n (Some routing) g = unfolded_by i n (key_of routing.router routing.entry) g

-- Merge: the first entry that waits of a child's output goes on.
abbrev pub kept_of : List Child → ℕ → List (Entry ModelItem)
kept_of children c = unwrap_or (option_map (λ child. child.kept) (slice_get children c)) []

abbrev pub takes_kept : ℕ → Node → Node
takes_kept c n = record n { children = changed_at c (λ child. record child { kept = rest_of child.kept }) n.children }

-- whether the first decision is of this child. Child 0 stands for what passes the others by.
abbrev pub is_turn_of : Option (Entry Turn) → ℕ → Option Child → Bool
is_turn_of (Some (It (To k))) (suc c) (Some child) = key_eq k child.key
is_turn_of (Some (It (Own y))) zero child = true
is_turn_of (Some Mark) zero child = true
is_turn_of (Some End) zero child = true
is_turn_of d c child = false

-- child 0 of a deterministic dispatcher has its entry in the decision itself
abbrev pub has_entry : ℕ → Option Child → Bool
has_entry zero child = true
has_entry (suc c) (Some child) = is_some (first_of child.kept)
has_entry (suc c) None = false

-- A deterministic dispatcher serves its decisions in order: the first is of the child, which has an entry. A free one takes from
-- any child in the output's epoch that has one.
abbrev pub may_merge_by : State → ℕ → Option Child → Bool
may_merge_by (InTurn ds) c child = is_turn_of (first_of ds) c child && has_entry c child
may_merge_by (Freely epochs) c (Some child) = stands_at_output epochs c && is_some (first_of child.kept)
may_merge_by other c child = false

abbrev pub may_merge : Node → ℕ → Bool
may_merge n c = may_merge_by n.state c (slice_get n.children c)

-- an item of the group that is served comes out; the group's mark ends it
abbrev pub group_gives : ℕ → Node → ℕ → List (Entry Turn) → Option (Entry ModelItem) → View → View
group_gives i n c ds (Some (It y)) g = gives i (takes_kept c) n.goes (It y ∷ []) g
group_gives i n c ds (Some Mark) g = at_node i (λ n. keeps (InTurn (rest_of ds)) (takes_kept c n)) g
group_gives i n c ds (Some End) g = at_node i (takes_kept c) g
group_gives i n c ds None g = g

-- the first decision: what passes the children by comes out, and of a child's group the first entry
abbrev pub det_merges : ℕ → Node → ℕ → List (Entry Turn) → Option (Entry Turn) → View → View
det_merges i n c ds (Some (It (Own y))) g = gives i (keeps (InTurn (rest_of ds))) n.goes (It y ∷ []) g
det_merges i n c ds (Some (It (To k))) g = group_gives i n c ds (first_of (kept_of n.children c)) g
det_merges i n c ds (Some Mark) g = gives i (keeps (InTurn (rest_of ds))) n.goes (Mark ∷ []) g
det_merges i n c ds (Some End) g = gives i (keeps (InTurn (rest_of ds))) n.goes (End ∷ []) g
det_merges i n c ds None g = g

-- a child's mark puts it an epoch on. Where it was the last to pass the output's epoch, a mark goes out, and the output moves on.
abbrev pub mark_passes : ℕ → Node → ℕ → Epochs → View → View
mark_passes i n c e g =
    if is_passed e then gives i (λ n. keeps (Freely (moved_on e)) (takes_kept c n)) n.goes (Mark ∷ []) g
    else at_node i (λ n. keeps (Freely e) (takes_kept c n)) g

abbrev pub free_merges : ℕ → Node → ℕ → Epochs → Option (Entry ModelItem) → View → View
free_merges i n c epochs (Some (It y)) g = gives i (takes_kept c) n.goes (It y ∷ []) g
free_merges i n c epochs (Some Mark) g = mark_passes i n c (marked c epochs) g
free_merges i n c epochs (Some End) g = gives i (takes_kept c) n.goes (End ∷ []) g
free_merges i n c epochs None g = g

abbrev pub merges_by : ℕ → Node → ℕ → State → View → View
merges_by i n c (InTurn ds) g = det_merges i n c ds (first_of ds) g
merges_by i n c (Freely epochs) g = free_merges i n c epochs (first_of (kept_of n.children c)) g
merges_by i n c other g = g

-- Emit: the first entry at the root comes out. A mark, which there is none at the root, and the end leave nothing behind.
abbrev pub emitted : Option (Entry ModelItem) → View → View
emitted (Some (It y)) g = record g { ready = rest_of g.ready; out = g.out ++ y ∷ [] }
emitted (Some Mark) g = record g { ready = rest_of g.ready }
emitted (Some End) g = record g { ready = rest_of g.ready }
emitted None g = g

-- with the node at i, if there is one
abbrev pub if_node : {A : Type 0} → (Node → A) → A → Option Node → A
if_node f otherwise None = otherwise
if_node f otherwise (Some n) = f n

-- the call is in flight with this record
abbrev pub IsCall : ℕ → Entries → Waiting → Type 0
IsCall call given w = w ≡ InFlight call given

abbrev pub is_box_of : ℕ → ℕ → Option (Net-F Net) → Bool
is_box_of number place (Some (Net-F.Box at own)) = number == own && place == at
is_box_of number place other = false

-- the node is a box with this number and place, at which the call is in flight with this record
pub record HasCall (g : View) (call number place : ℕ) (given : Entries) (n : Node) : Type 0 where
  pub at_box : IsTrue (is_box_of number place (form_of g n))
  pub flies : Any (IsCall call given) n.waiting

-- WHERE AN EVENT MAY HAPPEN, but for Finish
abbrev pub enabled : View → Happening → Bool
enabled g Take = may_take g
enabled g (Start i) = if_node (may_start g) false (node_at i g)
enabled g (Finish call number place given) = false
enabled g (Local i) = if_node (λ n. is_some (local_of g n)) false (node_at i g)
enabled g (Route i) = if_node (λ n. may_route n (routing_of g n)) false (node_at i g)
enabled g (Unfold i) = if_node (λ n. may_unfold_then n (routing_of g n)) false (node_at i g)
enabled g (Merge i c) = if_node (λ n. may_merge n c) false (node_at i g)
enabled g Emit = is_some (first_of g.ready)

-- A result is wanted where its call is in flight.
abbrev pub IsEnabled : View → Happening → Type 0
IsEnabled g (Finish call number place given) = Any (HasCall g call number place given) g.nodes
IsEnabled g Take = IsTrue (enabled g Take)
IsEnabled g (Start i) = IsTrue (enabled g (Start i))
IsEnabled g (Local i) = IsTrue (enabled g (Local i))
IsEnabled g (Route i) = IsTrue (enabled g (Route i))
IsEnabled g (Unfold i) = IsTrue (enabled g (Unfold i))
IsEnabled g (Merge i c) = IsTrue (enabled g (Merge i c))
IsEnabled g Emit = IsTrue (enabled g Emit)

-- WHAT THE GRAPH IS AFTER IT, but for the number of events
abbrev pub after : View → Happening → View
after g Take = took (next_input g) g
after g (Start i) = started i g
after g (Finish call number place given) = finished call g
after g (Local i) = if_node (λ n. local_then i n g (local_of g n)) g (node_at i g)
after g (Route i) = if_node (λ n. routed i n (routing_of g n) g) g (node_at i g)
after g (Unfold i) = if_node (λ n. unfolded i n (routing_of g n) g) g (node_at i g)
after g (Merge i c) = if_node (λ n. merges_by i n c n.state g) g (node_at i g)
after g Emit = emitted (first_of g.ready) g

abbrev pub Next : View → Happening → View
Next g e = let next : View = after g e in record next { applied = g.applied + 1 }

-- a graph to which nothing happened yet
abbrev pub start_view : Run → View
start_view run = record {
  run = run;
  nodes = (plan (depth_of run) (net_of run)).nodes [] [] Out 0;
  applied = 0;
  calls = 0;
  taken = 0;
  ended = false;
  ready = [];
  out = [];
}
