-- What comes out of a graph by an event.
use Rattle.std.proofs.Common.{◌≡◌, ℕ, zero, suc, Bool, true, false, List, [], ◌∷◌, ◌++◌, Option, None, Some, refl, sym, ap, ◌∙◌, append-nil}
use Rattle.std.specs.Prelude.{if◌then◌else◌, unwrap_or}
use Rattle.std.specs.Option.{option_map}
use Rattle.sn_net.specs.Item.{ModelItem}
use Rattle.sn_streams.specs.Forks.{Router}
use Rattle.sn_model.specs.declared.run.Run.{Run}
use Rattle.sn_view.specs.Epochs.{Epochs, closed, marked, moved_on, is_passed}
use Rattle.sn_view.specs.Next.{Given, Next, Routing, after, decides, decision_of, det_merges, free_merges, free_routes, gives, group_gives, group_of, if_node, keeps, kept_of, local_of, local_then, merges_by, needs, node_at, passed, routed, routes_by, routing_of, send, takes_kept, to_all, to_entry, took, next_input, unfolded}
use Rattle.sn_view.specs.View.{Entry, It, Mark, End, State, Alone, Cell, InTurn, Freely, Turn, To, Own, Child, Target, Out, ToNode, ToChild, Node, View, Happening, Take, Start, Finish, Local, Route, Unfold, Merge, Emit, at_node, first_of, rest_of, child_gives}
use Rattle.sn_graph.specs.Event.{ComesOf}
use Rattle.sn_graph.specs.declared.event.Effect.{Effect}
use Rattle.sn_graph.specs.declared.event.Effect.TheVariants as effect
use Rattle.sn_event_lines.specs.Told.{came_out}

-- what came out stays, wherever entries are sent
send_out : (goes : Target) (o : List (Entry ModelItem)) (g : View) → (send goes o g).out ≡ g.out
send_out Out o g = refl
send_out (ToNode n) o g = refl
send_out (ToChild n c) o g = refl

took_out : (x : Option ModelItem) (g : View) → (took x g).out ≡ g.out
took_out (Some x) g = refl
took_out None g = refl

local_out : (i : ℕ) (n : Node) (g : View) (o : Option Given) → (local_then i n g o).out ≡ g.out
local_out i n g (Some given) = send_out n.goes given.entries (at_node i (λ n. keeps given.state (passed n)) g)
local_out i n g None = refl

entry_out : (c : ℕ) (o : List (Entry ModelItem)) (child : Option Child) (g : View) → (to_entry c o child g).out ≡ g.out
entry_out zero o child g = refl
entry_out (suc c) o (Some child) g = refl
entry_out (suc c) o None g = refl

all_out : (children : List Child) (o : List (Entry ModelItem)) (g : View) → (to_all children o g).out ≡ g.out
all_out [] o g = refl
all_out (child ∷ children) o g = all_out children o (send (ToNode child.entry) o g)

free_out : (i : ℕ) (n : Node) (epochs : Epochs) (r : Router ModelItem) (e : Entry ModelItem) (c : ℕ) (g : View) → (free_routes i n epochs r e c g).out ≡ g.out
free_out i n epochs r (It x) zero g = refl
free_out i n epochs r (It x) (suc c) g = entry_out (suc c) (It x ∷ []) _ (at_node i passed g)
free_out i n epochs r Mark c g = all_out (rest_of n.children) (Mark ∷ []) (at_node i (λ n. keeps (Freely (closed epochs)) (child_gives 0 (Mark ∷ []) (passed n))) g)
free_out i n epochs r End c g = refl

routes_out : (i : ℕ) (n : Node) (state : State) (routing : Routing) (c : ℕ) (g : View) → (routes_by i n state routing c g).out ≡ g.out
routes_out i n Alone routing c g = refl
routes_out i n (Cell patterns cell) routing c g = refl
routes_out i n (InTurn ds) routing c g = entry_out c (group_of routing.entry) _ (at_node i (decides ds (decision_of routing.router routing.entry)) g)
routes_out i n (Freely epochs) routing c g = free_out i n epochs routing.router routing.entry c g

routed_out : (i : ℕ) (n : Node) (o : Option Routing) (g : View) → (routed i n o g).out ≡ g.out
routed_out i n None g = refl
routed_out i n (Some routing) g = by (needs n routing)
  where
    by : (c : Option ℕ) → (unwrap_or (option_map (λ c. routes_by i n n.state routing c g) c) g).out ≡ g.out
    by (Some c) = routes_out i n n.state routing c g
    by None = refl

unfolded_out : (i : ℕ) (n : Node) (o : Option Routing) (g : View) → (unfolded i n o g).out ≡ g.out
unfolded_out i n None g = refl
unfolded_out i n (Some routing) g = refl

group_out : (i : ℕ) (n : Node) (c : ℕ) (ds : List (Entry Turn)) (e : Option (Entry ModelItem)) (g : View) → (group_gives i n c ds e g).out ≡ g.out
group_out i n c ds (Some (It y)) g = send_out n.goes (It y ∷ []) (at_node i (takes_kept c) g)
group_out i n c ds (Some Mark) g = refl
group_out i n c ds (Some End) g = refl
group_out i n c ds None g = refl

turn_out : (i : ℕ) (n : Node) (c : ℕ) (ds : List (Entry Turn)) (d : Option (Entry Turn)) (g : View) → (det_merges i n c ds d g).out ≡ g.out
turn_out i n c ds (Some (It (Own y))) g = send_out n.goes (It y ∷ []) (at_node i (keeps (InTurn (rest_of ds))) g)
turn_out i n c ds (Some (It (To k))) g = group_out i n c ds (first_of (kept_of n.children c)) g
turn_out i n c ds (Some Mark) g = send_out n.goes (Mark ∷ []) (at_node i (keeps (InTurn (rest_of ds))) g)
turn_out i n c ds (Some End) g = send_out n.goes (End ∷ []) (at_node i (keeps (InTurn (rest_of ds))) g)
turn_out i n c ds None g = refl

mark_out : (i : ℕ) (n : Node) (c : ℕ) (e : Epochs) (passed : Bool) (g : View)
    → (if passed then gives i (λ n. keeps (Freely (moved_on e)) (takes_kept c n)) n.goes (Mark ∷ []) g else at_node i (λ n. keeps (Freely e) (takes_kept c n)) g).out ≡ g.out
mark_out i n c e true g = send_out n.goes (Mark ∷ []) (at_node i (λ n. keeps (Freely (moved_on e)) (takes_kept c n)) g)
mark_out i n c e false g = refl

free_merge_out : (i : ℕ) (n : Node) (c : ℕ) (epochs : Epochs) (e : Option (Entry ModelItem)) (g : View) → (free_merges i n c epochs e g).out ≡ g.out
free_merge_out i n c epochs (Some (It y)) g = send_out n.goes (It y ∷ []) (at_node i (takes_kept c) g)
free_merge_out i n c epochs (Some Mark) g = mark_out i n c (marked c epochs) (is_passed (marked c epochs)) g
free_merge_out i n c epochs (Some End) g = send_out n.goes (End ∷ []) (at_node i (takes_kept c) g)
free_merge_out i n c epochs None g = refl

merge_out : (i : ℕ) (n : Node) (c : ℕ) (state : State) (g : View) → (merges_by i n c state g).out ≡ g.out
merge_out i n c Alone g = refl
merge_out i n c (Cell patterns cell) g = refl
merge_out i n c (InTurn ds) g = turn_out i n c ds (first_of ds) g
merge_out i n c (Freely epochs) g = free_merge_out i n c epochs (first_of (kept_of n.children c)) g

at_out : (g : View) (f : Node → View) → ((n : Node) → (f n).out ≡ g.out) → (o : Option Node) → (if_node f g o).out ≡ g.out
at_out g f each None = refl
at_out g f each (Some n) = each n

-- nothing comes out but by Emit, which says what did
pub came : (run : Run) (e : Happening) (x : Effect) (g next : View) → next ≡ Next g e → ComesOf run e x g next → next.out ≡ g.out ++ came_out x
came run e x g next is comes = by e x is comes
  where
    none : (e : Happening) → next ≡ Next g e → (after g e).out ≡ g.out → next.out ≡ g.out ++ []
    none e is same = ap (λ (v : View). v.out) is ∙ same ∙ sym (append-nil g.out)

    by : (e : Happening) (x : Effect) → next ≡ Next g e → ComesOf run e x g next → next.out ≡ g.out ++ came_out x
    by (Start i) (effect.Call job) is comes = none (Start i) is refl
    by Emit (effect.Out x) is comes = comes
    by Emit effect.Moved is comes = comes ∙ sym (append-nil g.out)
    by Take effect.Moved is comes = none Take is (took_out (next_input g) g)
    by (Finish call number place given) effect.Moved is comes = none (Finish call number place given) is refl
    by (Local i) effect.Moved is comes = none (Local i) is (at_out g (λ n. local_then i n g (local_of g n)) (λ n. local_out i n g (local_of g n)) (node_at i g))
    by (Route i) effect.Moved is comes = none (Route i) is (at_out g (λ n. routed i n (routing_of g n) g) (λ n. routed_out i n (routing_of g n) g) (node_at i g))
    by (Unfold i) effect.Moved is comes = none (Unfold i) is (at_out g (λ n. unfolded i n (routing_of g n) g) (λ n. unfolded_out i n (routing_of g n) g) (node_at i g))
    by (Merge i c) effect.Moved is comes = none (Merge i c) is (at_out g (λ n. merges_by i n c n.state g) (λ n. merge_out i n c n.state g) (node_at i g))
    by Take (effect.Call job) is comes = elim comes [ ]
    by Take (effect.Out x) is comes = elim comes [ ]
    by (Start i) effect.Moved is comes = elim comes [ ]
    by (Start i) (effect.Out x) is comes = elim comes [ ]
    by (Finish call number place given) (effect.Call job) is comes = elim comes [ ]
    by (Finish call number place given) (effect.Out x) is comes = elim comes [ ]
    by (Local i) (effect.Call job) is comes = elim comes [ ]
    by (Local i) (effect.Out x) is comes = elim comes [ ]
    by (Route i) (effect.Call job) is comes = elim comes [ ]
    by (Route i) (effect.Out x) is comes = elim comes [ ]
    by (Unfold i) (effect.Call job) is comes = elim comes [ ]
    by (Unfold i) (effect.Out x) is comes = elim comes [ ]
    by (Merge i c) (effect.Call job) is comes = elim comes [ ]
    by (Merge i c) (effect.Out x) is comes = elim comes [ ]
    by Emit (effect.Call job) is comes = elim comes [ ]
