-- That no event but Unfold makes nodes.
use Rattle.std.proofs.Common.{◌≡◌, ℕ, zero, suc, ◌<◌, Bool, true, false, true≢false, cond, List, [], ◌∷◌, length, refl, sym, ap, ◌∙◌, subst}
use Rattle.std.specs.Prelude.{slice_get, Option, None, Some, unwrap_or}
use Rattle.std.specs.Option.{option_map}
use Rattle.std.proofs.lemmas.Bool.{eqb-true}
use Rattle.std.proofs.lemmas.List.{length-map}
use Rattle.std.proofs.lemmas.Option.{slice_get_within}
use Rattle.sn_net.specs.Item.{ModelItem}
use Rattle.sn_view.specs.Epochs.{Epochs, is_passed, marked, moved_on}
use Rattle.sn_view.specs.Next.{Given, IsEnabled, Next, Routing, decides, decision_of, det_merges, emitted, enabled, free_merges, free_routes, gets_answer, gives, group_gives, group_of, if_node, keeps, local_of, local_then, mark_passes, merges_by, needs, next_input, node_at, passed, routed, routes_by, routing_of, send, takes_kept, to_all, to_entry, took, kept_of}
use Rattle.sn_streams.specs.Forks.{Router}
use Rattle.sn_view.specs.Touched.{happens_at, is_touched}
use Rattle.sn_view.specs.View.{Alone, Cell, Child, Emit, End, Entry, Finish, Freely, Happening, InTurn, It, Local, Mark, Merge, Node, Out, Own, Route, Start, State, Take, Target, To, ToChild, ToNode, Turn, Unfold, View, at_node, changed_at, first_of, rest_of}

-- how many nodes a graph has
abbrev size : View → ℕ
size g = length g.nodes

changed_length : {X : Type 0} (i : ℕ) (f : X → X) (xs : List X) → length (changed_at i f xs) ≡ length xs
changed_length i f [] = refl
changed_length zero f (x ∷ xs) = refl
changed_length (suc i) f (x ∷ xs) = ap suc (changed_length i f xs)

size_at : (i : ℕ) (f : Node → Node) (g : View) → size (at_node i f g) ≡ size g
size_at i f g = changed_length i f g.nodes

size_send : (goes : Target) (o : List (Entry ModelItem)) (g : View) → size (send goes o g) ≡ size g
size_send Out o g = refl
size_send (ToNode n) o g = changed_length n _ g.nodes
size_send (ToChild n c) o g = changed_length n _ g.nodes

size_gives : (i : ℕ) (f : Node → Node) (goes : Target) (o : List (Entry ModelItem)) (g : View) → size (gives i f goes o g) ≡ size g
size_gives i f goes o g = size_send goes o (at_node i f g) ∙ size_at i f g

size_took : (x : Option ModelItem) (g : View) → size (took x g) ≡ size g
size_took (Some x) g = size_send (ToNode 0) (It x ∷ []) g
size_took None g = size_send (ToNode 0) (End ∷ []) g

size_local : (i : ℕ) (n : Node) (g : View) (given : Option Given) → size (local_then i n g given) ≡ size g
size_local i n g None = refl
size_local i n g (Some given) = size_gives i (λ n. keeps given.state (passed n)) n.goes given.entries g

size_entry : (c : ℕ) (o : List (Entry ModelItem)) (child : Option Child) (g : View) → size (to_entry c o child g) ≡ size g
size_entry zero o child g = refl
size_entry (suc c) o (Some child) g = size_send (ToNode child.entry) o g
size_entry (suc c) o None g = refl

size_all : (children : List Child) (o : List (Entry ModelItem)) (g : View) → size (to_all children o g) ≡ size g
size_all [] o g = refl
size_all (child ∷ children) o g = size_all children o (send (ToNode child.entry) o g) ∙ size_send (ToNode child.entry) o g

size_free : (i : ℕ) (n : Node) (e : Epochs) (r : Router ModelItem) (entry : Entry ModelItem) (c : ℕ) (g : View) → size (free_routes i n e r entry c g) ≡ size g
size_free i n e r (It x) zero g = changed_length i _ g.nodes
size_free i n e r (It x) (suc c) g = size_entry (suc c) (It x ∷ []) (slice_get n.children (suc c)) (at_node i passed g) ∙ size_at i passed g
size_free i n e r Mark c g = size_all (rest_of n.children) (Mark ∷ []) _ ∙ changed_length i _ g.nodes
size_free i n e r End c g = changed_length i _ g.nodes

size_routes : (i : ℕ) (n : Node) (s : State) (routing : Routing) (c : ℕ) (g : View) → size (routes_by i n s routing c g) ≡ size g
size_routes i n Alone routing c g = refl
size_routes i n (Cell patterns cell) routing c g = refl
size_routes i n (InTurn ds) routing c g =
    size_entry c (group_of routing.entry) (slice_get n.children c) (at_node i (decides ds (decision_of routing.router routing.entry)) g) ∙ size_at i (decides ds (decision_of routing.router routing.entry)) g
size_routes i n (Freely e) routing c g = size_free i n e routing.router routing.entry c g

size_way : (i : ℕ) (n : Node) (routing : Routing) (g : View) (c : Option ℕ) → size (unwrap_or (option_map (λ c. routes_by i n n.state routing c g) c) g) ≡ size g
size_way i n routing g None = refl
size_way i n routing g (Some c) = size_routes i n n.state routing c g

size_routed : (i : ℕ) (n : Node) (routing : Option Routing) (g : View) → size (routed i n routing g) ≡ size g
size_routed i n None g = refl
size_routed i n (Some routing) g = size_way i n routing g (needs n routing)

size_group : (i : ℕ) (n : Node) (c : ℕ) (ds : List (Entry Turn)) (e : Option (Entry ModelItem)) (g : View) → size (group_gives i n c ds e g) ≡ size g
size_group i n c ds (Some (It y)) g = size_gives i (takes_kept c) n.goes (It y ∷ []) g
size_group i n c ds (Some Mark) g = changed_length i _ g.nodes
size_group i n c ds (Some End) g = changed_length i _ g.nodes
size_group i n c ds None g = refl

size_turn : (i : ℕ) (n : Node) (c : ℕ) (ds : List (Entry Turn)) (d : Option (Entry Turn)) (g : View) → size (det_merges i n c ds d g) ≡ size g
size_turn i n c ds (Some (It (Own y))) g = size_gives i (keeps (InTurn (rest_of ds))) n.goes (It y ∷ []) g
size_turn i n c ds (Some (It (To k))) g = size_group i n c ds (first_of (kept_of n.children c)) g
size_turn i n c ds (Some Mark) g = size_gives i (keeps (InTurn (rest_of ds))) n.goes (Mark ∷ []) g
size_turn i n c ds (Some End) g = size_gives i (keeps (InTurn (rest_of ds))) n.goes (End ∷ []) g
size_turn i n c ds None g = refl

size_mark : (i : ℕ) (n : Node) (c : ℕ) (e : Epochs) (g : View) → size (mark_passes i n c e g) ≡ size g
size_mark i n c e g = by (is_passed e) refl
  where
    on : View
    on = gives i (λ n. keeps (Freely (moved_on e)) (takes_kept c n)) n.goes (Mark ∷ []) g

    off : View
    off = at_node i (λ n. keeps (Freely e) (takes_kept c n)) g

    by : (b : Bool) → is_passed e ≡ b → size (mark_passes i n c e g) ≡ size g
    by true is = ap (λ (b : Bool). size (cond b on off)) is ∙ size_gives i (λ n. keeps (Freely (moved_on e)) (takes_kept c n)) n.goes (Mark ∷ []) g
    by false is = ap (λ (b : Bool). size (cond b on off)) is ∙ size_at i (λ n. keeps (Freely e) (takes_kept c n)) g

size_passes : (i : ℕ) (n : Node) (c : ℕ) (e : Epochs) (entry : Option (Entry ModelItem)) (g : View) → size (free_merges i n c e entry g) ≡ size g
size_passes i n c e (Some (It y)) g = size_gives i (takes_kept c) n.goes (It y ∷ []) g
size_passes i n c e (Some Mark) g = size_mark i n c (marked c e) g
size_passes i n c e (Some End) g = size_gives i (takes_kept c) n.goes (End ∷ []) g
size_passes i n c e None g = refl

size_merges : (i : ℕ) (n : Node) (c : ℕ) (s : State) (g : View) → size (merges_by i n c s g) ≡ size g
size_merges i n c Alone g = refl
size_merges i n c (Cell patterns cell) g = refl
size_merges i n c (InTurn ds) g = size_turn i n c ds (first_of ds) g
size_merges i n c (Freely e) g = size_passes i n c e (first_of (kept_of n.children c)) g

size_emitted : (e : Option (Entry ModelItem)) (g : View) → size (emitted e g) ≡ size g
size_emitted (Some (It y)) g = refl
size_emitted (Some Mark) g = refl
size_emitted (Some End) g = refl
size_emitted None g = refl

-- where a node changes the graph to one of the same size
size_if : (f : Node → View) (g : View) (o : Option Node) → ((n : Node) → size (f n) ≡ size g) → size (if_node f g o) ≡ size g
size_if f g None each = refl
size_if f g (Some n) each = each n

abbrev pub MakesNone : Happening → Type 0
MakesNone (Unfold i) = ⊥
MakesNone Take = Unit {0}
MakesNone (Start i) = Unit {0}
MakesNone (Finish call number place given) = Unit {0}
MakesNone (Local i) = Unit {0}
MakesNone (Route i) = Unit {0}
MakesNone (Merge i c) = Unit {0}
MakesNone Emit = Unit {0}

pub size_next : (g : View) (e : Happening) → MakesNone e → size (Next g e) ≡ size g
size_next g Take none = size_took (next_input g) g
size_next g (Start i) none = changed_length i _ g.nodes
size_next g (Finish call number place given) none = length-map g.nodes (gets_answer call)
size_next g (Local i) none = size_if (λ n. local_then i n g (local_of g n)) g (node_at i g) (λ n. size_local i n g (local_of g n))
size_next g (Route i) none = size_if (λ n. routed i n (routing_of g n) g) g (node_at i g) (λ n. size_routed i n (routing_of g n) g)
size_next g (Unfold i) none = absurd none
size_next g (Merge i c) none = size_if (λ n. merges_by i n c n.state g) g (node_at i g) (λ n. size_merges i n c n.state g)
size_next g Emit none = size_emitted (first_of g.ready) g

-- A NODE AT WHICH SOMETHING MAY HAPPEN IS THERE
if_there : (f : Node → Bool) (i : ℕ) (g : View) (o : Option Node) → node_at i g ≡ o → if_node f false o ≡ true → i < size g
if_there f i g None same is = absurd (true≢false (sym is))
if_there f i g (Some n) same is = slice_get_within g.nodes i n same

pub enabled_there : (g : View) (e : Happening) (i : ℕ) → happens_at e ≡ Some i → enabled g e ≡ true → i < size g
enabled_there g Take i at is = cc
enabled_there g (Start j) i at is = let same : j ≡ i = cc in subst (λ k. k < size g) same (if_there _ j g (node_at j g) refl is)
enabled_there g (Finish call number place given) i at is = cc
enabled_there g (Local j) i at is = let same : j ≡ i = cc in subst (λ k. k < size g) same (if_there _ j g (node_at j g) refl is)
enabled_there g (Route j) i at is = let same : j ≡ i = cc in subst (λ k. k < size g) same (if_there _ j g (node_at j g) refl is)
enabled_there g (Unfold j) i at is = let same : j ≡ i = cc in subst (λ k. k < size g) same (if_there _ j g (node_at j g) refl is)
enabled_there g (Merge j c) i at is = let same : j ≡ i = cc in subst (λ k. k < size g) same (if_there _ j g (node_at j g) refl is)
enabled_there g Emit i at is = cc

-- an event writes to no node that it makes
pub touched_there : (g : View) (e : Happening) (j : ℕ) → IsEnabled g e → is_touched g e j ≡ true → j < size (Next g e) → j < size g
touched_there g Take j may touched there = subst (λ n. j < n) (size_next g Take tt) there
touched_there g (Start i) j may touched there = subst (λ n. j < n) (size_next g (Start i) tt) there
touched_there g (Finish call number place given) j may touched there = subst (λ n. j < n) (size_next g (Finish call number place given) tt) there
touched_there g (Local i) j may touched there = subst (λ n. j < n) (size_next g (Local i) tt) there
touched_there g (Route i) j may touched there = subst (λ n. j < n) (size_next g (Route i) tt) there
touched_there g (Unfold i) j may touched there = subst (λ n. n < size g) (sym (eqb-true j i touched)) (enabled_there g (Unfold i) i refl may)
touched_there g (Merge i c) j may touched there = subst (λ n. j < n) (size_next g (Merge i c) tt) there
touched_there g Emit j may touched there = subst (λ n. j < n) (size_next g Emit tt) there
