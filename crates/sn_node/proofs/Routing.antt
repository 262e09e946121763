-- Routing, in the view.
use Rattle.std.proofs.Common.{◌≡◌, ℕ, zero, suc, Bool, true, false, ◌&&◌, List, [], ◌∷◌, refl, ap, ◌∙◌}
use Rattle.std.specs.Prelude.{slice_get, Option, Some, None, is_some, unwrap_or}
use Rattle.std.specs.Option.{option_map}
use Rattle.sn_streams.specs.Forks.{Router}
use Rattle.sn_view.specs.Epochs.{Epochs, closed}
use Rattle.sn_net.specs.Item.{ModelItem}
use Rattle.sn_view.specs.View.{Entry, It, Mark, End, Turn, State, Alone, Cell, InTurn, Freely, Child, Node, View, Route, ToNode, child_gives, rest_of, changed_at, at_node}
use Rattle.sn_view.specs.Next.{Routing, if_node, node_at, enabled, after, decides, decision_of, keeps, passed, needs, to_all, to_child, to_entry, routing_of, routed, routes_by, det_routes, free_routes, may_route, is_fork}
use Rattle.sn_node.specs.Routed.{Routed, sent, to_child_of, det_routed, free_routed, state_routed, child_routed, routed_node}
use Rattle.sn_node.proofs.Sending.{send-nil}
use Rattle.sn_node.proofs.Merging.{changed-const}

module _ (i : ℕ) (n : Node) (g : View) (here : node_at i g ≡ Some n) where
  abbrev put : Node → View
  put m = record g { nodes = changed_at i (λ old. m) g.nodes }

  abbrev out_of : Routed → View
  out_of r = sent r.sends (put r.node)

  place : (f : Node → Node) → at_node i f g ≡ put (f n)
  place f = ap (λ ns. record g { nodes = ns }) (changed-const f i g.nodes n here)

  entry_is : (c : ℕ) (es : List (Entry ModelItem)) (child : Option Child) (h : View) → to_entry c es child h ≡ sent (to_child_of c es child) h
  entry_is zero es child h = refl
  entry_is (suc c) es (Some child) h = refl
  entry_is (suc c) es None h = refl

  entry_nil : (c : ℕ) (child : Option Child) (h : View) → to_entry c [] child h ≡ h
  entry_nil zero child h = refl
  entry_nil (suc c) (Some child) h = send-nil (ToNode child.entry) h
  entry_nil (suc c) None h = refl

  det_is : (ds : List (Entry Turn)) (r : Router ModelItem) (e : Entry ModelItem) (c : ℕ)
      → det_routes i n ds (record { router = r; entry = e }) c g ≡ out_of (det_routed n ds r e c (slice_get n.children c))
  det_is ds r (It x) c =
      ap (to_child n c (It x ∷ Mark ∷ [])) (place (decides ds (decision_of r (It x))))
      ∙ entry_is c (It x ∷ Mark ∷ []) (slice_get n.children c) (put (decides ds (decision_of r (It x)) n))
  det_is ds r Mark c = entry_nil c (slice_get n.children c) (at_node i (decides ds Mark) g) ∙ place (decides ds Mark)
  det_is ds r End c = entry_nil c (slice_get n.children c) (at_node i (decides ds End) g) ∙ place (decides ds End)

  free_is : (es : Epochs) (r : Router ModelItem) (e : Entry ModelItem) (c : ℕ)
      → free_routes i n es r e c g ≡ out_of (free_routed n es r e c (slice_get n.children c))
  free_is es r (It x) zero = place (λ n. child_gives 0 (It (r.own x) ∷ []) (passed n))
  free_is es r (It x) (suc c) =
      ap (to_child n (suc c) (It x ∷ [])) (place passed) ∙ entry_is (suc c) (It x ∷ []) (slice_get n.children (suc c)) (put (passed n))
  free_is es r Mark c = ap (to_all (rest_of n.children) (Mark ∷ [])) (place (λ n. keeps (Freely (closed es)) (child_gives 0 (Mark ∷ []) (passed n))))
  free_is es r End c = place (λ n. child_gives 0 (End ∷ []) (passed n))

  abbrev then_of : Option Routed → View
  then_of None = g
  then_of (Some r) = out_of r

  state_is : (s : State) (r : Routing) (c : ℕ) → routes_by i n s r c g ≡ then_of (state_routed n s r.router r.entry c (slice_get n.children c))
  state_is Alone r c = refl
  state_is (Cell patterns cell) r c = refl
  state_is (InTurn ds) r c = det_is ds r.router r.entry c
  state_is (Freely es) r c = free_is es r.router r.entry c

  child_is : (r : Routing) (o : Option ℕ) → unwrap_or (option_map (λ c. routes_by i n n.state r c g) o) g ≡ then_of (child_routed n r o)
  child_is r None = refl
  child_is r (Some c) = state_is n.state r c

  routed_is : (o : Option Routing) → routed i n o g ≡ then_of (routed_node n o)
  routed_is None = refl
  routed_is (Some r) = child_is r (needs n r)

  state_some : (s : State) (r : Router ModelItem) (e : Entry ModelItem) (c : ℕ) (child : Option Child) → is_fork s && true ≡ is_some (state_routed n s r e c child)
  state_some Alone r e c child = refl
  state_some (Cell patterns cell) r e c child = refl
  state_some (InTurn ds) r e c child = refl
  state_some (Freely es) r e c child = refl

  and_false : (b : Bool) → b && false ≡ false
  and_false true = refl
  and_false false = refl

  child_some : (r : Routing) (o : Option ℕ) → is_fork n.state && is_some o ≡ is_some (child_routed n r o)
  child_some r None = and_false (is_fork n.state)
  child_some r (Some c) = state_some n.state r.router r.entry c (slice_get n.children c)

  routing_some : (o : Option Routing) → may_route n o ≡ is_some (routed_node n o)
  routing_some None = refl
  routing_some (Some r) = child_some r (needs n r)

  pub route_enabled : enabled g (Route i) ≡ is_some (routed_node n (routing_of g n))
  route_enabled =
      let F : Option Node → Bool = λ o. if_node (λ n. may_route n (routing_of g n)) false o in
      ap F here ∙ routing_some (routing_of g n)

  pub route_after : (r : Routed) → routed_node n (routing_of g n) ≡ Some r → after g (Route i) ≡ sent r.sends (record g { nodes = changed_at i (λ old. r.node) g.nodes })
  route_after r is =
      let F : Option Node → View = λ o. if_node (λ n. routed i n (routing_of g n) g) g o in
      ap F here ∙ routed_is (routing_of g n) ∙ ap then_of is
