-- The event Route at a deterministic dispatcher, in the view.
use Rattle.std.proofs.Common.{◌≡◌, ◌&&◌, ℕ, zero, suc, ◌+◌, ◌<◌, ◌≤◌, Bool, true, false, cond, List, [], ◌∷◌, map, length, get_or, refl, sym, ap, subst, ◌∙◌, arith}
use Rattle.std.specs.Prelude.{slice_get, Option, Some, None, is_some, IfSome, IsTrue, unwrap_or}
use Rattle.std.specs.List.{position_from}
use Rattle.std.specs.Option.{option_map}
use Rattle.sn_streams.specs.Forks.{Router}
use Rattle.sn_streams.specs.Keys.{Key as StreamKey, Own as OwnKey, Branch, Inside, Value, key_eq}
use Rattle.sn_net.specs.Dispatchers.{stream_key}
use Rattle.sn_net.specs.Item.{ModelItem}
use Rattle.sn_view.specs.View as view
use Rattle.sn_view.specs.View.{Entry, It, Mark, End, Turn, View, Route, ToNode, changed_at, first_of}
use Rattle.sn_view.specs.Next.{Routing, both, plain_entry, if_node, node_at, enabled, after, routing_of, needs, child_of, has_key, may_route, is_fork, decides, decision_of, send}
use Rattle.sn_view.specs.Routed.{has_route}
use Rattle.sn_node.specs.Seen.{node_of}
use Rattle.sn_node.specs.Decides.{DecidesFirst}
use Rattle.sn_node.specs.Routed.{Routed, Sends, Nowhere, sent, to_child_of, det_routed, state_routed, child_routed, routed_node}
use Rattle.sn_node.specs.Routes.{EntryGoes, GoesBy, item_sent}
use Rattle.sn_net.specs.declared.routing.Key.{Key}
use Rattle.sn_node.specs.States.{is_in_turn}
use Rattle.std.proofs.lemmas.Bool.{and_right}
use Rattle.std.proofs.lemmas.List.{length-map}
use Rattle.std.proofs.lemmas.Option.{slice_get_within}
use Rattle.sn_node.specs.declared.node.Node.{Node}
use Rattle.sn_node.proofs.Routing.{route_after}
use Rattle.sn_graph.specs.Arena.{view_of}
use Rattle.sn_graph.specs.Ways.{ComesInElsewhere, Goes, IsRoutedAt, OwnIsFirst}
use Rattle.sn_graph.specs.declared.arena.Arena.{Arena}
use Rattle.sn_graph.specs.declared.route.Way.{Way}
use Rattle.sn_graph.proofs.Changes.{changes}
use Rattle.sn_graph.proofs.Here.{here, with_node}

-- both are there
both_some : (r : Option (Router ModelItem)) (e : Option (Entry ModelItem)) (by : Routing) → both r e ≡ Some by → e ≡ Some by.entry
both_some None e by is = absurd (cc)
both_some (Some r) None by is = absurd (cc)
both_some (Some r) (Some e) by is = let f : Option Routing → Option (Entry ModelItem) = option_map (λ x. x.entry) in ap f is

not_before : {X : Type 0} (p : X → Bool) (i : ℕ) (xs : List X) (c : ℕ) → position_from p i xs ≡ Some c → i ≤ c
not_before p i [] c is = absurd (cc)
not_before p i (x ∷ xs) c is = at (p x) is (not_before p (i + 1) xs c)
  where
    at : (b : Bool) → cond b (Some i) (position_from p (i + 1) xs) ≡ Some c → (position_from p (i + 1) xs ≡ Some c → i + 1 ≤ c) → i ≤ c
    at true is next = let f : Option ℕ → ℕ = λ o. unwrap_or o i in let e : i ≡ c = ap f is in omega (arith, e)
    at false is next = let le : i + 1 ≤ c = next is in omega (arith, le)

own_key : (k : StreamKey) → key_eq OwnKey k ≡ true → k ≡ OwnKey
own_key OwnKey is = refl
own_key (Branch i) is = absurd (cc)
own_key Inside is = absurd (cc)
own_key (Value v) is = absurd (cc)

-- where child 0 is found by the key of what passes by, it has that key
first_own : (cs : List view.Child) → child_of cs OwnKey ≡ Some 0 → IfSome (slice_get cs 0) (λ child. child.key ≡ OwnKey)
first_own [] is = tt
first_own (child ∷ cs) is = own_key child.key (at (key_eq OwnKey child.key) is)
  where
    at : (b : Bool) → cond b (Some 0) (position_from (has_key OwnKey) 1 cs) ≡ Some 0 → b ≡ true
    at true is = refl
    at false is = let le : 1 ≤ 0 = not_before (has_key OwnKey) 1 cs 0 is in absurd (omega (arith, le))

other_is_more : (cs : List view.Child) (k : StreamKey) (c : ℕ) → key_eq k OwnKey ≡ false → IfSome (slice_get cs 0) (λ child. child.key ≡ OwnKey) → child_of cs k ≡ Some c → 1 ≤ c
other_is_more [] k c other first is = absurd (cc)
other_is_more (child ∷ cs) k c other first is =
    let F : StreamKey → Option ℕ = λ j. cond (key_eq k j) (Some 0) (position_from (has_key k) 1 cs) in
    let G : Bool → Option ℕ = λ b. cond b (Some 0) (position_from (has_key k) 1 cs) in
    not_before (has_key k) 1 cs c (sym (ap F first ∙ ap G other) ∙ is)

-- an item goes to a child by the key of one
sent_other : (k : StreamKey) (e : Entry ModelItem) (x : ModelItem) → Some x ≡ item_sent k e → key_eq k OwnKey ≡ false
sent_other OwnKey e x is = absurd (cc)
sent_other (Branch i) e x is = refl
sent_other Inside e x is = refl
sent_other (Value v) e x is = refl

-- what a group sends
group_sent : Entry ModelItem → ℕ → Option view.Child → Sends
group_sent (It x) c child = to_child_of c (It x ∷ Mark ∷ []) child
group_sent Mark c child = Nowhere
group_sent End c child = Nowhere

det_is : (n : view.Node) (ds : List (Entry Turn)) (r : Router ModelItem) (e : Entry ModelItem) (c : ℕ) (child : Option view.Child)
    → det_routed n ds r e c child ≡ record { node = decides ds (decision_of r e) n; sends = group_sent e c child }
unfolding group_sent
det_is n ds r (It x) c child = refl
det_is n ds r Mark c child = refl
det_is n ds r End c child = refl

item_goes : (y x : ModelItem) (c : ℕ) (cs : List view.Child) (child : view.Child) (g : View) → Some x ≡ Some y → 1 ≤ c → slice_get cs c ≡ Some child
    → send (ToNode child.entry) (It x ∷ Mark ∷ []) g ≡ sent (to_child_of c (It y ∷ Mark ∷ []) (slice_get cs c)) g
item_goes y x zero cs child g is more there = absurd (omega (arith, more))
item_goes y x (suc c) cs child g is more there =
    let f : Option ModelItem → ModelItem = λ o. unwrap_or o x in
    ap (λ z. send (ToNode child.entry) (It z ∷ Mark ∷ []) g) (ap f is)
    ∙ ap (λ o. sent (to_child_of (suc c) (It y ∷ Mark ∷ []) o) g) (sym there)

some_sent : (k : StreamKey) (e : Entry ModelItem) (x : ModelItem) (c : ℕ) (cs : List view.Child) (child : view.Child) (g : View)
    → Some x ≡ item_sent k e → 1 ≤ c → slice_get cs c ≡ Some child → send (ToNode child.entry) (It x ∷ Mark ∷ []) g ≡ sent (group_sent e c (slice_get cs c)) g
unfolding group_sent
some_sent OwnKey e x c cs child g is more there = absurd (cc)
some_sent (Branch i) Mark x c cs child g is more there = absurd (cc)
some_sent (Branch i) End x c cs child g is more there = absurd (cc)
some_sent (Branch i) (It y) x c cs child g is more there = item_goes y x c cs child g is more there
some_sent Inside Mark x c cs child g is more there = absurd (cc)
some_sent Inside End x c cs child g is more there = absurd (cc)
some_sent Inside (It y) x c cs child g is more there = item_goes y x c cs child g is more there
some_sent (Value v) Mark x c cs child g is more there = absurd (cc)
some_sent (Value v) End x c cs child g is more there = absurd (cc)
some_sent (Value v) (It y) x c cs child g is more there = item_goes y x c cs child g is more there

none_sent : (k : StreamKey) (e : Entry ModelItem) (c : ℕ) (cs : List view.Child) (g : View)
    → None ≡ item_sent k e → child_of cs OwnKey ≡ Some 0 → child_of cs k ≡ Some c → g ≡ sent (group_sent e c (slice_get cs c)) g
unfolding group_sent
none_sent k Mark c cs g is first of = refl
none_sent k End c cs g is first of = refl
none_sent OwnKey (It y) c cs g is first of =
    let f : Option ℕ → ℕ = λ o. unwrap_or o c in
    let zero_is : 0 ≡ c = ap f (sym first ∙ of) in
    ap (λ m. sent (to_child_of m (It y ∷ Mark ∷ []) (slice_get cs m)) g) zero_is
none_sent (Branch i) (It y) c cs g is first of = absurd (cc)
none_sent Inside (It y) c cs g is first of = absurd (cc)
none_sent (Value v) (It y) c cs g is first of = absurd (cc)

module _ (g : View) (i : ℕ) (way : Way) (goes : Goes g i way) where
  may : Option view.Node → Bool
  may o = if_node (λ n. may_route n (routing_of g n)) false o

  pub way_enabled : true ≡ enabled g (Route i)
  unfolding may
  way_enabled =
      sym
      (ap may goes.there
      ∙ ap (may_route goes.node) goes.goes.is
      ∙ ap (λ b. b && is_some (needs goes.node goes.goes.by)) goes.fork
      ∙ ap (λ k. true && is_some (child_of goes.node.children k)) goes.goes.key
      ∙ ap (λ c. true && is_some c) goes.number)

  pub plain : plain_entry (first_of goes.node.waiting) ≡ Some goes.goes.by.entry
  plain = both_some _ (plain_entry (first_of goes.node.waiting)) goes.goes.by goes.goes.is

  pub entry_goes : IsRoutedAt i g → EntryGoes goes.goes.by.router goes.goes.by.entry way.key
  entry_goes routed =
      let P : Option view.Node → Type 0 = λ o. IfSome o (λ n. IfSome (routing_of g n) (λ r. IsTrue (has_route r.router r.entry))) in
      let Q : Option Routing → Type 0 = λ o. IfSome o (λ r. IsTrue (has_route r.router r.entry)) in
      record { key = goes.goes.key; place = goes.goes.place; own = goes.goes.own; routed = subst Q goes.goes.is (subst P goes.there routed) }

  -- a child by another key than that of what passes is not child 0
  pub way_more : OwnIsFirst i g → key_eq (stream_key way.key) OwnKey ≡ false → 0 < way.child
  way_more own other =
      let more = other_is_more goes.node.children (stream_key way.key) way.child other (first_own goes.node.children (own goes.node goes.there goes.fork)) goes.number in
      omega (arith, more)

  elsewhere_at : (c : ℕ) → 0 < c → slice_get goes.node.children c ≡ Some goes.child → ComesInElsewhere i g → (way.entry ≡ i) → ⊥
  elsewhere_at zero more at doors is = absurd (omega (arith, more))
  elsewhere_at (suc c) more at doors is = doors goes.node c goes.child goes.there at (goes.entry ∙ is)

  pub way_elsewhere : 0 < way.child → ComesInElsewhere i g → (way.entry ≡ i) → ⊥
  way_elsewhere more = elsewhere_at way.child more goes.at

  module _ (m : view.Node) (own : OwnIsFirst i g) (item : Option ModelItem)
      (decided : DecidesFirst goes.goes.by.router goes.goes.by.entry (stream_key way.key) item goes.node m) where
    abbrev put : View
    put = record g { nodes = changed_at i (λ old. m) g.nodes }

    abbrev sends : Sends
    sends = group_sent goes.goes.by.entry way.child (slice_get goes.node.children way.child)

    what : Routed
    what = record { node = decides decided.before (decision_of goes.goes.by.router goes.goes.by.entry) goes.node; sends = sends }

    found : routed_node goes.node (routing_of g goes.node) ≡ Some what
    unfolding what
    found =
        ap (routed_node goes.node) goes.goes.is
        ∙ ap (child_routed goes.node goes.goes.by) (ap (child_of goes.node.children) goes.goes.key ∙ goes.number)
        ∙ ap (λ s. state_routed goes.node s goes.goes.by.router goes.goes.by.entry way.child (slice_get goes.node.children way.child)) decided.was
        ∙ ap (λ r. Some r) (det_is goes.node decided.before goes.goes.by.router goes.goes.by.entry way.child (slice_get goes.node.children way.child))

    comes : after g (Route i) ≡ sent sends put
    unfolding what
    comes =
        route_after i goes.node g goes.there what found
        ∙ ap (λ n. sent sends (record g { nodes = changed_at i (λ old. n) g.nodes })) (sym decided.now)

    pub turn_none : item ≡ None → put ≡ after g (Route i)
    turn_none none =
        none_sent (stream_key way.key) goes.goes.by.entry way.child goes.node.children put (sym none ∙ decided.sends) (own goes.node goes.there goes.fork) goes.number ∙ sym comes

    pub turn_more : (x : ModelItem) → item ≡ Some x → 0 < way.child
    turn_more x some = way_more own (sent_other (stream_key way.key) goes.goes.by.entry x (sym some ∙ decided.sends))

    pub turn_some : (x : ModelItem) → item ≡ Some x → send (ToNode way.entry) (It x ∷ Mark ∷ []) put ≡ after g (Route i)
    turn_some x some =
        let more = turn_more x some in
        ap (λ entry. send (ToNode entry) (It x ∷ Mark ∷ []) put) (sym goes.entry)
        ∙ some_sent (stream_key way.key) goes.goes.by.entry x way.child goes.node.children goes.child put (sym some ∙ decided.sends) (omega (arith, more)) goes.at
        ∙ sym comes

-- `a` is the node behind the room that was made, `b` the node once it routed
module _ (old new : Arena) (i : ℕ) (way : Way) (goes : Goes (view_of old) i way) (a b : Node) (alike : view_of new ≡ view_of old)
    (within : i < length new.nodes.items) (read : a ≡ get_or new.nodes.items i a) where
  at_a : node_at i (view_of old) ≡ Some (node_of a)
  at_a = ap (node_at i) (sym alike) ∙ here new i a within read

  pub same_node : goes.node ≡ node_of a
  same_node = let first : Option view.Node → view.Node = λ o. unwrap_or o goes.node in ap first (sym goes.there ∙ at_a)

  pub put_is : with_node new i b ≡ record (view_of old) { nodes = changed_at i (λ o. node_of b) (map node_of old.nodes.items) }
  put_is =
      ap (λ ns. record (view_of new) { nodes = ns }) (changes node_of (λ o. node_of b) new.nodes.items i a b read refl)
      ∙ ap (λ (g : View). record g { nodes = changed_at i (λ o. node_of b) g.nodes }) alike

  pub is_turn : IfSome (node_at i (view_of old)) (λ n. is_in_turn n.state ≡ true) → is_in_turn (node_of a).state ≡ true
  is_turn turn = let P : Option view.Node → Type 0 = λ o. IfSome o (λ n. is_in_turn n.state ≡ true) in subst P at_a turn

  module _ (x : Option ModelItem) (own : OwnIsFirst i (view_of old)) (routed : IsRoutedAt i (view_of old))
      (decides_a : (r : Router ModelItem) (e : Entry ModelItem) → plain_entry (first_of (node_of a).waiting) ≡ Some e → EntryGoes r e way.key
      → DecidesFirst r e (stream_key way.key) x (node_of a) (node_of b)) where
    decided : DecidesFirst goes.goes.by.router goes.goes.by.entry (stream_key way.key) x goes.node (node_of b)
    decided =
        subst (λ n. DecidesFirst goes.goes.by.router goes.goes.by.entry (stream_key way.key) x n (node_of b)) (sym same_node)
        (decides_a goes.goes.by.router goes.goes.by.entry
        (ap (λ (n : view.Node). plain_entry (first_of n.waiting)) (sym same_node) ∙ plain (view_of old) i way goes)
        (entry_goes (view_of old) i way goes routed))

    pub none_after : x ≡ None → with_node new i b ≡ after (view_of old) (Route i)
    none_after none = put_is ∙ turn_none (view_of old) i way goes (node_of b) own x decided none

    pub some_more : (y : ModelItem) → x ≡ Some y → 0 < way.child
    some_more y some = turn_more (view_of old) i way goes (node_of b) own x decided y some

    pub some_after : (y : ModelItem) → x ≡ Some y → send (ToNode way.entry) (It y ∷ Mark ∷ []) (with_node new i b) ≡ after (view_of old) (Route i)
    some_after y some =
        ap (send (ToNode way.entry) (It y ∷ Mark ∷ [])) put_is
        ∙ turn_some (view_of old) i way goes (node_of b) own x decided y some

-- the dispatcher is there
pub way_within : (old : Arena) (i : ℕ) (way : Way) → Goes (view_of old) i way → i < length old.nodes.items
way_within old i way goes =
    let below = slice_get_within (view_of old).nodes i goes.node goes.there in
    let long = length-map old.nodes.items node_of in
    omega (arith, below, long)

-- where nothing goes
module _ (g : View) (i : ℕ) (n : view.Node) (there : node_at i g ≡ Some n) where
  at_n : enabled g (Route i) ≡ may_route n (routing_of g n)
  at_n = let F : Option view.Node → Bool = λ o. if_node (λ m. may_route m (routing_of g m)) false o in ap F there

  pub no_way_routing : routing_of g n ≡ None → enabled g (Route i) ≡ false
  no_way_routing none = at_n ∙ ap (may_route n) none

  no_fork_routes : (o : Option Routing) → is_fork n.state ≡ false → may_route n o ≡ false
  no_fork_routes None not_fork = refl
  no_fork_routes (Some r) not_fork = ap (λ b. b && is_some (needs n r)) not_fork

  pub no_way_fork : is_fork n.state ≡ false → enabled g (Route i) ≡ false
  no_way_fork not_fork = at_n ∙ no_fork_routes (routing_of g n) not_fork

  pub no_way_child : (k : Key) → GoesBy (routing_of g n) k → child_of n.children (stream_key k) ≡ None → enabled g (Route i) ≡ false
  no_way_child k goes none =
      at_n ∙ ap (may_route n) goes.is
      ∙ ap (λ key. is_fork n.state && is_some (child_of n.children key)) goes.key
      ∙ ap (λ c. is_fork n.state && is_some c) none
      ∙ and_right (is_fork n.state) false refl
