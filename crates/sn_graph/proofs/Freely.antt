-- The event Route at a free dispatcher, in the view.
use Rattle.std.proofs.Common.{◌≡◌, ℕ, zero, suc, ◌<◌, true, false, List, [], ◌∷◌, map, length, get_or, refl, sym, ap, subst, ◌∙◌, arith}
use Rattle.std.specs.Prelude.{slice_get, Option, Some, IfSome, unwrap_or}
use Rattle.std.proofs.lemmas.Bool.{false≢true}
use Rattle.sn_streams.specs.Forks.{Router}
use Rattle.sn_streams.specs.Keys.{Key as StreamKey, Own as OwnKey, key_eq}
use Rattle.sn_net.specs.Dispatchers.{stream_key}
use Rattle.sn_net.specs.Item.{ModelItem, modelled}
use Rattle.sn_view.specs.Epochs.{Epochs, closed}
use Rattle.sn_view.specs.View as view
use Rattle.sn_view.specs.View.{Entry, It, Mark, End, State, Alone, Cell, InTurn, Freely, View, Route, ToNode, changed_at, child_gives, first_of, rest_of}
use Rattle.sn_view.specs.Next.{node_at, after, plain_entry, routing_of, child_of, keeps, passed, send, to_all}
use Rattle.sn_node.specs.Routed.{Routed, sent, free_routed, state_routed, child_routed, routed_node}
use Rattle.sn_node.specs.Routes.{EntryGoes}
use Rattle.sn_node.specs.RoutesFreely.{FreelyRoutes, marks_below}
use Rattle.sn_node.specs.Seen.{node_of}
use Rattle.sn_node.specs.States.{is_freely}
use Rattle.sn_node.specs.declared.node.Node.{Node}
use Rattle.sn_node.specs.declared.route_free.Sent.{Sent}
use Rattle.sn_node.specs.declared.route_free.Sent.TheVariants as out
use Rattle.sn_node.proofs.Routing.{route_after}
use Rattle.sn_graph.specs.Arena.{view_of}
use Rattle.sn_graph.specs.Broadcast.{marked_all}
use Rattle.sn_graph.specs.Ways.{Goes, HasNoMark, IsRoutedAt, OwnIsFirst}
use Rattle.sn_graph.specs.declared.arena.Arena.{Arena}
use Rattle.sn_graph.specs.declared.route.Way.{Way}
use Rattle.sn_graph.proofs.Here.{with_node}
use Rattle.sn_graph.proofs.Turning.{entry_goes, plain, put_is, same_node, way_more}

-- what the code sends then
abbrev pub sent_on : Sent → ℕ → List ℕ → View → View
sent_on out.Nothing entry entries g = g
sent_on (out.Item y) entry entries g = send (ToNode entry) (It (modelled y) ∷ []) g
sent_on out.Marks entry entries g = marked_all entries g

marks_are : (cs : List view.Child) (g : View) → to_all cs (Mark ∷ []) g ≡ marked_all (map (λ child. child.entry) cs) g
marks_are [] g = refl
marks_are (child ∷ cs) g = marks_are cs (send (ToNode child.entry) (Mark ∷ []) g)

free_epochs : (s : State) → is_freely s ≡ true → (e : Epochs) × (s ≡ Freely e)
free_epochs (Freely e) is = (e, refl)
free_epochs Alone is = absurd (false≢true is)
free_epochs (Cell patterns cell) is = absurd (false≢true is)
free_epochs (InTurn ds) is = absurd (false≢true is)

record Fits (n new : view.Node) (es : Epochs) (r : Router ModelItem) (e : Entry ModelItem) (c : ℕ) (child : view.Child) (s : Sent) : Type 0 where
  node_is : (free_routed n es r e c (Some child)).node ≡ new
  sends_is : (g : View) → sent ((free_routed n es r e c (Some child)).sends) g ≡ sent_on s child.entry (map (λ child. child.entry) (rest_of n.children)) g

fits : (n new : view.Node) (es : Epochs) (r : Router ModelItem) (e : Entry ModelItem) (k : StreamKey) (c : ℕ) (child : view.Child) (s : Sent)
    → n.state ≡ Freely es → (k ≡ OwnKey → c ≡ 0) → (key_eq k OwnKey ≡ false → 0 < c) → FreelyRoutes r e k s n new → Fits n new es r e c child s
fits n new es r (It x) k zero child out.Nothing was own other is = record { node_is = sym is.now; sends_is = λ g. refl }
fits n new es r (It x) k (suc c) child out.Nothing was own other is = absurd (let e : suc c ≡ 0 = own is.own in omega (arith, e))
fits n new es r (It x) k zero child (out.Item y) was own other is = absurd (let e : 0 < 0 = other is.other in omega (arith, e))
fits n new es r (It x) k (suc c) child (out.Item y) was own other is =
    record { node_is = sym is.now; sends_is = λ g. ap (λ z. send (ToNode child.entry) (It z ∷ []) g) (sym is.same) }
fits n new es r (It x) k c child out.Marks was own other is = absurd is
fits n new es r Mark k c child out.Nothing was own other is = absurd is
fits n new es r Mark k c child (out.Item y) was own other is = absurd is
fits n new es r Mark k c child out.Marks was own other is =
    let of : State → Epochs = epochs_in es in
    let e : es ≡ is.epochs = ap of (sym was ∙ is.was) in
    record {
      node_is = ap (λ f. keeps (Freely (closed f)) (child_gives 0 (Mark ∷ []) (passed n))) e ∙ sym is.now;
      sends_is = λ g. marks_are (rest_of n.children) g;
    }
  where
    epochs_in : Epochs → State → Epochs
    epochs_in d (Freely f) = f
    epochs_in d other = d
fits n new es r End k c child out.Nothing was own other is = record { node_is = sym is; sends_is = λ g. refl }
fits n new es r End k c child (out.Item y) was own other is = absurd is
fits n new es r End k c child out.Marks was own other is = absurd is

-- marks are sent for a mark, and an item for one that goes to another child than child 0
marks_for : (r : Router ModelItem) (e : Entry ModelItem) (k : StreamKey) (n new : view.Node) → FreelyRoutes r e k out.Marks n new → e ≡ Mark
marks_for r (It x) k n new is = absurd is
marks_for r Mark k n new is = refl
marks_for r End k n new is = absurd is

item_for : (r : Router ModelItem) (e : Entry ModelItem) (k : StreamKey) (y : _) (n new : view.Node) → FreelyRoutes r e k (out.Item y) n new → key_eq k OwnKey ≡ false
item_for r (It x) k y n new is = is.other
item_for r Mark k y n new is = absurd is
item_for r End k y n new is = absurd is

module _ (g : View) (i : ℕ) (way : Way) (goes : Goes g i way) (m : view.Node) (own : OwnIsFirst i g)
    (free : IfSome (node_at i g) (λ n. is_freely n.state ≡ true)) (s : Sent)
    (is : FreelyRoutes goes.goes.by.router goes.goes.by.entry (stream_key way.key) s goes.node m) where
  is_free : is_freely goes.node.state ≡ true
  is_free = let P : Option view.Node → Type 0 = λ o. IfSome o (λ n. is_freely n.state ≡ true) in subst P goes.there free

  abbrev es : Epochs
  es = (free_epochs goes.node.state is_free).0

  own_zero : stream_key way.key ≡ OwnKey → way.child ≡ 0
  own_zero key =
      let f : Option ℕ → ℕ = λ o. unwrap_or o way.child in
      ap f (sym goes.number ∙ ap (child_of goes.node.children) key ∙ own goes.node goes.there goes.fork)

  what : Routed
  what = free_routed goes.node es goes.goes.by.router goes.goes.by.entry way.child (Some goes.child)

  fitting : Fits goes.node m es goes.goes.by.router goes.goes.by.entry way.child goes.child s
  fitting = fits goes.node m es goes.goes.by.router goes.goes.by.entry (stream_key way.key) way.child goes.child s (free_epochs goes.node.state is_free).1 own_zero (way_more g i way goes own) is

  found : routed_node goes.node (routing_of g goes.node) ≡ Some what
  unfolding what
  found =
      ap (routed_node goes.node) goes.goes.is
      ∙ ap (child_routed goes.node goes.goes.by) (ap (child_of goes.node.children) goes.goes.key ∙ goes.number)
      ∙ ap (λ t. state_routed goes.node t goes.goes.by.router goes.goes.by.entry way.child (slice_get goes.node.children way.child)) (free_epochs goes.node.state is_free).1
      ∙ ap (λ o. Some (free_routed goes.node es goes.goes.by.router goes.goes.by.entry way.child o)) goes.at

  pub freely_after : sent_on s way.entry (map (λ (child : view.Child). child.entry) (rest_of goes.node.children)) (record g { nodes = changed_at i (λ old. m) g.nodes }) ≡ after g (Route i)
  unfolding what
  freely_after =
      sym (route_after i goes.node g goes.there what found
      ∙ ap (λ n. sent what.sends (record g { nodes = changed_at i (λ old. n) g.nodes })) fitting.node_is
      ∙ fitting.sends_is (record g { nodes = changed_at i (λ old. m) g.nodes })
      ∙ ap (λ entry. sent_on s entry (map (λ (child : view.Child). child.entry) (rest_of goes.node.children)) (record g { nodes = changed_at i (λ old. m) g.nodes })) goes.entry)

-- `a` is the node behind the room that was made, `b` the node once it routed
module _ (old new : Arena) (i : ℕ) (way : Way) (goes : Goes (view_of old) i way) (a b : Node) (alike : view_of new ≡ view_of old)
    (within : i < length new.nodes.items) (read : a ≡ get_or new.nodes.items i a) where
  at_node_a : node_at i (view_of old) ≡ Some (node_of a)
  at_node_a = goes.there ∙ ap (λ n. Some n) (same_node old new i way goes a b alike within read)

  pub is_free_node : IfSome (node_at i (view_of old)) (λ n. is_freely n.state ≡ true) → is_freely (node_of a).state ≡ true
  is_free_node free = let P : Option view.Node → Type 0 = λ o. IfSome o (λ n. is_freely n.state ≡ true) in subst P at_node_a free

  pub few_node : IfSome (node_at i (view_of old)) (λ n. marks_below 4611686018427387904 n.state) → marks_below 4611686018427387904 (node_of a).state
  few_node few = let P : Option view.Node → Type 0 = λ o. IfSome o (λ n. marks_below 4611686018427387904 n.state) in subst P at_node_a few

  module _ (s : Sent) (own : OwnIsFirst i (view_of old)) (free : IfSome (node_at i (view_of old)) (λ n. is_freely n.state ≡ true)) (routed : IsRoutedAt i (view_of old))
      (routes_a : (r : Router ModelItem) (e : Entry ModelItem) → plain_entry (first_of (node_of a).waiting) ≡ Some e → EntryGoes r e way.key
      → FreelyRoutes r e (stream_key way.key) s (node_of a) (node_of b)) where
    is_routed : FreelyRoutes goes.goes.by.router goes.goes.by.entry (stream_key way.key) s goes.node (node_of b)
    is_routed =
        subst (λ n. FreelyRoutes goes.goes.by.router goes.goes.by.entry (stream_key way.key) s n (node_of b)) (sym (same_node old new i way goes a b alike within read))
        (routes_a goes.goes.by.router goes.goes.by.entry
        (ap (λ (n : view.Node). plain_entry (first_of n.waiting)) (sym (same_node old new i way goes a b alike within read)) ∙ plain (view_of old) i way goes)
        (entry_goes (view_of old) i way goes routed))

    pub past_after : (entries : List ℕ) → entries ≡ map (λ (child : view.Child). child.entry) (rest_of goes.node.children) → sent_on s way.entry entries (with_node new i b) ≡ after (view_of old) (Route i)
    past_after entries are =
        ap (λ es. sent_on s way.entry es (with_node new i b)) are
        ∙ ap (sent_on s way.entry (map (λ (child : view.Child). child.entry) (rest_of goes.node.children))) (put_is old new i way goes a b alike within read)
        ∙ freely_after (view_of old) i way goes (node_of b) own free s is_routed

    pub nothing_past : s ≡ out.Nothing → with_node new i b ≡ after (view_of old) (Route i)
    nothing_past none =
        let entries = map (λ (child : view.Child). child.entry) (rest_of goes.node.children) in
        sym (ap (λ t. sent_on t way.entry entries (with_node new i b)) none) ∙ past_after entries refl

    pub item_past : (y : _) → s ≡ out.Item y → send (ToNode way.entry) (It (modelled y) ∷ []) (with_node new i b) ≡ after (view_of old) (Route i)
    item_past y some =
        let entries = map (λ (child : view.Child). child.entry) (rest_of goes.node.children) in
        sym (ap (λ t. sent_on t way.entry entries (with_node new i b)) some) ∙ past_after entries refl

    pub item_more : (y : _) → s ≡ out.Item y → 0 < way.child
    item_more y some =
        way_more (view_of old) i way goes own
        (item_for goes.goes.by.router goes.goes.by.entry (stream_key way.key) y goes.node (node_of b)
        (subst (λ t. FreelyRoutes goes.goes.by.router goes.goes.by.entry (stream_key way.key) t goes.node (node_of b)) some is_routed))

    pub no_marks : s ≡ out.Marks → HasNoMark i (view_of old) → ⊥
    no_marks marks no_mark =
        no_mark goes.node goes.there
        (plain (view_of old) i way goes
        ∙ ap (λ e. Some e) (marks_for goes.goes.by.router goes.goes.by.entry (stream_key way.key) goes.node (node_of b)
        (subst (λ t. FreelyRoutes goes.goes.by.router goes.goes.by.entry (stream_key way.key) t goes.node (node_of b)) marks is_routed)))
