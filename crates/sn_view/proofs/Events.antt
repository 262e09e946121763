-- Each event that is enabled is at most one move.
use Rattle.std.proofs.Common.{◌≡◌, ℕ, zero, suc, ◌≤◌, nat_lt, arith, Bool, true, false, cond, not, ◌&&◌, IsTrue, List, [], ◌∷◌, ◌++◌, map, length, Option, Some, None, refl, sym, ap, ◌∙◌, subst, ◌⊎◌, inl, inr}
use Rattle.std.proofs.Math.ListN.{length-map}
use Rattle.std.specs.Prelude.{slice_get, is_some, unwrap_or}
use Rattle.std.specs.Option.{option_map}
use Rattle.sn_streams.specs.Forks.{Router, Merge as StreamMerge, Free, Deterministic}
use Rattle.sn_streams.specs.Keys.{Key, key_eq, AreDistinct, is_among}
use Rattle.sn_streams.specs.Keys as key
use Rattle.sn_streams.specs.Trees.{Fork, passing}
use Rattle.sn_streams.proofs.Keys.{same_key}
use Rattle.sn_net.specs.declared.net.Net.{Net}
use Rattle.sn_net.specs.declared.net.Net.TheOpen.{Net-F}
use Rattle.sn_net.specs.Cell.{Passing}
use Rattle.sn_net.specs.Dispatchers.{Network, router, merge_of, level_key}
use Rattle.sn_net.specs.Item.{ModelItem}
use Rattle.sn_net.specs.Route.{of_record, choice_key, split_key}
use Rattle.sn_view.specs.Epochs.{Epochs}
use Rattle.sn_model.specs.Meaning.{Setting}
use Rattle.sn_model.specs.Run.{depth_of, setting_of}
use Rattle.sn_view.specs.View.{Entry, It, Mark, End, Turn, To, Waiting, Plain, InFlight, Finished, State, Alone, Cell, InTurn, Freely, Child, Node, View, Local, Route, Unfold, Merge, at_node, first_of}
use Rattle.sn_view.specs.Next.{enabled, after, if_node, form_of, local_of, local_then, Given, may_merge, may_merge_by, merges_by, router_of, routing_of, both, plain_entry, child_of, has_key, key_of, routes_by, routed, may_route, is_fork, passed, keeps, turn_of, to_entry, to_all, det_routes, free_routes, new_nodes, unfolded, unfolded_by, may_unfold_then}
use Rattle.sn_live.specs.Parts.{part}
use Rattle.sn_live.specs.Live.{Step as LiveStep, At}
use Rattle.sn_live.specs.Flat.{at_steps, steps_eq, FreshAt}
use Rattle.sn_live.specs.Runs.{Move}
use Rattle.sn_view.specs.Seen.{step_of, seen_node, live_of, tree_of, running}
use Rattle.sn_view.specs.Placed.{Kind, IsInTurn, IsFreely, kind_of, fork_kind, IsFork, HasKind, fit, shape_of, Door, door_of, HasKey, Stands, WellPlaced, UnfoldsWell, Follows}
use Rattle.sn_view.proofs.Lists.{there-map, there-unmap, position-step, position-passes, position-first}
use Rattle.sn_view.proofs.Local.{local-follows}
use Rattle.sn_view.proofs.Children.{keys_of, keys-of-doors, key-among, not-own}
use Rattle.sn_view.proofs.Unfolds.{in-turn-unfolds, freely-unfolds}
use Rattle.sn_view.proofs.TurnMerges.{turn-merge-follows}
use Rattle.sn_view.proofs.TurnRoutes.{of_own as turn-of-own, of_mark as turn-of-mark, of_end as turn-of-end, of_child as turn-of-child}
use Rattle.sn_view.proofs.FreeRoutes.{of_own as free-of-own, of_mark as free-of-mark, of_end as free-of-end, of_child as free-of-child}
use Rattle.sn_view.proofs.FreeMerges.{free-merge-follows}

-- a dispatcher, as a fork
pub record ForkAt (t : Network) (form : Net-F Net) (left count : ℕ) (k : Kind) : Type 0 where
  pub merge : StreamMerge
  pub sends : Router ModelItem
  pub child : Key → Network
  pub is : t ≡ Fork merge sends child
  pub own : child key.Own ≡ passing sends Passing
  pub kind : k ≡ fork_kind merge count
  pub routes : router_of (Some form) left ≡ Some sends

pub fork-at : (s : Setting) (form : Net-F Net) (left count : ℕ) (k : Kind) → HasKind form count k → IsFork k → ForkAt (fit s form left) form left count k
fork-at s (Net-F.Box place number) left count k h f = absurd (subst IsFork h f)
fork-at s (Net-F.Filter filter) left count k h f = absurd (subst IsFork h f)
fork-at s (Net-F.Sync place patterns) left count k h f = absurd (subst IsFork h f)
fork-at s (Net-F.Serial first second) left count k h f = absurd h
fork-at s (Net-F.Choice place m branches faces) left count k h f = record { merge = merge_of m; sends = router place (of_record (choice_key faces)); child = _; is = refl; own = refl; kind = h; routes = refl }
fork-at s (Net-F.Star place m body exit guard) zero count k h f = record { merge = merge_of m; sends = router place (of_record (level_key place exit guard zero)); child = _; is = refl; own = refl; kind = h; routes = refl }
fork-at s (Net-F.Star place m body exit guard) (suc left) count k h f = record { merge = merge_of m; sends = router place (of_record (level_key place exit guard (suc left))); child = _; is = refl; own = refl; kind = h; routes = refl }
fork-at s (Net-F.Split place m body id) left count k h f = record { merge = merge_of m; sends = router place (of_record (split_key id)); child = _; is = refl; own = refl; kind = h; routes = refl }

pub in-turn : (m : StreamMerge) (count : ℕ) → IsInTurn ≡ fork_kind m count → m ≡ Deterministic
in-turn Free count e = cc
in-turn Deterministic count e = refl

pub freely : (m : StreamMerge) (count n : ℕ) (b : Bool) → IsFreely n b ≡ fork_kind m count → (m ≡ Free) × (n ≡ count) × (b ≡ false)
freely Free count n b e = (refl, cc, cc)
freely Deterministic count n b e = cc

pub never : {X : Type 0} → false ≡ true → X
never h = cc

pub both-true : (a b : Bool) → (a && b) ≡ true → (a ≡ true) × (b ≡ true)
both-true true b e = (refl, e)
both-true false b e = never e

pub differ : (k : Key) (cs : List Child) → child_of cs k ≡ None → is_among k (keys_of cs) ≡ false
differ k [] h = refl
differ k (c ∷ cs) h = at (key_eq k c.key) (sym (position-step (has_key k) c cs) ∙ h) (differ k cs)
  where
    at : (b : Bool) → cond b (Some 0) (option_map suc (child_of cs k)) ≡ None → (child_of cs k ≡ None → is_among k (keys_of cs) ≡ false) → cond b true (is_among k (keys_of cs)) ≡ false
    at true h later = cc
    at false h later = later (none (child_of cs k) h)
      where
        none : (o : Option ℕ) → option_map suc o ≡ None → o ≡ None
        none None i = refl
        none (Some m) i = cc

module _ (g : View) (placed : WellPlaced g) where
  pub stands-at : (i : ℕ) (n : Node) → slice_get g.nodes i ≡ Some n → Stands (tree_of g) g.run (map shape_of g.nodes) (shape_of n)
  stands-at i n e = placed.all i (shape_of n) (there-map shape_of g.nodes i n e)

  nothing : Follows g g
  nothing = record { moves = inl refl; shapes = refl; run = refl }

  -- the node, with its state shown
  shown : (i : ℕ) (n : Node) (st : State) → n.state ≡ st → slice_get g.nodes i ≡ Some n → slice_get g.nodes i ≡ Some (record n { state = st })
  shown i n st h e = e ∙ ap (λ (s : State). let m : Option Node = Some (record n { state = s }) in m) h

  shown-stands : (i : ℕ) (n : Node) (st : State) → n.state ≡ st → slice_get g.nodes i ≡ Some n → Stands (tree_of g) g.run (map shape_of g.nodes) (shape_of (record n { state = st }))
  shown-stands i n st h e = let P : State → Type 0 = λ s. Stands (tree_of g) g.run (map shape_of g.nodes) (shape_of (record n { state = s })) in subst P h (stands-at i n e)

  -- the fork at a node
  pub record Forked (n : Node) : Type 0 where
    pub merge : StreamMerge
    pub sends : Router ModelItem
    pub child : Key → Network
    pub is : at_steps (tree_of g) (map step_of n.steps) ≡ Some (Fork merge sends child)
    pub own : child key.Own ≡ passing sends Passing
    pub kind : kind_of n.state ≡ fork_kind merge (length (map door_of n.children))
    pub routes : router_of (form_of g n) n.left ≡ Some sends

  pub forked : (i : ℕ) (n : Node) → slice_get g.nodes i ≡ Some n → IsFork (kind_of n.state) → Forked n
  forked i n e k =
      let s : Stands (tree_of g) g.run (map shape_of g.nodes) (shape_of n) = stands-at i n e in
      let f : ForkAt (fit (setting_of g.run) s.form n.left) s.form n.left (length (map door_of n.children)) (kind_of n.state) =
      fork-at (setting_of g.run) s.form n.left (length (map door_of n.children)) (kind_of n.state) s.has_kind k in
      record {
        merge = f.merge;
        sends = f.sends;
        child = f.child;
        is = s.fits ∙ ap (λ (t : Network). let o : Option Network = Some t in o) f.is;
        own = f.own;
        kind = f.kind;
        routes = ap (λ (o : Option (Net-F Net)). router_of o n.left) s.is_form ∙ f.routes;
      }

  pub as_merge : (n : Node) (f : Forked n) (m : StreamMerge) → f.merge ≡ m → at_steps (tree_of g) (map step_of n.steps) ≡ Some (Fork m f.sends f.child)
  as_merge n f m h = f.is ∙ ap (λ (k : StreamMerge). let o : Option Network = Some (Fork k f.sends f.child) in o) h

  -- a free dispatcher's epochs fit its children
  pub free-kind : (n : Node) (f : Forked n) (q : Epochs) → n.state ≡ Freely q → (f.merge ≡ Free) × (length q.children ≡ length n.children) × (q.output ≤ q.input)
  free-kind n f q st =
      let u : (f.merge ≡ Free) × (length q.children ≡ length (map door_of n.children)) × (nat_lt q.input q.output ≡ false) =
      freely f.merge (length (map door_of n.children)) (length q.children) (nat_lt q.input q.output) (sym (ap kind_of st) ∙ f.kind) in
      (u.0, u.1 ∙ length-map n.children door_of, at-most q.input q.output u.2)
    where
      at-most : (a b : ℕ) → nat_lt a b ≡ false → b ≤ a
      at-most a b h = grind (arith, h)

  -- Local
  pub local : (i : ℕ) → IsTrue (enabled g (Local i)) → Follows g (after g (Local i))
  local i may = at (slice_get g.nodes i) refl may
    where
      gives : (n : Node) → slice_get g.nodes i ≡ Some n → (o : Option Given) → local_of g n ≡ o → IsTrue (is_some o) → Follows g (local_then i n g o)
      gives n e None h may = never may
      gives n e (Some given) h may = local-follows g i n e placed.distinct (stands-at i n e) given h

      at : (o : Option Node) → slice_get g.nodes i ≡ o → IsTrue (if_node (λ n. is_some (local_of g n)) false o) → Follows g (if_node (λ n. local_then i n g (local_of g n)) g o)
      at None e may = never may
      at (Some n) e may = gives n e (local_of g n) refl may

  -- Merge
  module _ (i c : ℕ) where
    merges : (n : Node) → slice_get g.nodes i ≡ Some n → (st : State) → n.state ≡ st → may_merge_by st c (slice_get n.children c) ≡ true → Follows g (merges_by i n c st g)
    merges n e Alone h may = never may
    merges n e (Cell patterns cell) h may = never may
    merges n e (InTurn ds) h may =
        let f : Forked n = forked i n e (subst IsFork (sym (ap kind_of h)) tt) in
        turn-merge-follows g i n ds (shown i n (InTurn ds) h e) placed.distinct (shown-stands i n (InTurn ds) h e) f.sends f.child
        (as_merge n f Deterministic (in-turn f.merge (length (map door_of n.children)) (sym (ap kind_of h) ∙ f.kind))) f.own c may
    merges n e (Freely q) h may =
        let f : Forked n = forked i n e (subst IsFork (sym (ap kind_of h)) tt) in
        free-merge-follows g i n q (shown i n (Freely q) h e) placed.distinct (shown-stands i n (Freely q) h e) f.sends f.child
        (as_merge n f Free (free-kind n f q h).0) f.own (free-kind n f q h).1 c may

    pub merge : IsTrue (enabled g (Merge i c)) → Follows g (after g (Merge i c))
    merge may = at (slice_get g.nodes i) refl may
      where
        at : (o : Option Node) → slice_get g.nodes i ≡ o → IsTrue (if_node (λ n. may_merge n c) false o) → Follows g (if_node (λ n. merges_by i n c n.state g) g o)
        at None e may = never may
        at (Some n) e may = merges n e n.state refl may

  -- Route
  module _ (sane : (part (tree_of g)).sane (live_of g)) (i : ℕ) where
    key-first : (n : Node) → slice_get g.nodes i ≡ Some n → IsFork (kind_of n.state) → (c : ℕ) → child_of n.children key.Own ≡ Some c → c ≡ 0
    key-first n e f c h = at n.children refl h ((stands-at i n e).own_first f)
      where
        at : (cs : List Child) → n.children ≡ cs → child_of cs key.Own ≡ Some c → HasKey (map door_of cs) 0 key.Own → c ≡ 0
        at [] u h (door, t, k) = cc
        at (x ∷ cs) u h (door, t, k) =
            let v : door_of x ≡ door = cc in
            position-first (has_key key.Own) x cs c (ap (λ (j : Key). key_eq key.Own j) (ap (λ (d : Door). d.key) v ∙ k)) h

    -- the key of an item that passes by is that of child 0
    passes-by : (n : Node) → slice_get g.nodes i ≡ Some n → IsFork (kind_of n.state) → (k : Key) → child_of n.children k ≡ Some 0 → k ≡ key.Own
    passes-by n e f k h = at n.children refl (position-passes (has_key k) n.children 0 h) ((stands-at i n e).own_first f)
      where
        at : (cs : List Child) → n.children ≡ cs → (x : Child) × (slice_get n.children 0 ≡ Some x) × (key_eq k x.key ≡ true) → HasKey (map door_of cs) 0 key.Own → k ≡ key.Own
        at [] u (x, t, m) (door, p, q) = cc
        at (y ∷ cs) u (x, t, m) (door, p, q) =
            let v : Some y ≡ Some x = sym (ap (λ (zs : List Child). slice_get zs 0) u) ∙ t in
            let w : y ≡ x = cc in
            let d : door_of y ≡ door = cc in
            same_key k x.key m ∙ sym (ap (λ (z : Child). z.key) w) ∙ ap (λ (z : Door). z.key) d ∙ q

    -- the other children have other keys
    past-own : (n : Node) → slice_get g.nodes i ≡ Some n → IsFork (kind_of n.state) → (c : ℕ) (x : Child) → slice_get n.children (suc c) ≡ Some x → key_eq x.key key.Own ≡ false
    past-own n e f c x h =
        not-own n.children c x (subst AreDistinct (keys-of-doors n.children) (stands-at i n e).keys) ((stands-at i n e).own_first f) h

    turn-to : (k : Key) (y : ModelItem) → key_eq k key.Own ≡ false → turn_of k y ≡ To k
    turn-to key.Own y h = never (sym h)
    turn-to (key.Branch j) y h = refl
    turn-to key.Inside y h = refl
    turn-to (key.Value v) y h = refl

    module _ (n : Node) (e : slice_get g.nodes i ≡ Some n) (r : Router ModelItem) where
      -- a deterministic dispatcher
      module _ (ds : List (Entry Turn)) (st : n.state ≡ InTurn ds) (child : Key → Network) (is : at_steps (tree_of g) (map step_of n.steps) ≡ Some (Fork Deterministic r child)) (own : child key.Own ≡ passing r Passing) where
        is_fork_here : IsFork (kind_of n.state)
        is_fork_here = subst IsFork (sym (ap kind_of st)) tt

        in-order : (x : Entry ModelItem) (ws : List Waiting) → n.waiting ≡ Plain x ∷ ws → (c : ℕ) → child_of n.children (key_of r x) ≡ Some c
            → Follows g (det_routes i n ds (record { router = r; entry = x }) c g)
        in-order (It x) ws h zero f =
            let k : r.key x ≡ key.Own = passes-by n e is_fork_here (r.key x) f in
            subst (λ (t : Turn). Follows g (at_node i (λ m. keeps (InTurn (ds ++ It t ∷ [])) (passed m)) g)) (sym (ap (λ (j : Key). turn_of j (r.own x)) k))
            (turn-of-own g i n ds (shown i n (InTurn ds) st e) placed.distinct (shown-stands i n (InTurn ds) st e) r child is own x ws h k)
        in-order (It x) ws h (suc c) f =
            let y : (z : Child) × (slice_get n.children (suc c) ≡ Some z) × (key_eq (r.key x) z.key ≡ true) = position-passes (has_key (r.key x)) n.children (suc c) f in
            let k : r.key x ≡ y.0.key = same_key (r.key x) y.0.key y.2 in
            let p : key_eq y.0.key key.Own ≡ false = past-own n e is_fork_here c y.0 y.1 in
            let V : Turn → View = λ t. at_node i (λ m. keeps (InTurn (ds ++ It t ∷ [])) (passed m)) g in
            subst (λ (o : Option Child). Follows g (to_entry (suc c) (It x ∷ Mark ∷ []) o (V (turn_of (r.key x) (r.own x))))) (sym y.1)
            (subst (λ (t : Turn). Follows g (to_all (y.0 ∷ []) (It x ∷ Mark ∷ []) (V t))) (sym (turn-to (r.key x) (r.own x) (ap (λ (j : Key). key_eq j key.Own) k ∙ p)))
            (turn-of-child g i n ds (shown i n (InTurn ds) st e) placed.distinct (shown-stands i n (InTurn ds) st e) r child is own x ws h c y.0 y.1 k p))
        in-order Mark ws h c f =
            subst (λ (m : ℕ). Follows g (det_routes i n ds (record { router = r; entry = Mark }) m g)) (sym (key-first n e is_fork_here c f))
            (turn-of-mark g i n ds (shown i n (InTurn ds) st e) placed.distinct (shown-stands i n (InTurn ds) st e) r child is own ws h)
        in-order End ws h c f =
            subst (λ (m : ℕ). Follows g (det_routes i n ds (record { router = r; entry = End }) m g)) (sym (key-first n e is_fork_here c f))
            (turn-of-end g i n ds (shown i n (InTurn ds) st e) placed.distinct (shown-stands i n (InTurn ds) st e) r child is own ws h)

      -- a free one
      module _ (q : Epochs) (st : n.state ≡ Freely q) (order : q.output ≤ q.input) (child : Key → Network) (is : at_steps (tree_of g) (map step_of n.steps) ≡ Some (Fork Free r child)) (own : child key.Own ≡ passing r Passing) where
        is_fork_there : IsFork (kind_of n.state)
        is_fork_there = subst IsFork (sym (ap kind_of st)) tt

        freely-sent : (x : Entry ModelItem) (ws : List Waiting) → n.waiting ≡ Plain x ∷ ws → (c : ℕ) → child_of n.children (key_of r x) ≡ Some c
            → Follows g (free_routes i n q r x c g)
        freely-sent (It x) ws h zero f =
            free-of-own g i n q (shown i n (Freely q) st e) placed.distinct (shown-stands i n (Freely q) st e) r child is own x ws h (passes-by n e is_fork_there (r.key x) f)
        freely-sent (It x) ws h (suc c) f =
            let y : (z : Child) × (slice_get n.children (suc c) ≡ Some z) × (key_eq (r.key x) z.key ≡ true) = position-passes (has_key (r.key x)) n.children (suc c) f in
            subst (λ (o : Option Child). Follows g (to_entry (suc c) (It x ∷ []) o (at_node i passed g))) (sym y.1)
            (free-of-child g i n q (shown i n (Freely q) st e) placed.distinct (shown-stands i n (Freely q) st e) r child is own x ws h c y.0 y.1 (same_key (r.key x) y.0.key y.2))
        freely-sent Mark ws h c f =
            free-of-mark g i n q (shown i n (Freely q) st e) placed.distinct (shown-stands i n (Freely q) st e) r child is own sane order ws h
        freely-sent End ws h c f =
            free-of-end g i n q (shown i n (Freely q) st e) placed.distinct (shown-stands i n (Freely q) st e) r child is own ws h

      sent : (x : Entry ModelItem) (ws : List Waiting) → n.waiting ≡ Plain x ∷ ws → (st : State) → n.state ≡ st → (c : ℕ) → child_of n.children (key_of r x) ≡ Some c
          → (f : Forked n) → f.sends ≡ r → Follows g (routes_by i n st (record { router = r; entry = x }) c g)
      sent x ws h Alone st c k f same = nothing
      sent x ws h (Cell patterns cell) st c k f same = nothing
      sent x ws h (InTurn ds) st c k f same =
          let is : at_steps (tree_of g) (map step_of n.steps) ≡ Some (Fork Deterministic r f.child) =
          as_merge n f Deterministic (in-turn f.merge (length (map door_of n.children)) (sym (ap kind_of st) ∙ f.kind)) ∙ ap (λ (s : Router ModelItem). let o : Option Network = Some (Fork Deterministic s f.child) in o) same in
          in-order ds st f.child is (f.own ∙ ap (λ (s : Router ModelItem). let t : Network = passing s Passing in t) same) x ws h c k
      sent x ws h (Freely q) st c k f same =
          let is : at_steps (tree_of g) (map step_of n.steps) ≡ Some (Fork Free r f.child) =
          as_merge n f Free (free-kind n f q st).0 ∙ ap (λ (s : Router ModelItem). let o : Option Network = Some (Fork Free s f.child) in o) same in
          freely-sent q st (free-kind n f q st).2 f.child is (f.own ∙ ap (λ (s : Router ModelItem). let t : Network = passing s Passing in t) same) x ws h c k

    by_first : (n : Node) → slice_get g.nodes i ≡ Some n → (w : List Waiting) → n.waiting ≡ w → may_route n (both (router_of (form_of g n) n.left) (plain_entry (first_of w))) ≡ true
        → Follows g (routed i n (both (router_of (form_of g n) n.left) (plain_entry (first_of w))) g)
    by_first n e w h may = at w h (router_of (form_of g n) n.left) refl may
      where
        fork-there : (st : State) → n.state ≡ st → is_fork st ≡ true → IsFork (kind_of n.state)
        fork-there Alone u k = never k
        fork-there (Cell patterns cell) u k = never k
        fork-there (InTurn ds) u k = subst IsFork (sym (ap kind_of u)) tt
        fork-there (Freely q) u k = subst IsFork (sym (ap kind_of u)) tt

        by_child : (r : Router ModelItem) → router_of (form_of g n) n.left ≡ Some r → (x : Entry ModelItem) (ws : List Waiting) → n.waiting ≡ Plain x ∷ ws → (o : Option ℕ) → child_of n.children (key_of r x) ≡ o
            → (is_fork n.state && is_some o) ≡ true
            → Follows g (unwrap_or (option_map (λ c. routes_by i n n.state (record { router = r; entry = x }) c g) o) g)
        by_child r k x ws h None f may = nothing
        by_child r k x ws h (Some c) f may =
            let fk : Forked n = forked i n e (fork-there n.state refl (both-true (is_fork n.state) true may).0) in
            let same : fk.sends ≡ r = (let u : Some fk.sends ≡ Some r = sym fk.routes ∙ k in cc) in
            sent n e r x ws h n.state refl c f fk same

        at : (w : List Waiting) → n.waiting ≡ w → (o : Option (Router ModelItem)) → router_of (form_of g n) n.left ≡ o → may_route n (both o (plain_entry (first_of w))) ≡ true
            → Follows g (routed i n (both o (plain_entry (first_of w))) g)
        at [] h None k may = never may
        at [] h (Some r) k may = never may
        at (Plain x ∷ ws) h None k may = never may
        at (Plain x ∷ ws) h (Some r) k may = by_child r k x ws h (child_of n.children (key_of r x)) refl may
        at (InFlight call given ∷ ws) h None k may = never may
        at (InFlight call given ∷ ws) h (Some r) k may = never may
        at (Finished given ∷ ws) h None k may = never may
        at (Finished given ∷ ws) h (Some r) k may = never may

    pub route : IsTrue (enabled g (Route i)) → Follows g (after g (Route i))
    route may = at (slice_get g.nodes i) refl may
      where
        at : (o : Option Node) → slice_get g.nodes i ≡ o → IsTrue (if_node (λ n. may_route n (routing_of g n)) false o) → Follows g (if_node (λ n. routed i n (routing_of g n) g) g o)
        at None e may = never may
        at (Some n) e may = by_first n e n.waiting refl may

  -- Unfold
  module _ (unfolds_well : UnfoldsWell g) (i : ℕ) where
    abbrev Unfolded : View → Type 0
    Unfolded g2 = (running g2 ≡ running g) ⊎ Move (part (tree_of g)) (running g) (running g2)

    is-fork-kind : (st : State) → is_fork st ≡ true → IsFork (kind_of st)
    is-fork-kind Alone k = never k
    is-fork-kind (Cell patterns cell) k = never k
    is-fork-kind (InTurn ds) k = tt
    is-fork-kind (Freely q) k = tt

    own-among : (n : Node) → slice_get g.nodes i ≡ Some n → is_fork n.state ≡ true → is_among key.Own (keys_of n.children) ≡ true
    own-among n e fork =
        let h : HasKey (map door_of n.children) 0 key.Own = (stands-at i n e).own_first (is-fork-kind n.state fork) in
        let c : (x : Child) × (slice_get n.children 0 ≡ Some x) × (door_of x ≡ h.0) = there-unmap door_of n.children 0 h.0 h.1 in
        ap (λ (k : Key). is_among k (keys_of n.children)) (sym (ap (λ (d : Door). d.key) c.2 ∙ h.2)) ∙ key-among n.children 0 c.0 c.1

    abbrev Well : Node → ModelItem → (Key → Network) → Router ModelItem → Type 0
    Well n x child r =
        ((j : ℕ) (m : Node) (q : List LiveStep) → slice_get g.nodes j ≡ Some m → steps_eq (map step_of n.steps ++ At (r.key x) ∷ q) (map step_of m.steps) ≡ false)
        × ((j : ℕ) (m : Node) → slice_get (new_nodes (depth_of g.run) (form_of g n) (r.key x) i n (length g.nodes)) j ≡ Some m
        → (q : List LiveStep) × (map step_of m.steps ≡ map step_of n.steps ++ At (r.key x) ∷ q) × FreshAt (child (r.key x)) q (seen_node m))

    makes : (n : Node) → slice_get g.nodes i ≡ Some n → (r : Router ModelItem) → router_of (form_of g n) n.left ≡ Some r → (x : Entry ModelItem) (ws : List Waiting) → n.waiting ≡ Plain x ∷ ws
        → child_of n.children (key_of r x) ≡ None → is_fork n.state ≡ true → (st : State) → n.state ≡ st → Unfolded (unfolded_by i n (key_of r x) g)
    makes n e r k Mark ws h none fork st s = never (sym (differ key.Own n.children none) ∙ own-among n e fork)
    makes n e r k End ws h none fork st s = never (sym (differ key.Own n.children none) ∙ own-among n e fork)
    makes n e r k (It x) ws h none fork Alone s = never (sym (ap is_fork s) ∙ fork)
    makes n e r k (It x) ws h none fork (Cell patterns cell) s = never (sym (ap is_fork s) ∙ fork)
    makes n e r k (It x) ws h none fork (InTurn ds) s =
        let f : Forked n = forked i n e (is-fork-kind n.state fork) in
        let same : f.sends ≡ r = (let u : Some f.sends ≡ Some r = sym f.routes ∙ k in cc) in
        let well : Well n x f.child r =
        subst (λ (r1 : Router ModelItem). is_among (r1.key x) (keys_of n.children) ≡ false → Well n x f.child r1) same (unfolds_well i n x f.merge f.sends f.child e f.is f.routes (is-fork-kind n.state fork)) (differ (r.key x) n.children none) in
        inr (in-turn-unfolds g i n (new_nodes (depth_of g.run) (form_of g n) (r.key x) i n (length g.nodes)) (length g.nodes) e placed.distinct (stands-at i n e) (r.key x)
        f.merge f.sends f.child f.is well.0 well.1 x ws h
        (in-turn f.merge (length (map door_of n.children)) (sym (ap kind_of s) ∙ f.kind)) ds s)
    makes n e r k (It x) ws h none fork (Freely q) s =
        let f : Forked n = forked i n e (is-fork-kind n.state fork) in
        let same : f.sends ≡ r = (let u : Some f.sends ≡ Some r = sym f.routes ∙ k in cc) in
        let well : Well n x f.child r =
        subst (λ (r1 : Router ModelItem). is_among (r1.key x) (keys_of n.children) ≡ false → Well n x f.child r1) same (unfolds_well i n x f.merge f.sends f.child e f.is f.routes (is-fork-kind n.state fork)) (differ (r.key x) n.children none) in
        inr (freely-unfolds g i n (new_nodes (depth_of g.run) (form_of g n) (r.key x) i n (length g.nodes)) (length g.nodes) e placed.distinct (stands-at i n e) (r.key x)
        f.merge f.sends f.child f.is well.0 well.1 x ws h
        (free-kind n f q s).0 q s (free-kind n f q s).1)

    not-some : (o : Option ℕ) → not (is_some o) ≡ true → o ≡ None
    not-some None h = refl
    not-some (Some c) h = never h

    makes-first : (n : Node) → slice_get g.nodes i ≡ Some n → (w : List Waiting) → n.waiting ≡ w → (o : Option (Router ModelItem)) → router_of (form_of g n) n.left ≡ o
        → may_unfold_then n (both o (plain_entry (first_of w))) ≡ true → Unfolded (unfolded i n (both o (plain_entry (first_of w))) g)
    makes-first n e [] h None k may = never may
    makes-first n e [] h (Some r) k may = never may
    makes-first n e (Plain x ∷ ws) h None k may = never may
    makes-first n e (InFlight call given ∷ ws) h None k may = never may
    makes-first n e (InFlight call given ∷ ws) h (Some r) k may = never may
    makes-first n e (Finished given ∷ ws) h None k may = never may
    makes-first n e (Finished given ∷ ws) h (Some r) k may = never may
    makes-first n e (Plain x ∷ ws) h (Some r) k may =
        let u : (is_fork n.state ≡ true) × (not (is_some (child_of n.children (key_of r x))) ≡ true) = both-true (is_fork n.state) (not (is_some (child_of n.children (key_of r x)))) may in
        makes n e r k x ws h (not-some (child_of n.children (key_of r x)) u.1) u.0 n.state refl

    pub makes-child : IsTrue (enabled g (Unfold i)) → Unfolded (after g (Unfold i))
    makes-child may = at (slice_get g.nodes i) refl may
      where
        at : (o : Option Node) → slice_get g.nodes i ≡ o → IsTrue (if_node (λ n. may_unfold_then n (routing_of g n)) false o) → Unfolded (if_node (λ n. unfolded i n (routing_of g n) g) g o)
        at None e may = never may
        at (Some n) e may = makes-first n e n.waiting refl (router_of (form_of g n) n.left) refl may
