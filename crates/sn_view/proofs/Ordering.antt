-- What flows is in order at the start, and stays so after each event.
use Rattle.std.proofs.Common.{◌≡◌, ℕ, zero, suc, ◌+◌, ◌-◌, ◌≤◌, ◌<◌, ◌==◌, Bool, true, false, cond, IsTrue, List, [], ◌∷◌, ◌++◌, map, length, Option, Some, None, refl, sym, ap, ◌∙◌, subst, arith}
use Rattle.std.specs.Prelude.{slice_get, unwrap_or, is_some}
use Rattle.std.specs.List.{list_any}
use Rattle.std.specs.Option.{option_map}
use Rattle.sn_streams.specs.Forks.{Router, Free}
use Rattle.sn_streams.specs.Keys.{Key, key_eq, AreDistinct, is_among}
use Rattle.sn_streams.specs.Keys as key
use Rattle.sn_streams.specs.Trees.{Fork}
use Rattle.sn_net.specs.declared.net.Net.{Net}
use Rattle.sn_net.specs.declared.net.Net.TheOpen.{Net-F}
use Rattle.sn_net.specs.Cell.{CellState}
use Rattle.sn_net.specs.Item.{ModelItem}
use Rattle.sn_view.specs.Epochs.{Epochs, marked, is_passed, stands_at_output, closed, moved_on}
use Rattle.sn_model.specs.Run.{boxes_of, depth_of, fuel_of, net_of}
use Rattle.sn_model.specs.declared.run.Run.{Run}
use Rattle.sn_model.specs.Components.{box_item}
use Rattle.sn_view.specs.View.{Entry, It, Mark, End, Waiting, Plain, InFlight, Finished, Turn, To, Own, State, Alone, Cell, InTurn, Freely, Child, Target, Out, ToNode, Node, View, Happening, Take, Start, Finish, Local, Route, Unfold, Merge, Emit, changed_at, at_node, first_of, rest_of, child_gives}
use Rattle.sn_view.specs.Next.{after, Next, IsEnabled, start_view, if_node, form_of, took, next_input, first_called, has_no_call, may_start, is_box, with_answer, gets_answer, Given, box_gives, local_step, local_of, local_then, keeps, passed, gives, Routing, routing_of, needs, routed, routes_by, det_routes, free_routes, decides, decision_of, turn_of, group_of, unfolded, key_of, adds_child, new_nodes, may_merge, may_merge_by, merges_by, det_merges, free_merges, group_gives, mark_passes, kept_of, takes_kept, emitted}
use Rattle.sn_live.specs.Entries.{Entry as LiveEntry, Mark as LiveMark, count}
use Rattle.sn_live.specs.Live.{At, sub, subs, stands as stands_in, Node as LiveNode}
use Rattle.sn_live.specs.Flat.{at_steps}
use Rattle.sn_live.specs.Parts.{part, FreeSane}
use Rattle.sn_live.proofs.Within.{sane-at}
use Rattle.sn_view.specs.Seen.{step_of, erased, seen_kept, seen_node, live_of, tree_of}
use Rattle.sn_view.specs.Placed.{AllPlain, NoneToOwn, IsOrderlyState, IsOrderly, IsSane, IsFork, kind_of, WellPlaced}
use Rattle.sn_view.proofs.Children.{keys_of, keys-of-doors, kept-here}
use Rattle.sn_view.proofs.Events.{never, both-true, stands-at, Forked, forked, as_merge, free-kind}
use Rattle.sn_view.proofs.Keeping.{kept-is}
use Rattle.sn_view.proofs.Local.{here}
use Rattle.sn_view.proofs.Orders.{Each, each-changed, each-changed-at, each-mapped, each-append, Ord, to-own-append, to-own-rest, closed-orderly, epoch-orderly, marked-orderly, moved-orderly, all-new, made-new, new-orderly, child-orderly, takes-orderly, passed-orderly, keeps-orderly, send-orderly, all-orderly, entry-orderly}
use Rattle.sn_view.proofs.Whole.{next-run}

pub orderly-start : (run : Run) → IsOrderly (start_view run)
orderly-start run i n e = new-orderly (net_of run) n (all-new (depth_of run) (net_of run) [] [] Out 0 i n e)

contradiction : {X : Type 0} → true ≡ false → X
contradiction h = cc

-- Finish
plain-finished : (call : ℕ) (ws : List Waiting) → AllPlain ws → AllPlain (map (with_answer call) ws)
plain-finished call [] h = tt
plain-finished call (Plain e ∷ ws) h = plain-finished call ws h
plain-finished call (InFlight other given ∷ ws) h = absurd h
plain-finished call (Finished given ∷ ws) h = absurd h

-- Local: a component's state stays one of its sort
abbrev pub StaysComponent : State → State → Type 0
StaysComponent Alone Alone = Unit {0}
StaysComponent (Cell patterns cell) (Cell others after) = Unit {0}
StaysComponent old new = ⊥

given-component : (old st : State) (o : List (Entry ModelItem)) (given : Given) → StaysComponent old st → Some (record { state = st; entries = o }) ≡ Some given → StaysComponent old given.state
given-component old st o given h e = let u : record { state = st; entries = o } ≡ given = cc in subst (λ (x : Given). StaysComponent old x.state) u h

none-given : {X : Type 0} (given : Given) → None ≡ Some given → X
none-given given e = cc

pub local-component : (run : Run) (form : Option (Net-F Net)) (st : State) (w : Option Waiting) (given : Given) → local_step run form st w ≡ Some given → StaysComponent st given.state
local-component run None st w given e = none-given given e
local-component run (Some (Net-F.Serial left right)) st w given e = none-given given e
local-component run (Some (Net-F.Choice place merge branches faces)) st w given e = none-given given e
local-component run (Some (Net-F.Star place merge body exit guard)) st w given e = none-given given e
local-component run (Some (Net-F.Split place merge body id)) st w given e = none-given given e
local-component run (Some (Net-F.Box place number)) (Cell patterns cell) w given e = none-given given e
local-component run (Some (Net-F.Box place number)) (InTurn ds) w given e = none-given given e
local-component run (Some (Net-F.Box place number)) (Freely q) w given e = none-given given e
local-component run (Some (Net-F.Box place number)) Alone None given e = none-given given e
local-component run (Some (Net-F.Box place number)) Alone (Some w) given e = at (box_gives (box_item (boxes_of run) (fuel_of run) place number) w) e
  where
    at : (o : Option (List (Entry ModelItem))) → option_map (λ o. record { state = Alone; entries = o }) o ≡ Some given → StaysComponent Alone given.state
    at None e = none-given given e
    at (Some o) e = given-component Alone Alone o given tt e
local-component run (Some (Net-F.Filter filter)) (Cell patterns cell) w given e = none-given given e
local-component run (Some (Net-F.Filter filter)) (InTurn ds) w given e = none-given given e
local-component run (Some (Net-F.Filter filter)) (Freely q) w given e = none-given given e
local-component run (Some (Net-F.Filter filter)) Alone None given e = none-given given e
local-component run (Some (Net-F.Filter filter)) Alone (Some (InFlight call r)) given e = none-given given e
local-component run (Some (Net-F.Filter filter)) Alone (Some (Finished r)) given e = none-given given e
local-component run (Some (Net-F.Filter filter)) Alone (Some (Plain x)) given e = given-component Alone Alone _ given tt e
local-component run (Some (Net-F.Sync place own)) Alone w given e = none-given given e
local-component run (Some (Net-F.Sync place own)) (InTurn ds) w given e = none-given given e
local-component run (Some (Net-F.Sync place own)) (Freely q) w given e = none-given given e
local-component run (Some (Net-F.Sync place own)) (Cell patterns cell) None given e = none-given given e
local-component run (Some (Net-F.Sync place own)) (Cell patterns cell) (Some (InFlight call r)) given e = none-given given e
local-component run (Some (Net-F.Sync place own)) (Cell patterns cell) (Some (Finished r)) given e = none-given given e
local-component run (Some (Net-F.Sync place own)) (Cell patterns cell) (Some (Plain x)) given e = given-component (Cell patterns cell) (Cell patterns _) _ given tt e

component-orderly : (old new : State) → StaysComponent old new → IsOrderlyState new
component-orderly Alone Alone h = tt
component-orderly (Cell patterns cell) (Cell others after) h = tt
component-orderly Alone (Cell others after) h = absurd h
component-orderly Alone (InTurn ds) h = absurd h
component-orderly Alone (Freely q) h = absurd h
component-orderly (Cell patterns cell) Alone h = absurd h
component-orderly (Cell patterns cell) (InTurn ds) h = absurd h
component-orderly (Cell patterns cell) (Freely q) h = absurd h
component-orderly (InTurn ds) new h = absurd h
component-orderly (Freely q) new h = absurd h

-- Route
turned-past : (k : Key) (y : ModelItem) → NoneToOwn (It (turn_of k y) ∷ [])
turned-past key.Own y = tt
turned-past (key.Branch j) y = (refl, tt)
turned-past key.Inside y = (refl, tt)
turned-past (key.Value v) y = (refl, tt)

decided-past : (r : Router ModelItem) (x : Entry ModelItem) → NoneToOwn (decision_of r x ∷ [])
decided-past r (It x) = turned-past (r.key x) (r.own x)
decided-past r Mark = tt
decided-past r End = tt

module _ (net : Net) where
  module _ (i : ℕ) (n : Node) (g : View) (h : Each (Ord net) g.nodes) where
    -- a node is changed, and sends entries on
    gives-orderly : (f : Node → Node) → ((m : Node) → Ord net m → Ord net (f m)) → (goes : Target) (o : List (Entry ModelItem)) → Each (Ord net) (gives i f goes o g).nodes
    gives-orderly f keep goes o = send-orderly net goes o (at_node i f g) (each-changed (Ord net) f g.nodes i h keep)

    local-orderly : (o : Option Given) → local_of g n ≡ o → Each (Ord net) (local_then i n g o).nodes
    local-orderly None e = h
    local-orderly (Some given) e =
        gives-orderly (λ m. keeps given.state (passed m))
        (λ m k. keeps-orderly net given.state (component-orderly n.state given.state (local-component g.run (form_of g n) n.state (first_of n.waiting) given e)) (passed m) (passed-orderly net m k)) n.goes given.entries

    det-orderly : (ds : List (Entry Turn)) → NoneToOwn ds → (routing : Routing) (c : ℕ) → Each (Ord net) (det_routes i n ds routing c g).nodes
    det-orderly ds d routing c =
        entry-orderly net c (group_of routing.entry) (slice_get n.children c) (at_node i (decides ds (decision_of routing.router routing.entry)) g)
        (each-changed (Ord net) (decides ds (decision_of routing.router routing.entry)) g.nodes i h
        (λ m k. keeps-orderly net (InTurn (ds ++ decision_of routing.router routing.entry ∷ []))
        (to-own-append ds (decision_of routing.router routing.entry) d (decided-past routing.router routing.entry)) (passed m) (passed-orderly net m k)))

    free-orderly : (q : Epochs) → IsOrderlyState (Freely q) → (r : Router ModelItem) (x : Entry ModelItem) (c : ℕ) → Each (Ord net) (free_routes i n q r x c g).nodes
    free-orderly q s r (It x) zero = each-changed (Ord net) (λ m. child_gives 0 (It (r.own x) ∷ []) (passed m)) g.nodes i h (λ m k. child-orderly net 0 (It (r.own x) ∷ []) (passed m) (passed-orderly net m k))
    free-orderly q s r (It x) (suc c) =
        entry-orderly net (suc c) (It x ∷ []) (slice_get n.children (suc c)) (at_node i passed g) (each-changed (Ord net) passed g.nodes i h (passed-orderly net))
    free-orderly q s r Mark c =
        all-orderly net (rest_of n.children) (Mark ∷ []) (at_node i (λ m. keeps (Freely (closed q)) (child_gives 0 (Mark ∷ []) (passed m))) g)
        (each-changed (Ord net) (λ m. keeps (Freely (closed q)) (child_gives 0 (Mark ∷ []) (passed m))) g.nodes i h
        (λ m k. keeps-orderly net (Freely (closed q)) (closed-orderly q s) (child_gives 0 (Mark ∷ []) (passed m)) (child-orderly net 0 (Mark ∷ []) (passed m) (passed-orderly net m k))))
    free-orderly q s r End c = each-changed (Ord net) (λ m. child_gives 0 (End ∷ []) (passed m)) g.nodes i h (λ m k. child-orderly net 0 (End ∷ []) (passed m) (passed-orderly net m k))

    routes-orderly : (st : State) → IsOrderlyState st → (routing : Routing) (c : ℕ) → Each (Ord net) (routes_by i n st routing c g).nodes
    routes-orderly Alone s routing c = h
    routes-orderly (Cell patterns cell) s routing c = h
    routes-orderly (InTurn ds) s routing c = det-orderly ds s routing c
    routes-orderly (Freely q) s routing c = free-orderly q s routing.router routing.entry c

    routed-orderly : IsOrderlyState n.state → (o : Option Routing) → Each (Ord net) (routed i n o g).nodes
    routed-orderly s None = h
    routed-orderly s (Some routing) = at (needs n routing)
      where
        at : (o : Option ℕ) → Each (Ord net) (unwrap_or (option_map (λ c. routes_by i n n.state routing c g) o) g).nodes
        at None = h
        at (Some c) = routes-orderly n.state s routing c

    unfolded-orderly : (o : Option Routing) → Each (Ord net) (unfolded i n o g).nodes
    unfolded-orderly None = h
    unfolded-orderly (Some routing) =
        let k : Key = key_of routing.router routing.entry in
        each-append (Ord net) (changed_at i (adds_child k (length g.nodes)) g.nodes) (new_nodes (depth_of g.run) (form_of g n) k i n (length g.nodes))
        (each-changed (Ord net) (adds_child k (length g.nodes)) g.nodes i h (λ m o. record { calls = o.calls; state = epoch-orderly m.state o.state }))
        (λ j m e. new-orderly net m (made-new (depth_of g.run) (form_of g n) k i n (length g.nodes) j m e))

    group-orderly : (c : ℕ) (ds : List (Entry Turn)) → NoneToOwn ds → (o : Option (Entry ModelItem)) → Each (Ord net) (group_gives i n c ds o g).nodes
    group-orderly c ds d (Some (It y)) = gives-orderly (takes_kept c) (takes-orderly net c) n.goes (It y ∷ [])
    group-orderly c ds d (Some Mark) =
        each-changed (Ord net) (λ m. keeps (InTurn (rest_of ds)) (takes_kept c m)) g.nodes i h (λ m k. keeps-orderly net (InTurn (rest_of ds)) (to-own-rest ds d) (takes_kept c m) (takes-orderly net c m k))
    group-orderly c ds d (Some End) = each-changed (Ord net) (takes_kept c) g.nodes i h (takes-orderly net c)
    group-orderly c ds d None = h

    turn-orderly : (c : ℕ) (ds : List (Entry Turn)) → NoneToOwn ds → (o : Option (Entry Turn)) → Each (Ord net) (det_merges i n c ds o g).nodes
    turn-orderly c ds d (Some (It (Own y))) = gives-orderly (keeps (InTurn (rest_of ds))) (keeps-orderly net (InTurn (rest_of ds)) (to-own-rest ds d)) n.goes (It y ∷ [])
    turn-orderly c ds d (Some (It (To k))) = group-orderly c ds d (first_of (kept_of n.children c))
    turn-orderly c ds d (Some Mark) = gives-orderly (keeps (InTurn (rest_of ds))) (keeps-orderly net (InTurn (rest_of ds)) (to-own-rest ds d)) n.goes (Mark ∷ [])
    turn-orderly c ds d (Some End) = gives-orderly (keeps (InTurn (rest_of ds))) (keeps-orderly net (InTurn (rest_of ds)) (to-own-rest ds d)) n.goes (End ∷ [])
    turn-orderly c ds d None = h

    abbrev by-passing : ℕ → Epochs → Bool → View
    by-passing c q v = cond v (gives i (λ m. keeps (Freely (moved_on q)) (takes_kept c m)) n.goes (Mark ∷ []) g) (at_node i (λ m. keeps (Freely q) (takes_kept c m)) g)

    passes-orderly : (c : ℕ) (q : Epochs) → (is_passed q ≡ false → IsOrderlyState (Freely q)) → (is_passed q ≡ true → IsOrderlyState (Freely (moved_on q))) → Each (Ord net) (mark_passes i n c q g).nodes
    passes-orderly c q stays goes = at (is_passed q) refl
      where
        at : (b : Bool) → is_passed q ≡ b → Each (Ord net) (by-passing c q b).nodes
        at true p =
            gives-orderly (λ m. keeps (Freely (moved_on q)) (takes_kept c m)) (λ m k. keeps-orderly net (Freely (moved_on q)) (goes p) (takes_kept c m) (takes-orderly net c m k)) n.goes (Mark ∷ [])
        at false p = each-changed (Ord net) (λ m. keeps (Freely q) (takes_kept c m)) g.nodes i h (λ m k. keeps-orderly net (Freely q) (stays p) (takes_kept c m) (takes-orderly net c m k))

-- a mark that waits of a child in the output's epoch: the input is ahead of the output
module _ (g : View) (placed : WellPlaced g) (sane : (part (tree_of g)).sane (live_of g)) (i : ℕ) (n : Node) (there : slice_get g.nodes i ≡ Some n) (q : Epochs) (st : n.state ≡ Freely q) where
  is-fork : IsFork (kind_of n.state)
  is-fork = subst IsFork (sym (ap kind_of st)) tt

  fork : Forked g placed n
  fork = forked g placed i n there is-fork

  is : at_steps (tree_of g) (map step_of n.steps) ≡ Some (Fork Free fork.sends fork.child)
  is = as_merge g placed n fork Free (free-kind g placed n fork q st).0

  free-sane : FreeSane (λ k. part (fork.child k)) (subs (map step_of n.steps) (live_of g))
  free-sane = sane-at (tree_of g) (map step_of n.steps) (Fork Free fork.sends fork.child) (live_of g) is sane

  root : subs (map step_of n.steps) (live_of g) [] ≡ seen_node n
  root = here g i n there placed.distinct (stands-at g placed i n there)

  distinct : AreDistinct (keys_of n.children)
  distinct = subst AreDistinct (keys-of-doors n.children) (stands-at g placed i n there).keys

  more-than : (a s k m : ℕ) → s + (k + m) ≡ a → 1 ≤ k → 1 ≤ a
  more-than a s k m e h = omega (arith, e, h)

  ahead : (a b : ℕ) → 1 ≤ a - b → b < a
  ahead a b h = omega (arith, h)

  pub is-open : (c : ℕ) (child : Child) (ks : List (Entry ModelItem)) → slice_get n.children c ≡ Some child → child.kept ≡ Mark ∷ ks → q.output < q.input
  is-open c child ks u k =
      let inner : ℕ = (part (fork.child child.key)).marks (sub (subs (map step_of n.steps) (live_of g)) (At child.key)) in
      let a : stands_in (seen_node n) child.key + (count ((seen_node n).kept child.key) + inner) ≡ (seen_node n).ahead =
      subst (λ (l : LiveNode ModelItem CellState). stands_in l child.key + (count (l.kept child.key) + inner) ≡ l.ahead) root (free-sane.aligned child.key) in
      let kept : (seen_node n).kept child.key ≡ LiveMark ∷ erased ks =
      ap (λ (s : State). seen_kept s n.children child.key) st ∙ kept-here n.children c child u distinct ∙ ap erased k in
      let one : 1 ≤ count ((seen_node n).kept child.key) = subst (λ (w : List (LiveEntry ModelItem)). 1 ≤ count w) (sym kept) (omega arith) in
      let b : 1 ≤ (seen_node n).ahead = more-than (seen_node n).ahead (stands_in (seen_node n) child.key) (count ((seen_node n).kept child.key)) inner a one in
      ahead q.input q.output (subst (λ (s : State). 1 ≤ (seen_node (record n { state = s })).ahead) st b)

module _ (g : View) (k : WellPlaced g) (orderly : IsOrderly g) (sane : IsSane g) where
  abbrev net : Net
  net = (net_of g.run)

  free-merge : (i : ℕ) (n : Node) → slice_get g.nodes i ≡ Some n → (c : ℕ) (q : Epochs) → n.state ≡ Freely q → (o : Option Child) → slice_get n.children c ≡ o
      → may_merge_by (Freely q) c o ≡ true → Each (Ord net) (free_merges i n c q (first_of (kept_of n.children c)) g).nodes
  free-merge i n e c q st None u may = never may
  free-merge i n e c q st (Some child) u may =
      let at : (stands_at_output q c ≡ true) × (is_some (first_of child.kept) ≡ true) = both-true (stands_at_output q c) (is_some (first_of child.kept)) may in
      subst (λ (w : List (Entry ModelItem)). Each (Ord net) (free_merges i n c q (first_of w) g).nodes) (sym (kept-is n.children c child u))
      (by-first child.kept refl at.0)
    where
      is-output : (a b : ℕ) → (a == b) ≡ true → a ≡ b
      is-output a b h = grind (arith, h)

      there : (o : Option ℕ) → slice_get q.children c ≡ o → unwrap_or (option_map (λ epoch. epoch == q.output) o) false ≡ true → (m : ℕ) × (slice_get q.children c ≡ Some m) × (m ≡ q.output)
      there None h u = never u
      there (Some m) h u = (m, h, is-output m q.output u)

      by-first : (w : List (Entry ModelItem)) → child.kept ≡ w → stands_at_output q c ≡ true → Each (Ord net) (free_merges i n c q (first_of w) g).nodes
      by-first [] h at = orderly
      by-first (It y ∷ w) h at = gives-orderly net i n g orderly (takes_kept c) (takes-orderly net c) n.goes (It y ∷ [])
      by-first (End ∷ w) h at = gives-orderly net i n g orderly (takes_kept c) (takes-orderly net c) n.goes (End ∷ [])
      by-first (Mark ∷ w) h at =
          let m : (m : ℕ) × (slice_get q.children c ≡ Some m) × (m ≡ q.output) = there (slice_get q.children c) refl at in
          let over : q.output < q.input = is-open g k sane.live_sane i n e q st c child w u h in
          let s : IsOrderlyState (Freely q) = subst IsOrderlyState st (orderly i n e).state in
          passes-orderly net i n g orderly c (marked c q)
          (marked-orderly q c m.0 m.1 m.2 over s) (moved-orderly q c m.0 m.1 m.2 over s)

  merge-orderly : (i : ℕ) (n : Node) → slice_get g.nodes i ≡ Some n → (c : ℕ) (st : State) → n.state ≡ st → may_merge_by st c (slice_get n.children c) ≡ true → Each (Ord net) (merges_by i n c st g).nodes
  merge-orderly i n e c Alone st may = never may
  merge-orderly i n e c (Cell patterns cell) st may = never may
  merge-orderly i n e c (InTurn ds) st may = turn-orderly net i n g orderly c ds (subst IsOrderlyState st (orderly i n e).state) (first_of ds)
  merge-orderly i n e c (Freely q) st may = free-merge i n e c q st (slice_get n.children c) refl may

  start-orderly : (i : ℕ) (o : Option Node) → slice_get g.nodes i ≡ o → IsTrue (if_node (may_start g) false o)
      → Each (Ord net) (changed_at i (λ n. record n { waiting = first_called g.calls n.waiting }) g.nodes)
  start-orderly i None e may = never may
  start-orderly i (Some n) e may =
      let b : is_box (form_of g n) ≡ true = (both-true (is_box (form_of g n)) (list_any has_no_call n.waiting) may).0 in
      each-changed-at (Ord net) (λ n. record n { waiting = first_called g.calls n.waiting }) g.nodes i orderly
      (λ m u h. let same : n ≡ m = (let v : Some n ≡ Some m = sym e ∙ u in cc) in
      record { calls = λ no. contradiction (sym (ap (λ (x : Node). is_box (form_of g x)) (sym same) ∙ b) ∙ no); state = h.state })

  took-orderly : (o : Option ModelItem) → Each (Ord net) (took o g).nodes
  took-orderly None = send-orderly net (ToNode 0) (End ∷ []) (record g { ended = true }) orderly
  took-orderly (Some x) = send-orderly net (ToNode 0) (It x ∷ []) (record g { taken = g.taken + 1 }) orderly

  emitted-orderly : (o : Option (Entry ModelItem)) → Each (Ord net) (emitted o g).nodes
  emitted-orderly None = orderly
  emitted-orderly (Some (It y)) = orderly
  emitted-orderly (Some Mark) = orderly
  emitted-orderly (Some End) = orderly

  each-after : (e : Happening) → IsEnabled g e → Each (Ord net) (after g e).nodes
  each-after Take may = took-orderly (next_input g)
  each-after (Start i) may = start-orderly i (slice_get g.nodes i) refl may
  each-after (Finish call number place given) may =
      each-mapped (Ord net) (gets_answer call) g.nodes orderly (λ n h. record { calls = λ b. plain-finished call n.waiting (h.calls b); state = h.state })
  each-after (Local i) may = at (slice_get g.nodes i) refl
    where
      at : (o : Option Node) → slice_get g.nodes i ≡ o → Each (Ord net) (if_node (λ n. local_then i n g (local_of g n)) g o).nodes
      at None e = orderly
      at (Some n) e = local-orderly net i n g orderly (local_of g n) refl
  each-after (Route i) may = at (slice_get g.nodes i) refl
    where
      at : (o : Option Node) → slice_get g.nodes i ≡ o → Each (Ord net) (if_node (λ n. routed i n (routing_of g n) g) g o).nodes
      at None e = orderly
      at (Some n) e = routed-orderly net i n g orderly (orderly i n e).state (routing_of g n)
  each-after (Unfold i) may = at (slice_get g.nodes i) refl
    where
      at : (o : Option Node) → slice_get g.nodes i ≡ o → Each (Ord net) (if_node (λ n. unfolded i n (routing_of g n) g) g o).nodes
      at None e = orderly
      at (Some n) e = unfolded-orderly net i n g orderly (routing_of g n)
  each-after (Merge i c) may = at (slice_get g.nodes i) refl may
    where
      at : (o : Option Node) → slice_get g.nodes i ≡ o → IsTrue (if_node (λ n. may_merge n c) false o) → Each (Ord net) (if_node (λ n. merges_by i n c n.state g) g o).nodes
      at None e may = never may
      at (Some n) e may = merge-orderly i n e c n.state refl may
  each-after Emit may = emitted-orderly (first_of g.ready)

pub orderly-kept : (g : View) (e : Happening) → WellPlaced g → IsOrderly g → IsSane g → IsEnabled g e → IsOrderly (Next g e)
orderly-kept g e k orderly sane may =
    subst (λ (run : Run). Each (Ord (net_of run)) (after g e).nodes) (sym (next-run g e k sane may)) (each-after g k orderly sane e may)
