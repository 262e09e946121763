-- A component has no children, and child 0 of a deterministic dispatcher keeps nothing: at the start, and after each event.
use Rattle.std.proofs.Common.{◌≡◌, ℕ, zero, suc, ◌+◌, ◌-◌, Bool, true, false, cond, IsTrue, List, [], ◌∷◌, ◌++◌, map, length, Option, Some, None, refl, sym, ap, ◌∙◌, subst}
use Rattle.std.specs.Prelude.{slice_get, unwrap_or}
use Rattle.std.specs.Option.{option_map}
use Rattle.sn_streams.specs.Keys.{Key}
use Rattle.sn_streams.specs.Keys as key
use Rattle.sn_net.specs.declared.net.Merge.{Merge as MergeKind}
use Rattle.sn_net.specs.declared.net.Merge.TheVariants as kind
use Rattle.sn_net.specs.declared.net.Net.{Net}
use Rattle.sn_net.specs.declared.net.Net.TheOpen.{Net-F}
use Rattle.sn_net.specs.declared.net.Net.TheFolds.{fold-roll-Net, ind-Net, map-Net}
use Rattle.sn_net.specs.declared.net.Net.TheViews.{roll-Net}
use Rattle.sn_net.specs.Cell.{new_cell}
use Rattle.sn_net.specs.Item.{ModelItem}
use Rattle.sn_model.specs.declared.run.Run.{Run}
use Rattle.sn_model.specs.Run.{depth_of, net_of}
use Rattle.sn_model.specs.declared.step.Step.{Step}
use Rattle.sn_model.specs.declared.step.Step.TheVariants as step
use Rattle.sn_view.specs.Epochs.{Epochs, closed, is_passed, marked, moved_on}
use Rattle.sn_view.specs.View.{Entry, It, Mark, End, Turn, To, Own, State, Alone, Cell, InTurn, Freely, Child, Target, Out, ToNode, ToChild, Node, View, Happening, Take, Start, Finish, Local, Route, Unfold, Merge, Emit, changed_at, at_node, first_of, rest_of, waits_more, child_gives, keeps_more}
use Rattle.sn_view.specs.Next.{after, IsEnabled, start_view, if_node, form_of, took, next_input, first_called, gets_answer, Given, local_of, local_then, keeps, passed, gives, send, plain, Routing, routing_of, needs, routed, routes_by, det_routes, free_routes, decides, decision_of, group_of, unfolded, key_of, adds_child, with_epoch, more_children, new_nodes, may_unfold_then, is_fork, to_all, to_entry, merges_by, det_merges, free_merges, group_gives, mark_passes, kept_of, takes_kept, emitted}
use Rattle.sn_view.specs.Parts.{Plan, alone, new_node, own_child, dispatcher, unfolding_fork, branch_nodes, plan, plan_step}
use Rattle.sn_view.specs.Placed.{KeepsAside, own_kept, Sends, WellPlaced, shape_of}
use Rattle.sn_live.specs.Live.{Target as LiveTarget, Out as LiveOut, ToNode as LiveToNode, ToKept}
use Rattle.sn_live.specs.Parts.{part}
use Rattle.sn_view.specs.Seen.{step_of, tree_of}
use Rattle.sn_view.proofs.Events.{both-true, never, stands-at}
use Rattle.sn_view.proofs.Ordering.{StaysComponent, local-component}
use Rattle.sn_view.proofs.Orders.{Each, each-append, each-changed, each-changed-at, each-cons, each-mapped, each-none}

abbrev pub Aside : Node → Type 0
Aside n = KeepsAside n.state n.children

-- where the children are the same
as_before : (st : State) (cs ds : List Child) → own_kept ds ≡ own_kept cs → (cs ≡ [] → ds ≡ []) → KeepsAside st cs → KeepsAside st ds
as_before Alone cs ds kept none h = none h
as_before (Cell patterns cell) cs ds kept none h = none h
as_before (InTurn turns) cs ds kept none h = kept ∙ h
as_before (Freely epochs) cs ds kept none h = tt

none_changed : {X : Type 0} (i : ℕ) (f : X → X) (xs : List X) → xs ≡ [] → changed_at i f xs ≡ []
none_changed i f [] e = refl
none_changed i f (x ∷ xs) e = cc

-- entries that are sent, but for those to child 0
waits-aside : (o : List (Entry ModelItem)) (n : Node) → Aside n → Aside (waits_more (plain o) n)
waits-aside o n h = h

kept-aside : (c : ℕ) (o : List (Entry ModelItem)) (cs : List Child) → own_kept (changed_at (suc c) (keeps_more o) cs) ≡ own_kept cs
kept-aside c o [] = refl
kept-aside c o (x ∷ cs) = refl

child-aside : (c : ℕ) (o : List (Entry ModelItem)) (n : Node) → Aside n → Aside (child_gives (suc c) o n)
child-aside c o n h = as_before n.state n.children (changed_at (suc c) (keeps_more o) n.children) (kept-aside c o n.children) (none_changed (suc c) (keeps_more o) n.children) h

taken-aside : (st : State) (c : ℕ) (cs : List Child) → KeepsAside st cs → KeepsAside st (changed_at c (λ child. record child { kept = rest_of child.kept }) cs)
taken-aside Alone c cs h = none_changed c _ cs h
taken-aside (Cell patterns cell) c cs h = none_changed c _ cs h
taken-aside (Freely epochs) c cs h = tt
taken-aside (InTurn turns) c [] h = refl
taken-aside (InTurn turns) zero (x ∷ cs) h = ap rest_of h
taken-aside (InTurn turns) (suc c) (x ∷ cs) h = h

takes-aside : (c : ℕ) (n : Node) → Aside n → Aside (takes_kept c n)
takes-aside c n h = taken-aside n.state c n.children h

-- where a node sends what it gives: never to child 0
abbrev Spares : Target → Type 0
Spares Out = Unit {0}
Spares (ToNode j) = Unit {0}
Spares (ToChild j zero) = ⊥
Spares (ToChild j (suc c)) = Unit {0}

send-aside : (goes : Target) → Spares goes → (o : List (Entry ModelItem)) (g : View) → Each Aside g.nodes → Each Aside (send goes o g).nodes
send-aside Out s o g h = h
send-aside (ToNode j) s o g h = each-changed Aside (waits_more (plain o)) g.nodes j h (waits-aside o)
send-aside (ToChild j zero) s o g h = absurd s
send-aside (ToChild j (suc c)) s o g h = each-changed Aside (child_gives (suc c) o) g.nodes j h (child-aside c o)

all-aside : (cs : List Child) (o : List (Entry ModelItem)) (g : View) → Each Aside g.nodes → Each Aside (to_all cs o g).nodes
all-aside [] o g h = h
all-aside (c ∷ cs) o g h = all-aside cs o (send (ToNode c.entry) o g) (send-aside (ToNode c.entry) tt o g h)

entry-aside : (c : ℕ) (o : List (Entry ModelItem)) (child : Option Child) (g : View) → Each Aside g.nodes → Each Aside (to_entry c o child g).nodes
entry-aside zero o child g h = h
entry-aside (suc c) o (Some child) g h = send-aside (ToNode child.entry) tt o g h
entry-aside (suc c) o None g h = h

-- new nodes
abbrev MakesAside : Plan → Type 0
MakesAside p = (steps : List Step) (path : List ℕ) (goes : Target) (base : ℕ) → Each Aside (p.nodes steps path goes base)

dispatcher-aside : (m : MergeKind) (left : ℕ) (node : ℕ) (cs : List Child) (steps : List Step) (path : List ℕ) (goes : Target) → Aside (dispatcher m left (own_child node ∷ cs) steps path goes)
dispatcher-aside kind.Free left node cs steps path goes = tt
dispatcher-aside kind.Det left node cs steps path goes = refl

alone-aside : (st : State) → KeepsAside st [] → MakesAside (alone st)
alone-aside st h steps path goes base = each-cons Aside (new_node st steps path goes) [] h (each-none Aside)

unfolding-aside : (m : MergeKind) (left : ℕ) → MakesAside (unfolding_fork m left)
unfolding-aside m left steps path goes base = each-cons Aside (dispatcher m left (own_child base ∷ []) steps path goes) [] (dispatcher-aside m left base [] steps path goes) (each-none Aside)

module _ (depth : ℕ) where
  abbrev P : Net → Type 0
  P net = MakesAside (plan depth net)

  by-form : (z : Net-F Net) → MakesAside (plan_step depth (map-Net _ _ (plan depth) z)) → P (roll-Net z)
  by-form z h = subst MakesAside (sym (fold-roll-Net Plan (plan_step depth) z)) h

  branches-aside : (node i base : ℕ) (steps : List Step) (path : List ℕ) (es : List ((net : Net) × P net)) → Each Aside (branch_nodes node i base steps path (map (plan depth) (map (λ e. e.0) es)))
  branches-aside node i base steps path [] = each-none Aside
  branches-aside node i base steps path (e ∷ es) = each-append Aside _ _ (e.1 _ _ _ _) (branches-aside node (i + 1) _ steps path es)

  all-new-aside : (net : Net) → P net
  all-new-aside = ind-Net P (λ x y is. subst (λ z. P (roll-Net z)) is
      (elim y as (λ z. P (roll-Net (map-Net _ _ (λ e. e.0) z))) [
        | Net-F.Box place number ↦ by-form (Net-F.Box place number) (alone-aside Alone refl)
        | Net-F.Filter filter ↦ by-form (Net-F.Filter filter) (alone-aside Alone refl)
        | Net-F.Sync place patterns ↦ by-form (Net-F.Sync place patterns) (alone-aside (Cell patterns (new_cell patterns)) refl)
        | Net-F.Serial left right ↦ by-form (Net-F.Serial left.0 right.0) (λ steps path goes base. each-append Aside _ _ (left.1 _ _ _ _) (right.1 _ _ _ _))
        | Net-F.Choice place merge branches faces ↦ by-form (Net-F.Choice place merge (map (λ e. e.0) branches) faces)
            (λ steps path goes base. each-cons Aside _ _ (dispatcher-aside merge 0 base _ steps path goes) (branches-aside base 0 (base + 1) steps path branches))
        | Net-F.Star place merge body exit guard ↦ by-form (Net-F.Star place merge body.0 exit guard) (unfolding-aside merge depth)
        | Net-F.Split place merge body id ↦ by-form (Net-F.Split place merge body.0 id) (unfolding-aside merge 0)
      ]))

  made-aside : (form : Option (Net-F Net)) (k : Key) (i : ℕ) (n : Node) (base : ℕ) → Each Aside (new_nodes depth form k i n base)
  made-aside None k i n base = each-none Aside
  made-aside (Some (Net-F.Box place number)) k i n base = each-none Aside
  made-aside (Some (Net-F.Filter filter)) k i n base = each-none Aside
  made-aside (Some (Net-F.Sync place patterns)) k i n base = each-none Aside
  made-aside (Some (Net-F.Serial left right)) k i n base = each-none Aside
  made-aside (Some (Net-F.Choice place merge branches faces)) k i n base = each-none Aside
  made-aside (Some (Net-F.Star place merge body exit guard)) k i n base =
      each-append Aside _ _ (all-new-aside body _ _ _ _) (each-cons Aside _ [] (dispatcher-aside merge (n.left - 1) _ [] (n.steps ++ step.Inside ∷ step.Right ∷ []) n.path (ToChild i (length n.children))) (each-none Aside))
  made-aside (Some (Net-F.Split place merge body id)) key.Own i n base = each-none Aside
  made-aside (Some (Net-F.Split place merge body id)) (key.Branch j) i n base = each-none Aside
  made-aside (Some (Net-F.Split place merge body id)) key.Inside i n base = each-none Aside
  made-aside (Some (Net-F.Split place merge body id)) (key.Value v) i n base = all-new-aside body _ _ _ _

pub aside-start : (run : Run) → Each Aside (start_view run).nodes
aside-start run = all-new-aside (depth_of run) (net_of run) [] [] Out 0

-- a component keeps what it has: no children
component-aside : (old new : State) (cs : List Child) → StaysComponent old new → KeepsAside old cs → KeepsAside new cs
component-aside Alone Alone cs h k = k
component-aside (Cell patterns cell) (Cell others after) cs h k = k
component-aside Alone (Cell others after) cs h k = absurd h
component-aside Alone (InTurn ds) cs h k = absurd h
component-aside Alone (Freely q) cs h k = absurd h
component-aside (Cell patterns cell) Alone cs h k = absurd h
component-aside (Cell patterns cell) (InTurn ds) cs h k = absurd h
component-aside (Cell patterns cell) (Freely q) cs h k = absurd h
component-aside (InTurn ds) new cs h k = absurd h
component-aside (Freely q) new cs h k = absurd h

-- events at a node
module _ (i : ℕ) (n : Node) (g : View) (there : slice_get g.nodes i ≡ Some n) (spares : Spares n.goes) (h : Each Aside g.nodes) where
  -- the node itself is changed
  changed-aside : (f : Node → Node) → (Aside n → Aside (f n)) → Each Aside (at_node i f g).nodes
  changed-aside f keep =
      each-changed-at Aside f g.nodes i h
      (λ m at k. let same : n ≡ m = (let v : Some n ≡ Some m = sym there ∙ at in cc) in subst (λ (x : Node). Aside (f x)) same (keep (subst Aside (sym same) k)))

  gives-aside : (f : Node → Node) → (Aside n → Aside (f n)) → (o : List (Entry ModelItem)) → Each Aside (gives i f n.goes o g).nodes
  gives-aside f keep o = send-aside n.goes spares o (at_node i f g) (changed-aside f keep)

  local-after : (o : Option Given) → local_of g n ≡ o → Each Aside (local_then i n g o).nodes
  local-after None e = h
  local-after (Some given) e = gives-aside (λ m. keeps given.state (passed m)) (component-aside n.state given.state n.children (local-component g.run (form_of g n) n.state (first_of n.waiting) given e)) given.entries

  -- a deterministic dispatcher
  module _ (ds : List (Entry Turn)) (st : n.state ≡ InTurn ds) where
    still : (es : List (Entry Turn)) → Aside n → KeepsAside (InTurn es) n.children
    still es k = subst (λ (s : State). KeepsAside s n.children) st k

    det-after : (routing : Routing) (c : ℕ) → Each Aside (det_routes i n ds routing c g).nodes
    det-after routing c =
        entry-aside c (group_of routing.entry) (slice_get n.children c) (at_node i (decides ds (decision_of routing.router routing.entry)) g)
        (changed-aside (decides ds (decision_of routing.router routing.entry)) (still (ds ++ decision_of routing.router routing.entry ∷ [])))

    group-after : (c : ℕ) (o : Option (Entry ModelItem)) → Each Aside (group_gives i n c ds o g).nodes
    group-after c (Some (It y)) = gives-aside (takes_kept c) (takes-aside c n) (It y ∷ [])
    group-after c (Some Mark) = changed-aside (λ m. keeps (InTurn (rest_of ds)) (takes_kept c m)) (λ k. taken-aside (InTurn (rest_of ds)) c n.children (still (rest_of ds) k))
    group-after c (Some End) = changed-aside (takes_kept c) (takes-aside c n)
    group-after c None = h

    turn-after : (c : ℕ) (o : Option (Entry Turn)) → Each Aside (det_merges i n c ds o g).nodes
    turn-after c (Some (It (Own y))) = gives-aside (keeps (InTurn (rest_of ds))) (still (rest_of ds)) (It y ∷ [])
    turn-after c (Some (It (To k))) = group-after c (first_of (kept_of n.children c))
    turn-after c (Some Mark) = gives-aside (keeps (InTurn (rest_of ds))) (still (rest_of ds)) (Mark ∷ [])
    turn-after c (Some End) = gives-aside (keeps (InTurn (rest_of ds))) (still (rest_of ds)) (End ∷ [])
    turn-after c None = h

  -- a free one
  module _ (q : Epochs) (st : n.state ≡ Freely q) where
    aside-free : (f : Node → Node) → ((f n).state ≡ n.state) → Aside n → Aside (f n)
    aside-free f same k = subst (λ (s : State). KeepsAside s (f n).children) (sym (same ∙ st)) tt

    free-after : (r : _) (x : Entry ModelItem) (c : ℕ) → Each Aside (free_routes i n q r x c g).nodes
    free-after r (It x) zero = changed-aside (λ m. child_gives 0 (It (r.own x) ∷ []) (passed m)) (aside-free (λ m. child_gives 0 (It (r.own x) ∷ []) (passed m)) refl)
    free-after r (It x) (suc c) = entry-aside (suc c) (It x ∷ []) (slice_get n.children (suc c)) (at_node i passed g) (changed-aside passed (λ k. k))
    free-after r Mark c =
        all-aside (rest_of n.children) (Mark ∷ []) (at_node i (λ m. keeps (Freely (closed q)) (child_gives 0 (Mark ∷ []) (passed m))) g)
        (changed-aside (λ m. keeps (Freely (closed q)) (child_gives 0 (Mark ∷ []) (passed m))) (λ k. tt))
    free-after r End c = changed-aside (λ m. child_gives 0 (End ∷ []) (passed m)) (aside-free (λ m. child_gives 0 (End ∷ []) (passed m)) refl)

    abbrev by-passing : ℕ → Epochs → Bool → View
    by-passing c e v = cond v (gives i (λ m. keeps (Freely (moved_on e)) (takes_kept c m)) n.goes (Mark ∷ []) g) (at_node i (λ m. keeps (Freely e) (takes_kept c m)) g)

    passes-after : (c : ℕ) (e : Epochs) → Each Aside (mark_passes i n c e g).nodes
    passes-after c e = at (is_passed e)
      where
        at : (b : Bool) → Each Aside (by-passing c e b).nodes
        at true = gives-aside (λ m. keeps (Freely (moved_on e)) (takes_kept c m)) (λ k. tt) (Mark ∷ [])
        at false = changed-aside (λ m. keeps (Freely e) (takes_kept c m)) (λ k. tt)

    free-merged : (c : ℕ) (o : Option (Entry ModelItem)) → Each Aside (free_merges i n c q o g).nodes
    free-merged c (Some (It y)) = gives-aside (takes_kept c) (takes-aside c n) (It y ∷ [])
    free-merged c (Some Mark) = passes-after c (marked c q)
    free-merged c (Some End) = gives-aside (takes_kept c) (takes-aside c n) (End ∷ [])
    free-merged c None = h

  routes-after : (st : State) → n.state ≡ st → (routing : Routing) (c : ℕ) → Each Aside (routes_by i n st routing c g).nodes
  routes-after Alone st routing c = h
  routes-after (Cell patterns cell) st routing c = h
  routes-after (InTurn ds) st routing c = det-after ds st routing c
  routes-after (Freely q) st routing c = free-after q st routing.router routing.entry c

  routed-after : (o : Option Routing) → Each Aside (routed i n o g).nodes
  routed-after None = h
  routed-after (Some routing) = at (needs n routing)
    where
      at : (o : Option ℕ) → Each Aside (unwrap_or (option_map (λ c. routes_by i n n.state routing c g) o) g).nodes
      at None = h
      at (Some c) = routes-after n.state refl routing c

  merges-after : (c : ℕ) (st : State) → n.state ≡ st → Each Aside (merges_by i n c st g).nodes
  merges-after c Alone st = h
  merges-after c (Cell patterns cell) st = h
  merges-after c (InTurn ds) st = turn-after ds st c (first_of ds)
  merges-after c (Freely q) st = free-merged q st c (first_of (kept_of n.children c))

  adds-aside : (st : State) → n.state ≡ st → is_fork st ≡ true → (k : Key) (entry : ℕ) → Aside n → Aside (adds_child k entry n)
  adds-aside Alone st fork k entry a = never fork
  adds-aside (Cell patterns cell) st fork k entry a = never fork
  adds-aside (InTurn ds) st fork k entry a =
      subst (λ (s : State). KeepsAside (with_epoch s) (more_children k entry n).children) (sym st) (added n.children (subst (λ (s : State). KeepsAside s n.children) st a))
    where
      added : (cs : List Child) → own_kept cs ≡ [] → own_kept (cs ++ record { key = k; entry = entry; kept = [] } ∷ []) ≡ []
      added [] e = refl
      added (c ∷ cs) e = e
  adds-aside (Freely q) st fork k entry a = subst (λ (s : State). KeepsAside (with_epoch s) (more_children k entry n).children) (sym st) tt

  unfolded-after : (o : Option Routing) → may_unfold_then n o ≡ true → Each Aside (unfolded i n o g).nodes
  unfolded-after None may = h
  unfolded-after (Some routing) may =
      let k : Key = key_of routing.router routing.entry in
      let fork = (both-true (is_fork n.state) _ may).0 in
      each-append Aside (changed_at i (adds_child k (length g.nodes)) g.nodes) (new_nodes (depth_of g.run) (form_of g n) k i n (length g.nodes))
      (changed-aside (adds_child k (length g.nodes)) (adds-aside n.state refl fork k (length g.nodes)))
      (made-aside (depth_of g.run) (form_of g n) k i n (length g.nodes))

-- where nodes of a well placed view send
spares-from : (shapes : _) (goes : Target) (target : LiveTarget) → Sends shapes goes target → Spares goes
spares-from shapes Out target s = tt
spares-from shapes (ToNode j) target s = tt
spares-from shapes (ToChild j zero) LiveOut s = absurd s
spares-from shapes (ToChild j zero) (LiveToNode q) s = absurd s
spares-from shapes (ToChild j zero) (ToKept q k) s = absurd s
spares-from shapes (ToChild j (suc c)) target s = tt

module _ (g : View) (placed : WellPlaced g) (h : Each Aside g.nodes) where
  spares-at : (i : ℕ) (n : Node) → slice_get g.nodes i ≡ Some n → Spares n.goes
  spares-at i n e = spares-from (map shape_of g.nodes) n.goes ((part (tree_of g)).target (map step_of n.steps)) (stands-at g placed i n e).sends

  took-after : (o : Option ModelItem) → Each Aside (took o g).nodes
  took-after None = send-aside (ToNode 0) tt (End ∷ []) (record g { ended = true }) h
  took-after (Some x) = send-aside (ToNode 0) tt (It x ∷ []) (record g { taken = g.taken + 1 }) h

  emitted-after : (o : Option (Entry ModelItem)) → Each Aside (emitted o g).nodes
  emitted-after None = h
  emitted-after (Some (It y)) = h
  emitted-after (Some Mark) = h
  emitted-after (Some End) = h

  pub aside-after : (e : Happening) → IsEnabled g e → Each Aside (after g e).nodes
  aside-after Take may = took-after (next_input g)
  aside-after (Start i) may = each-changed Aside (λ n. record n { waiting = first_called g.calls n.waiting }) g.nodes i h (λ n k. k)
  aside-after (Finish call number place given) may = each-mapped Aside (gets_answer call) g.nodes h (λ n k. k)
  aside-after (Local i) may = at (slice_get g.nodes i) refl
    where
      at : (o : Option Node) → slice_get g.nodes i ≡ o → Each Aside (if_node (λ n. local_then i n g (local_of g n)) g o).nodes
      at None e = h
      at (Some n) e = local-after i n g e (spares-at i n e) h (local_of g n) refl
  aside-after (Route i) may = at (slice_get g.nodes i) refl
    where
      at : (o : Option Node) → slice_get g.nodes i ≡ o → Each Aside (if_node (λ n. routed i n (routing_of g n) g) g o).nodes
      at None e = h
      at (Some n) e = routed-after i n g e (spares-at i n e) h (routing_of g n)
  aside-after (Unfold i) may = at (slice_get g.nodes i) refl may
    where
      at : (o : Option Node) → slice_get g.nodes i ≡ o → IsTrue (if_node (λ n. may_unfold_then n (routing_of g n)) false o) → Each Aside (if_node (λ n. unfolded i n (routing_of g n) g) g o).nodes
      at None e may = never may
      at (Some n) e may = unfolded-after i n g e (spares-at i n e) h (routing_of g n) may
  aside-after (Merge i c) may = at (slice_get g.nodes i) refl
    where
      at : (o : Option Node) → slice_get g.nodes i ≡ o → Each Aside (if_node (λ n. merges_by i n c n.state g) g o).nodes
      at None e = h
      at (Some n) e = merges-after i n g e (spares-at i n e) h c n.state refl
  aside-after Emit may = emitted-after (first_of g.ready)
