-- A node that an event does not write to stays as it is, and so does what may happen there.
use Rattle.std.proofs.Common.{◌≡◌, ℕ, zero, suc, ◌+◌, ◌==◌, Bool, true, false, ◌&&◌, ◌||◌, cond, List, [], ◌∷◌, ◌++◌, map, length, Option, Some, None, refl, sym, ap, ap₂, ◌∙◌, inl, inr}
use Rattle.std.specs.Prelude.{slice_get, unwrap_or, is_some}
use Rattle.std.specs.List.{list_any}
use Rattle.std.specs.Option.{option_map}
use Rattle.std.proofs.lemmas.Bool.{eqb-false}
use Rattle.std.proofs.lemmas.List.{append-nil}
use Rattle.sn_streams.specs.Keys.{Key}
use Rattle.sn_streams.specs.Forks.{Router}
use Rattle.sn_net.specs.declared.net.Merge.{Merge as MergeKind}
use Rattle.sn_net.specs.declared.net.Merge.TheVariants as kind
use Rattle.sn_net.specs.declared.net.Net.{Net}
use Rattle.sn_net.specs.declared.net.Net.TheOpen.{Net-F}
use Rattle.sn_net.specs.declared.net.Net.TheViews.{out-Net}
use Rattle.sn_net.specs.Item.{ModelItem}
use Rattle.sn_model.specs.declared.run.Run.{Run}
use Rattle.sn_model.specs.Run.{depth_of, net_of}
use Rattle.sn_model.specs.declared.step.Step.{Step}
use Rattle.sn_view.specs.Epochs.{Epochs, is_passed, marked, moved_on, stands_at_output}
use Rattle.sn_view.specs.View.{Entry, It, Mark, End, Waiting, Plain, InFlight, Finished, Turn, To, Own, State, Alone, Cell, InTurn, Freely, Child, Target, Out, ToNode, ToChild, Node, View, Happening, Take, Start, Finish, Local, Route, Unfold, Merge, Emit, changed_at, at_node, first_of, rest_of, waits_more, child_gives}
use Rattle.sn_view.specs.Next.{after, Next, enabled, if_node, form_of, took, next_input, has_no_call, with_answer, gets_answer, Given, local_step, local_of, local_then, keeps, passed, gives, send, plain, Routing, routing_of, router_of, both, plain_entry, needs, routed, routes_by, det_routes, free_routes, decides, decision_of, group_of, unfolded, key_of, adds_child, new_nodes, to_all, to_entry, merges_by, det_merges, free_merges, group_gives, mark_passes, kept_of, takes_kept, emitted, is_box, may_route, may_unfold_then, may_merge, may_merge_by}
use Rattle.sn_view.specs.Parts.{own_child, dispatcher, part_at}
use Rattle.sn_view.specs.Touched.{begins_at, happens_at, is_first_of, is_in_call, is_routed_to, is_sent_to, is_touched, routing_touches}
use Rattle.sn_view.proofs.Events.{never}
use Rattle.sn_view.proofs.Orders.{Each, each-cons}
use Rattle.sn_view.proofs.Planned.{HoldsAnew, KeepsNone, all-made}
use Rattle.sn_view.proofs.Shaping.{split-there}

off : (b : Bool) → (b && false) ≡ false
off true = refl
off false = refl

neither : (a b : Bool) → (a || b) ≡ false → (a ≡ false) × (b ≡ false)
neither true b e = never (sym e)
neither false b e = (refl, e)

other-place : {X : Type 0} (f : X → X) (xs : List X) (i j : ℕ) → (j ≡ i → ⊥) → slice_get (changed_at i f xs) j ≡ slice_get xs j
other-place f [] i j h = refl
other-place f (x ∷ xs) zero zero h = absurd (h refl)
other-place f (x ∷ xs) zero (suc j) h = refl
other-place f (x ∷ xs) (suc i) zero h = refl
other-place f (x ∷ xs) (suc i) (suc j) h = other-place f xs i j (λ e. h (ap suc e))

no-change : {X : Type 0} (f : X → X) → ((x : X) → f x ≡ x) → (xs : List X) (i j : ℕ) → slice_get (changed_at i f xs) j ≡ slice_get xs j
no-change f same [] i j = refl
no-change f same (x ∷ xs) zero zero = ap (λ y. Some y) (same x)
no-change f same (x ∷ xs) zero (suc j) = refl
no-change f same (x ∷ xs) (suc i) zero = refl
no-change f same (x ∷ xs) (suc i) (suc j) = no-change f same xs i j

inside : (i j : ℕ) → Some i ≡ Some j → i ≡ j
inside i j e = cc

-- NODE j STAYS AS IT IS
record Stays (g h : View) (j : ℕ) : Type 0 where
  pub run : h.run ≡ g.run
  pub node : slice_get h.nodes j ≡ slice_get g.nodes j

same : (g : View) (j : ℕ) → Stays g g j
same g j = record { run = refl; node = refl }

module _ (g : View) (j : ℕ) where
  stays-node : (i : ℕ) (f : Node → Node) (h : View) → (j == i) ≡ false → Stays g h j → Stays g (at_node i f h) j
  stays-node i f h e s = record { run = s.run; node = other-place f h.nodes i j (eqb-false j i e) ∙ s.node }

  stays-send : (goes : Target) (o : List (Entry ModelItem)) (h : View) → is_sent_to goes j ≡ false → Stays g h j → Stays g (send goes o h) j
  stays-send Out o h e s = record { run = s.run; node = s.node }
  stays-send (ToNode i) o h e s = stays-node i (waits_more (plain o)) h e s
  stays-send (ToChild i c) o h e s = stays-node i (child_gives c o) h e s

  stays-all : (cs : List Child) (o : List (Entry ModelItem)) (h : View) → list_any (begins_at j) cs ≡ false → Stays g h j → Stays g (to_all cs o h) j
  stays-all [] o h e s = s
  stays-all (c ∷ cs) o h e s =
      let (here, later) = neither (j == c.entry) (list_any (begins_at j) cs) e in
      stays-all cs o (send (ToNode c.entry) o h) later (stays-send (ToNode c.entry) o h here s)

  stays-entry : (c : ℕ) (o : List (Entry ModelItem)) (child : Option Child) (h : View) → is_first_of c child j ≡ false → Stays g h j → Stays g (to_entry c o child h) j
  stays-entry zero o child h e s = s
  stays-entry (suc c) o (Some child) h e s = stays-send (ToNode child.entry) o h e s
  stays-entry (suc c) o None h e s = s

  -- where nothing is sent
  stays-nothing : (c : ℕ) (child : Option Child) (h : View) → Stays g h j → Stays g (to_entry c [] child h) j
  stays-nothing zero child h s = s
  stays-nothing (suc c) (Some child) h s =
      record { run = s.run; node = no-change (waits_more []) (λ n. ap (λ (ws : List Waiting). record n { waiting = ws }) (append-nil n.waiting)) h.nodes child.entry j ∙ s.node }
  stays-nothing (suc c) None h s = s

  -- an event at another node
  module _ (i : ℕ) (n : Node) (apart : (j == i) ≡ false) where
    stays-here : (f : Node → Node) → Stays g (at_node i f g) j
    stays-here f = stays-node i f g apart (same g j)

    stays-gives : is_sent_to n.goes j ≡ false → (f : Node → Node) (o : List (Entry ModelItem)) → Stays g (gives i f n.goes o g) j
    stays-gives e f o = stays-send n.goes o (at_node i f g) e (stays-here f)

    stays-local : is_sent_to n.goes j ≡ false → (o : Option Given) → Stays g (local_then i n g o) j
    stays-local e None = same g j
    stays-local e (Some given) = stays-gives e (λ m. keeps given.state (passed m)) given.entries

    stays-turn : (ds : List (Entry Turn)) (r : Router ModelItem) (x : Entry ModelItem) (c : ℕ) → is_routed_to (InTurn ds) n x c j ≡ false
        → Stays g (det_routes i n ds (record { router = r; entry = x }) c g) j
    stays-turn ds r (It x) c e = stays-entry c (group_of (It x)) (slice_get n.children c) _ e (stays-here (decides ds (decision_of r (It x))))
    stays-turn ds r Mark c e = stays-nothing c (slice_get n.children c) _ (stays-here (decides ds Mark))
    stays-turn ds r End c e = stays-nothing c (slice_get n.children c) _ (stays-here (decides ds End))

    stays-free : (q : Epochs) (r : Router ModelItem) (x : Entry ModelItem) (c : ℕ) → is_routed_to (Freely q) n x c j ≡ false → Stays g (free_routes i n q r x c g) j
    stays-free q r (It x) zero e = stays-here _
    stays-free q r (It x) (suc c) e = stays-entry (suc c) (It x ∷ []) (slice_get n.children (suc c)) (at_node i passed g) e (stays-here passed)
    stays-free q r Mark c e = stays-all (rest_of n.children) (Mark ∷ []) _ e (stays-here _)
    stays-free q r End c e = stays-here _

    stays-routes : (st : State) (routing : Routing) (c : ℕ) → is_routed_to st n routing.entry c j ≡ false → Stays g (routes_by i n st routing c g) j
    stays-routes Alone routing c e = same g j
    stays-routes (Cell patterns cell) routing c e = same g j
    stays-routes (InTurn ds) routing c e = stays-turn ds routing.router routing.entry c e
    stays-routes (Freely q) routing c e = stays-free q routing.router routing.entry c e

    stays-routed : (o : Option Routing) → routing_touches n o j ≡ false → Stays g (routed i n o g) j
    stays-routed None e = same g j
    stays-routed (Some routing) e = at (needs n routing) e
      where
        at : (o : Option ℕ) → unwrap_or (option_map (λ c. is_routed_to n.state n routing.entry c j) o) false ≡ false
            → Stays g (unwrap_or (option_map (λ c. routes_by i n n.state routing c g) o) g) j
        at None e = same g j
        at (Some c) e = stays-routes n.state routing c e

    module _ (sent : is_sent_to n.goes j ≡ false) where
      stays-group : (c : ℕ) (ds : List (Entry Turn)) (o : Option (Entry ModelItem)) → Stays g (group_gives i n c ds o g) j
      stays-group c ds (Some (It y)) = stays-gives sent (takes_kept c) (It y ∷ [])
      stays-group c ds (Some Mark) = stays-here _
      stays-group c ds (Some End) = stays-here (takes_kept c)
      stays-group c ds None = same g j

      stays-served : (c : ℕ) (ds : List (Entry Turn)) (o : Option (Entry Turn)) → Stays g (det_merges i n c ds o g) j
      stays-served c ds (Some (It (Own y))) = stays-gives sent (keeps (InTurn (rest_of ds))) (It y ∷ [])
      stays-served c ds (Some (It (To k))) = stays-group c ds (first_of (kept_of n.children c))
      stays-served c ds (Some Mark) = stays-gives sent (keeps (InTurn (rest_of ds))) (Mark ∷ [])
      stays-served c ds (Some End) = stays-gives sent (keeps (InTurn (rest_of ds))) (End ∷ [])
      stays-served c ds None = same g j

      stays-mark : (c : ℕ) (q : Epochs) → Stays g (mark_passes i n c q g) j
      stays-mark c q = at (is_passed q)
        where
          at : (b : Bool) → Stays g (cond b (gives i (λ m. keeps (Freely (moved_on q)) (takes_kept c m)) n.goes (Mark ∷ []) g) (at_node i (λ m. keeps (Freely q) (takes_kept c m)) g)) j
          at true = stays-gives sent _ (Mark ∷ [])
          at false = stays-here _

      stays-merged : (c : ℕ) (q : Epochs) (o : Option (Entry ModelItem)) → Stays g (free_merges i n c q o g) j
      stays-merged c q (Some (It y)) = stays-gives sent (takes_kept c) (It y ∷ [])
      stays-merged c q (Some Mark) = stays-mark c (marked c q)
      stays-merged c q (Some End) = stays-gives sent (takes_kept c) (End ∷ [])
      stays-merged c q None = same g j

      stays-merges : (c : ℕ) (st : State) → Stays g (merges_by i n c st g) j
      stays-merges c Alone = same g j
      stays-merges c (Cell patterns cell) = same g j
      stays-merges c (InTurn ds) = stays-served c ds (first_of ds)
      stays-merges c (Freely q) = stays-merged c q (first_of (kept_of n.children c))

-- A NODE AT WHICH NOTHING MAY HAPPEN
pub record IsIdle (m : Node) : Type 0 where
  pub waiting : m.waiting ≡ []
  pub merges : (c : ℕ) → may_merge m c ≡ false

fork-idle : (m : MergeKind) (left node : ℕ) (cs : List Child) (steps : List Step) (path : List ℕ) (goes : Target) → Each KeepsNone cs → IsIdle (dispatcher m left (own_child node ∷ cs) steps path goes)
fork-idle kind.Det left node cs steps path goes none = record { waiting = refl; merges = λ c. refl }
fork-idle kind.Free left node cs steps path goes none = record { waiting = refl; merges = λ c. at c (slice_get (own_child node ∷ cs) c) refl }
  where
    q : Epochs
    q = record { input = 0; output = 0; children = map (λ child. 0) (own_child node ∷ cs) }

    at : (c : ℕ) (o : Option Child) → slice_get (own_child node ∷ cs) c ≡ o → may_merge_by (Freely q) c o ≡ false
    at c None e = refl
    at c (Some child) e =
        ap (λ (es : List (Entry ModelItem)). stands_at_output q c && is_some (first_of es)) (each-cons KeepsNone (own_child node) cs refl none c child e)
        ∙ off (stands_at_output q c)

idle : HoldsAnew IsIdle
idle = record {
  alone = λ steps path goes. record { waiting = refl; merges = λ c. refl };
  cell = λ patterns steps path goes. record { waiting = refl; merges = λ c. refl };
  fork = fork-idle;
}

-- WHAT BECOMES OF NODE j
data Was (g h : View) (j : ℕ) : Type 0 where
  Same : Stays g h j → Was g h j
  IsNew : (m : Node) → slice_get h.nodes j ≡ Some m → IsIdle m → Was g h j
  IsNone : slice_get h.nodes j ≡ None → Was g h j

-- a result is given back
no-answer : (call : ℕ) (ws : List Waiting) → list_any (is_in_call call) ws ≡ false → map (with_answer call) ws ≡ ws
no-answer call [] e = refl
no-answer call (w ∷ ws) e =
    let (here, later) = neither (is_in_call call w) (list_any (is_in_call call) ws) e in
    ap₂ (λ (v : Waiting) (vs : List Waiting). v ∷ vs) (one w here) (no-answer call ws later)
  where
    one : (w : Waiting) → is_in_call call w ≡ false → with_answer call w ≡ w
    one (Plain x) e = refl
    one (Finished given) e = refl
    one (InFlight other given) e = ap (λ (b : Bool). cond b (Finished given) (InFlight other given)) e

not-answered : (call : ℕ) (nodes : List Node) (j : ℕ) → if_node (λ n. list_any (is_in_call call) n.waiting) false (slice_get nodes j) ≡ false
    → slice_get (map (gets_answer call) nodes) j ≡ slice_get nodes j
not-answered call [] j e = refl
not-answered call (n ∷ nodes) zero e = ap (λ (ws : List Waiting). Some (record n { waiting = ws })) (no-answer call n.waiting e)
not-answered call (n ∷ nodes) (suc j) e = not-answered call nodes j e

module _ (g : View) (j : ℕ) where
  was-taken : (j == 0) ≡ false → (o : Option ModelItem) → Stays g (took o g) j
  was-taken e None = stays-send g j (ToNode 0) (End ∷ []) (record g { ended = true }) e (record { run = refl; node = refl })
  was-taken e (Some x) = stays-send g j (ToNode 0) (It x ∷ []) (record g { taken = g.taken + 1 }) e (record { run = refl; node = refl })

  was-emitted : (o : Option (Entry ModelItem)) → Stays g (emitted o g) j
  was-emitted None = same g j
  was-emitted (Some (It y)) = record { run = refl; node = refl }
  was-emitted (Some Mark) = record { run = refl; node = refl }
  was-emitted (Some End) = record { run = refl; node = refl }

  was-unfolded : (i : ℕ) (n : Node) → (j == i) ≡ false → (o : Option Routing) → Was g (unfolded i n o g) j
  was-unfolded i n e None = Same (same g j)
  was-unfolded i n e (Some routing) = at (slice_get (nodes ++ more) j) refl
    where
      k : Key
      k = key_of routing.router routing.entry

      nodes : List Node
      nodes = changed_at i (adds_child k (length g.nodes)) g.nodes

      more : List Node
      more = new_nodes (depth_of g.run) (form_of g n) k i n (length g.nodes)

      at : (o : Option Node) → slice_get (nodes ++ more) j ≡ o → Was g (unfolded i n (Some routing) g) j
      at None u = IsNone u
      at (Some m) u = elim (split-there nodes more j m u) [
        | inl v ↦ Same (record { run = refl; node = u ∙ sym v ∙ other-place (adds_child k (length g.nodes)) g.nodes i j (eqb-false j i e) })
        | inr v ↦ IsNew m u (all-made IsIdle idle (depth_of g.run) (form_of g n) k i n (length g.nodes) v.0 m v.1)
      ]

  -- what a node sends and where it is are apart
  apart : (i : ℕ) (f : Node → Bool) (n : Node) → slice_get g.nodes i ≡ Some n → (j == i || if_node f false (slice_get g.nodes i)) ≡ false → ((j == i) ≡ false) × (f n ≡ false)
  apart i f n there e =
      let (here, sent) = neither (j == i) (if_node f false (slice_get g.nodes i)) e in
      (here, ap (if_node f false) (sym there) ∙ sent)

  was : (e : Happening) → is_touched g e j ≡ false → Was g (after g e) j
  was Take h = Same (was-taken h (next_input g))
  was (Start i) h = Same (stays-node g j i _ (record g { calls = g.calls + 1 }) h (record { run = refl; node = refl }))
  was (Finish call number place given) h = Same (record { run = refl; node = not-answered call g.nodes j h })
  was (Local i) h = Same (at (slice_get g.nodes i) refl)
    where
      at : (o : Option Node) → slice_get g.nodes i ≡ o → Stays g (if_node (λ n. local_then i n g (local_of g n)) g o) j
      at None e = same g j
      at (Some n) e = let (here, sent) = apart i (λ m. is_sent_to m.goes j) n e h in stays-local g j i n here sent (local_of g n)
  was (Route i) h = Same (at (slice_get g.nodes i) refl)
    where
      at : (o : Option Node) → slice_get g.nodes i ≡ o → Stays g (if_node (λ n. routed i n (routing_of g n) g) g o) j
      at None e = same g j
      at (Some n) e = let (here, sent) = apart i (λ m. routing_touches m (routing_of g m) j) n e h in stays-routed g j i n here (routing_of g n) sent
  was (Unfold i) h = at (slice_get g.nodes i)
    where
      at : (o : Option Node) → Was g (if_node (λ n. unfolded i n (routing_of g n) g) g o) j
      at None = Same (same g j)
      at (Some n) = was-unfolded i n h (routing_of g n)
  was (Merge i c) h = Same (at (slice_get g.nodes i) refl)
    where
      at : (o : Option Node) → slice_get g.nodes i ≡ o → Stays g (if_node (λ n. merges_by i n c n.state g) g o) j
      at None e = same g j
      at (Some n) e = let (here, sent) = apart i (λ m. is_sent_to m.goes j) n e h in stays-merges g j i n here sent c n.state
  was Emit h = Same (was-emitted (first_of g.ready))

-- WHAT MAY HAPPEN AT A NODE, by the run and the node alone
abbrev IsAllowed : Run → Happening → Option Node → Bool
IsAllowed run (Start i) o = if_node (λ n. is_box (option_map out-Net (part_at (net_of run) n.path)) && list_any has_no_call n.waiting) false o
IsAllowed run (Local i) o = if_node (λ n. is_some (local_step run (option_map out-Net (part_at (net_of run) n.path)) n.state (first_of n.waiting))) false o
IsAllowed run (Route i) o = if_node (λ n. may_route n (both (router_of (option_map out-Net (part_at (net_of run) n.path)) n.left) (plain_entry (first_of n.waiting)))) false o
IsAllowed run (Unfold i) o = if_node (λ n. may_unfold_then n (both (router_of (option_map out-Net (part_at (net_of run) n.path)) n.left) (plain_entry (first_of n.waiting)))) false o
IsAllowed run (Merge i c) o = if_node (λ n. may_merge n c) false o
IsAllowed run other o = false

enabled-at : (g : View) (e : Happening) (j : ℕ) → happens_at e ≡ Some j → enabled g e ≡ IsAllowed g.run e (slice_get g.nodes j)
enabled-at g Take j h = cc
enabled-at g (Start i) j h = ap (λ k. IsAllowed g.run (Start i) (slice_get g.nodes k)) (inside i j h)
enabled-at g (Finish call number place given) j h = cc
enabled-at g (Local i) j h = ap (λ k. IsAllowed g.run (Local i) (slice_get g.nodes k)) (inside i j h)
enabled-at g (Route i) j h = ap (λ k. IsAllowed g.run (Route i) (slice_get g.nodes k)) (inside i j h)
enabled-at g (Unfold i) j h = ap (λ k. IsAllowed g.run (Unfold i) (slice_get g.nodes k)) (inside i j h)
enabled-at g (Merge i c) j h = ap (λ k. IsAllowed g.run (Merge i c) (slice_get g.nodes k)) (inside i j h)
enabled-at g Emit j h = cc

-- nothing at a node where nothing waits
no-routing : (r : Option (Router ModelItem)) → both r None ≡ None
no-routing None = refl
no-routing (Some r) = refl

no-step : (run : Run) (form : Option (Net-F Net)) (st : State) → local_step run form st None ≡ None
no-step run None st = refl
no-step run (Some (Net-F.Box place number)) Alone = refl
no-step run (Some (Net-F.Box place number)) (Cell patterns cell) = refl
no-step run (Some (Net-F.Box place number)) (InTurn ds) = refl
no-step run (Some (Net-F.Box place number)) (Freely q) = refl
no-step run (Some (Net-F.Filter filter)) Alone = refl
no-step run (Some (Net-F.Filter filter)) (Cell patterns cell) = refl
no-step run (Some (Net-F.Filter filter)) (InTurn ds) = refl
no-step run (Some (Net-F.Filter filter)) (Freely q) = refl
no-step run (Some (Net-F.Sync place patterns)) Alone = refl
no-step run (Some (Net-F.Sync place patterns)) (Cell others cell) = refl
no-step run (Some (Net-F.Sync place patterns)) (InTurn ds) = refl
no-step run (Some (Net-F.Sync place patterns)) (Freely q) = refl
no-step run (Some (Net-F.Serial left right)) st = refl
no-step run (Some (Net-F.Choice place merge branches faces)) st = refl
no-step run (Some (Net-F.Star place merge body exit guard)) st = refl
no-step run (Some (Net-F.Split place merge body id)) st = refl

module _ (run : Run) (m : Node) (d : IsIdle m) where
  abbrev form : Option (Net-F Net)
  form = option_map out-Net (part_at (net_of run) m.path)

  no-first : first_of m.waiting ≡ None
  no-first = ap (λ (ws : List Waiting). first_of ws) d.waiting

  unrouted : both (router_of form m.left) (plain_entry (first_of m.waiting)) ≡ None
  unrouted = ap (λ (o : Option Waiting). both (router_of form m.left) (plain_entry o)) no-first ∙ no-routing (router_of form m.left)

  idle-not : (e : Happening) → IsAllowed run e (Some m) ≡ false
  idle-not Take = refl
  idle-not (Start i) = ap (λ (ws : List Waiting). is_box form && list_any has_no_call ws) d.waiting ∙ off (is_box form)
  idle-not (Finish call number place given) = refl
  idle-not (Local i) = ap (λ (o : Option Waiting). is_some (local_step run form m.state o)) no-first ∙ ap (λ (o : Option Given). is_some o) (no-step run form m.state)
  idle-not (Route i) = ap (may_route m) unrouted
  idle-not (Unfold i) = ap (may_unfold_then m) unrouted
  idle-not (Merge i c) = d.merges c
  idle-not Emit = refl

none-not : (run : Run) (e : Happening) → IsAllowed run e None ≡ false
none-not run Take = refl
none-not run (Start i) = refl
none-not run (Finish call number place given) = refl
none-not run (Local i) = refl
none-not run (Route i) = refl
none-not run (Unfold i) = refl
none-not run (Merge i c) = refl
none-not run Emit = refl

pub others-stay : (g : View) (e other : Happening) (j : ℕ) → happens_at other ≡ Some j → is_touched g e j ≡ false → enabled (Next g e) other ≡ true → enabled g other ≡ true
others-stay g e other j at h may = by (was g j e h)
  where
    allowed : IsAllowed (after g e).run other (slice_get (after g e).nodes j) ≡ true
    allowed = sym (enabled-at (Next g e) other j at) ∙ may

    by : Was g (after g e) j → enabled g other ≡ true
    by (Same s) = enabled-at g other j at ∙ sym (ap₂ (λ r o. IsAllowed r other o) s.run s.node) ∙ allowed
    by (IsNew m u d) = never (sym (idle-not (after g e).run m d other) ∙ sym (ap (IsAllowed (after g e).run other) u) ∙ allowed)
    by (IsNone u) = never (sym (none-not (after g e).run other) ∙ sym (ap (IsAllowed (after g e).run other) u) ∙ allowed)
