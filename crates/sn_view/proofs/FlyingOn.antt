-- What is in flight goes on flying where it is, but for a call that is finished.
use Rattle.std.proofs.Common.{◌≡◌, ℕ, zero, suc, ◌+◌, ◌==◌, Bool, true, false, cond, List, [], ◌∷◌, ◌++◌, map, length, Option, Some, None, refl, sym, ap, ◌∙◌, subst, ◌⊎◌, inl, inr}
use Rattle.std.specs.Prelude.{slice_get, unwrap_or}
use Rattle.std.specs.Option.{option_map}
use Rattle.std.proofs.lemmas.Bool.{eqb-true}
use Rattle.sn_record.specs.Record.{Entries}
use Rattle.sn_streams.specs.Keys.{Key}
use Rattle.sn_streams.specs.Forks.{Router}
use Rattle.sn_net.specs.declared.net.Net.{Net}
use Rattle.sn_net.specs.declared.net.Net.TheOpen.{Net-F}
use Rattle.sn_net.specs.Item.{ModelItem}
use Rattle.sn_model.specs.declared.run.Run.{Run}
use Rattle.sn_model.specs.Run.{depth_of}
use Rattle.sn_view.specs.Epochs.{Epochs, closed, is_passed, marked, moved_on}
use Rattle.sn_view.specs.View.{Entry, It, Mark, End, Waiting, Plain, InFlight, Finished, Turn, To, Own, State, Alone, Cell, InTurn, Freely, Child, Target, Out, ToNode, ToChild, Node, View, Happening, Take, Start, Finish, Local, Route, Unfold, Merge, Emit, changed_at, at_node, first_of, rest_of, waits_more, child_gives}
use Rattle.sn_view.specs.Next.{Next, after, if_node, form_of, took, next_input, has_no_call, in_call, first_called, with_answer, gets_answer, finished, Given, local_of, local_step, local_then, keeps, passed, gives, send, plain, Routing, routing_of, router_of, both, plain_entry, needs, routed, routes_by, det_routes, free_routes, decides, decision_of, group_of, unfolded, key_of, adds_child, new_nodes, to_all, to_entry, merges_by, det_merges, free_merges, group_gives, mark_passes, kept_of, takes_kept, emitted}
use Rattle.sn_view.specs.Calls.{Flies, IsFinishOf}
use Rattle.sn_view.proofs.Counted.{at-some-place, some-place}
use Rattle.sn_view.proofs.Lists.{there-map}

-- what is kept by a change at one place stands somewhere after it
module _ {X : Type 0} (P : X → Type 0) (f : X → X) where
  still-there : (xs : List X) (j i : ℕ) (m : X) → slice_get xs i ≡ Some m → P m → ((x : X) → slice_get xs j ≡ Some x → P x → P (f x))
      → (y : X) × (slice_get (changed_at j f xs) i ≡ Some y) × P y
  still-there [] j i m e p kept = cc
  still-there (x ∷ xs) zero zero m e p kept = let u : m ≡ x = cc in (f x, refl, kept x refl (subst P u p))
  still-there (x ∷ xs) zero (suc i) m e p kept = (m, e, p)
  still-there (x ∷ xs) (suc j) zero m e p kept = (m, e, p)
  still-there (x ∷ xs) (suc j) (suc i) m e p kept = still-there xs j i m e p kept

in-front : {X : Type 0} (xs ys : List X) (p : ℕ) (x : X) → slice_get xs p ≡ Some x → slice_get (xs ++ ys) p ≡ Some x
in-front [] ys p x e = cc
in-front (y ∷ xs) ys zero x e = e
in-front (y ∷ xs) ys (suc p) x e = in-front xs ys p x e

-- what is first is no call in flight
abbrev pub IsGrounded : Option Waiting → Type 0
IsGrounded None = Unit {0}
IsGrounded (Some (Plain e)) = Unit {0}
IsGrounded (Some (InFlight call given)) = ⊥
IsGrounded (Some (Finished given)) = Unit {0}

-- what passes on its first entry, or sends it to a child, has no call first
local-grounded : (run : Run) (form : Option (Net-F Net)) (st : State) (w : Option Waiting) (given : Given) → local_step run form st w ≡ Some given → IsGrounded w
local-grounded run form st None given e = tt
local-grounded run form st (Some (Plain x)) given e = tt
local-grounded run form st (Some (Finished r)) given e = tt
local-grounded run None st (Some (InFlight call r)) given e = cc
local-grounded run (Some (Net-F.Box place number)) Alone (Some (InFlight call r)) given e = cc
local-grounded run (Some (Net-F.Box place number)) (Cell patterns cell) (Some (InFlight call r)) given e = cc
local-grounded run (Some (Net-F.Box place number)) (InTurn ds) (Some (InFlight call r)) given e = cc
local-grounded run (Some (Net-F.Box place number)) (Freely q) (Some (InFlight call r)) given e = cc
local-grounded run (Some (Net-F.Filter filter)) Alone (Some (InFlight call r)) given e = cc
local-grounded run (Some (Net-F.Filter filter)) (Cell patterns cell) (Some (InFlight call r)) given e = cc
local-grounded run (Some (Net-F.Filter filter)) (InTurn ds) (Some (InFlight call r)) given e = cc
local-grounded run (Some (Net-F.Filter filter)) (Freely q) (Some (InFlight call r)) given e = cc
local-grounded run (Some (Net-F.Sync place own)) Alone (Some (InFlight call r)) given e = cc
local-grounded run (Some (Net-F.Sync place own)) (Cell patterns cell) (Some (InFlight call r)) given e = cc
local-grounded run (Some (Net-F.Sync place own)) (InTurn ds) (Some (InFlight call r)) given e = cc
local-grounded run (Some (Net-F.Sync place own)) (Freely q) (Some (InFlight call r)) given e = cc
local-grounded run (Some (Net-F.Serial left right)) st (Some (InFlight call r)) given e = cc
local-grounded run (Some (Net-F.Choice place merge branches faces)) st (Some (InFlight call r)) given e = cc
local-grounded run (Some (Net-F.Star place merge body exit guard)) st (Some (InFlight call r)) given e = cc
local-grounded run (Some (Net-F.Split place merge body id)) st (Some (InFlight call r)) given e = cc

routing-grounded : (r : Option (Router ModelItem)) (w : Option Waiting) (routing : Routing) → both r (plain_entry w) ≡ Some routing → IsGrounded w
routing-grounded r None routing e = tt
routing-grounded r (Some (Plain x)) routing e = tt
routing-grounded r (Some (Finished given)) routing e = tt
routing-grounded None (Some (InFlight call given)) routing e = cc
routing-grounded (Some r) (Some (InFlight call given)) routing e = cc

module _ (call : ℕ) (given : Entries) (i : ℕ) where
  abbrev IsIn : List Waiting → Type 0
  IsIn ws = (p : ℕ) × (slice_get ws p ≡ Some (InFlight call given))

  abbrev Kept : Node → Type 0
  Kept n = IsIn n.waiting

  -- the call is in flight at node i
  abbrev Flying : View → Type 0
  Flying h = (m : Node) × (slice_get h.nodes i ≡ Some m) × Kept m

  -- a change of any node
  flying-at : (f : Node → Node) → ((m : Node) → Kept m → Kept (f m)) → (j : ℕ) (h : View) → Flying h → Flying (at_node j f h)
  flying-at f kept j h (m, e, k) = still-there Kept f h.nodes j i m e k (λ x there. kept x)

  -- entries that are sent
  flying-send : (goes : Target) (o : List (Entry ModelItem)) (h : View) → Flying h → Flying (send goes o h)
  flying-send Out o h f = f
  flying-send (ToNode j) o h f = flying-at (waits_more (plain o)) (λ m k. (k.0, in-front m.waiting (plain o) k.0 (InFlight call given) k.1)) j h f
  flying-send (ToChild j c) o h f = flying-at (child_gives c o) (λ m k. k) j h f

  flying-all : (cs : List Child) (o : List (Entry ModelItem)) (h : View) → Flying h → Flying (to_all cs o h)
  flying-all [] o h f = f
  flying-all (c ∷ cs) o h f = flying-all cs o (send (ToNode c.entry) o h) (flying-send (ToNode c.entry) o h f)

  flying-entry : (c : ℕ) (o : List (Entry ModelItem)) (child : Option Child) (h : View) → Flying h → Flying (to_entry c o child h)
  flying-entry zero o child h f = f
  flying-entry (suc c) o (Some child) h f = flying-send (ToNode child.entry) o h f
  flying-entry (suc c) o None h f = f

  -- the first entry goes, and is no call
  rest-in : (ws : List Waiting) → IsGrounded (first_of ws) → IsIn ws → IsIn (rest_of ws)
  rest-in [] ground (p, e) = cc
  rest-in (w ∷ ws) ground (zero, e) = absurd (subst IsGrounded e ground)
  rest-in (w ∷ ws) ground (suc p, e) = (p, e)

  module _ (g : View) (flies : Flying g) (j : ℕ) (n : Node) (there : slice_get g.nodes j ≡ Some n) where
    -- what waits at a node stays
    flying-gives : (f : Node → Node) → ((m : Node) → Kept m → Kept (f m)) → (goes : Target) (o : List (Entry ModelItem)) → Flying (gives j f goes o g)
    flying-gives f kept goes o = flying-send goes o (at_node j f g) (flying-at f kept j g flies)

    flying-mark : (c : ℕ) (q : Epochs) → Flying (mark_passes j n c q g)
    flying-mark c q = at (is_passed q)
      where
        at : (b : Bool) → Flying (cond b (gives j (λ m. keeps (Freely (moved_on q)) (takes_kept c m)) n.goes (Mark ∷ []) g) (at_node j (λ m. keeps (Freely q) (takes_kept c m)) g))
        at true = flying-gives (λ m. keeps (Freely (moved_on q)) (takes_kept c m)) (λ m k. k) n.goes (Mark ∷ [])
        at false = flying-at (λ m. keeps (Freely q) (takes_kept c m)) (λ m k. k) j g flies

    flying-merged : (c : ℕ) (q : Epochs) (o : Option (Entry ModelItem)) → Flying (free_merges j n c q o g)
    flying-merged c q (Some (It y)) = flying-gives (takes_kept c) (λ m k. k) n.goes (It y ∷ [])
    flying-merged c q (Some Mark) = flying-mark c (marked c q)
    flying-merged c q (Some End) = flying-gives (takes_kept c) (λ m k. k) n.goes (End ∷ [])
    flying-merged c q None = flies

    flying-group : (c : ℕ) (ds : List (Entry Turn)) (o : Option (Entry ModelItem)) → Flying (group_gives j n c ds o g)
    flying-group c ds (Some (It y)) = flying-gives (takes_kept c) (λ m k. k) n.goes (It y ∷ [])
    flying-group c ds (Some Mark) = flying-at (λ m. keeps (InTurn (rest_of ds)) (takes_kept c m)) (λ m k. k) j g flies
    flying-group c ds (Some End) = flying-at (takes_kept c) (λ m k. k) j g flies
    flying-group c ds None = flies

    flying-served : (c : ℕ) (ds : List (Entry Turn)) (o : Option (Entry Turn)) → Flying (det_merges j n c ds o g)
    flying-served c ds (Some (It (Own y))) = flying-gives (keeps (InTurn (rest_of ds))) (λ m k. k) n.goes (It y ∷ [])
    flying-served c ds (Some (It (To k))) = flying-group c ds (first_of (kept_of n.children c))
    flying-served c ds (Some Mark) = flying-gives (keeps (InTurn (rest_of ds))) (λ m k. k) n.goes (Mark ∷ [])
    flying-served c ds (Some End) = flying-gives (keeps (InTurn (rest_of ds))) (λ m k. k) n.goes (End ∷ [])
    flying-served c ds None = flies

    flying-merges : (c : ℕ) (st : State) → Flying (merges_by j n c st g)
    flying-merges c Alone = flies
    flying-merges c (Cell patterns cell) = flies
    flying-merges c (InTurn ds) = flying-served c ds (first_of ds)
    flying-merges c (Freely q) = flying-merged c q (first_of (kept_of n.children c))

    flying-unfolded : (o : Option Routing) → Flying (unfolded j n o g)
    flying-unfolded None = flies
    flying-unfolded (Some routing) =
        let k : Key = key_of routing.router routing.entry in
        let f : Node → Node = adds_child k (length g.nodes) in
        let (m, e, kept) = flying-at f (λ m k. k) j g flies in
        (m, in-front (changed_at j f g.nodes) (new_nodes (depth_of g.run) (form_of g n) k j n (length g.nodes)) i m e, kept)

    -- the node's first entry goes, and is no call
    module _ (ground : IsGrounded (first_of n.waiting)) where
      flying-on : (f : Node → Node) → ((m : Node) → (f m).waiting ≡ rest_of m.waiting) → Flying (at_node j f g)
      flying-on f rest = at flies
        where
          at : Flying g → Flying (at_node j f g)
          at (m, e, k) = still-there Kept f g.nodes j i m e k (λ x here kept. let u : n ≡ x = (let v : Some n ≡ Some x = sym there ∙ here in cc) in
              subst IsIn (sym (rest x)) (rest-in x.waiting (subst (λ (y : Node). IsGrounded (first_of y.waiting)) u ground) kept))

      flying-turn : (ds : List (Entry Turn)) (routing : Routing) (c : ℕ) → Flying (det_routes j n ds routing c g)
      flying-turn ds routing c =
          let d : Node → Node = decides ds (decision_of routing.router routing.entry) in
          flying-entry c (group_of routing.entry) (slice_get n.children c) (at_node j d g) (flying-on d (λ m. refl))

      flying-free : (q : Epochs) (r : Router ModelItem) (x : Entry ModelItem) (c : ℕ) → Flying (free_routes j n q r x c g)
      flying-free q r (It x) zero = flying-on (λ m. child_gives 0 (It (r.own x) ∷ []) (passed m)) (λ m. refl)
      flying-free q r (It x) (suc c) = flying-entry (suc c) (It x ∷ []) (slice_get n.children (suc c)) (at_node j passed g) (flying-on passed (λ m. refl))
      flying-free q r Mark c =
          let f : Node → Node = λ m. keeps (Freely (closed q)) (child_gives 0 (Mark ∷ []) (passed m)) in
          flying-all (rest_of n.children) (Mark ∷ []) (at_node j f g) (flying-on f (λ m. refl))
      flying-free q r End c = flying-on (λ m. child_gives 0 (End ∷ []) (passed m)) (λ m. refl)

      flying-routes : (st : State) (routing : Routing) (c : ℕ) → Flying (routes_by j n st routing c g)
      flying-routes Alone routing c = flies
      flying-routes (Cell patterns cell) routing c = flies
      flying-routes (InTurn ds) routing c = flying-turn ds routing c
      flying-routes (Freely q) routing c = flying-free q routing.router routing.entry c

    flying-routed : (o : Option Routing) → routing_of g n ≡ o → Flying (routed j n o g)
    flying-routed None e = flies
    flying-routed (Some routing) e = at (needs n routing)
      where
        at : (o : Option ℕ) → Flying (unwrap_or (option_map (λ c. routes_by j n n.state routing c g) o) g)
        at None = flies
        at (Some c) = flying-routes (routing-grounded (router_of (form_of g n) n.left) (first_of n.waiting) routing e) n.state routing c

    flying-local : (o : Option Given) → local_of g n ≡ o → Flying (local_then j n g o)
    flying-local None e = flies
    flying-local (Some o) e =
        let f : Node → Node = λ m. keeps o.state (passed m) in
        flying-send n.goes o.entries (at_node j f g) (flying-on (local-grounded g.run (form_of g n) n.state (first_of n.waiting) o e) f (λ m. refl))

  -- a call is started
  called-on : (new : ℕ) (ws : List Waiting) (p : ℕ) → slice_get ws p ≡ Some (InFlight call given) → slice_get (first_called new ws) p ≡ Some (InFlight call given)
  called-on new [] p e = cc
  called-on new (w ∷ ws) p e = at (has_no_call w) p e (called-on new ws)
    where
      at : (b : Bool) (p : ℕ) → slice_get (w ∷ ws) p ≡ Some (InFlight call given)
          → ((p : ℕ) → slice_get ws p ≡ Some (InFlight call given) → slice_get (first_called new ws) p ≡ Some (InFlight call given))
          → slice_get (cond b (in_call new w ∷ ws) (w ∷ first_called new ws)) p ≡ Some (InFlight call given)
      at true zero e later = let u : w ≡ InFlight call given = cc in ap (λ (v : Waiting). Some (in_call new v)) u
      at true (suc p) e later = e
      at false zero e later = e
      at false (suc p) e later = later p e

  -- another is finished
  answered-on : (other : ℕ) → (other == call) ≡ false → (ws : List Waiting) → IsIn ws → IsIn (map (with_answer other) ws)
  answered-on other apart ws (p, e) =
      (p, there-map (with_answer other) ws p (InFlight call given) e ∙ ap (λ (b : Bool). Some (cond b (Finished given) (InFlight call given))) apart)

  flying-finished : (other : ℕ) → (other == call) ≡ false → (g : View) → Flying g → Flying (finished other g)
  flying-finished other apart g (m, e, k) = (gets_answer other m, there-map (gets_answer other) g.nodes i m e, answered-on other apart m.waiting k)

  -- ALL EVENTS
  flying-after : (g : View) (e : Happening) → Flying g → Flying (after g e) ⊎ IsFinishOf e call
  flying-after g Take f = inl (at (next_input g))
    where
      at : (o : Option ModelItem) → Flying (took o g)
      at None = flying-send (ToNode 0) (End ∷ []) (record g { ended = true }) f
      at (Some x) = flying-send (ToNode 0) (It x ∷ []) (record g { taken = g.taken + 1 }) f
  flying-after g (Start j) f = inl (flying-at (λ n. record n { waiting = first_called g.calls n.waiting }) (λ m k. (k.0, called-on g.calls m.waiting k.0 k.1)) j (record g { calls = g.calls + 1 }) f)
  flying-after g (Finish other number place r) f = at (other == call) refl
    where
      at : (b : Bool) → (other == call) ≡ b → Flying (finished other g) ⊎ (other ≡ call)
      at true e = inr (eqb-true other call e)
      at false e = inl (flying-finished other e g f)
  flying-after g (Local j) f = inl (at (slice_get g.nodes j) refl)
    where
      at : (o : Option Node) → slice_get g.nodes j ≡ o → Flying (if_node (λ n. local_then j n g (local_of g n)) g o)
      at None e = f
      at (Some n) e = flying-local g f j n e (local_of g n) refl
  flying-after g (Route j) f = inl (at (slice_get g.nodes j) refl)
    where
      at : (o : Option Node) → slice_get g.nodes j ≡ o → Flying (if_node (λ n. routed j n (routing_of g n) g) g o)
      at None e = f
      at (Some n) e = flying-routed g f j n e (routing_of g n) refl
  flying-after g (Unfold j) f = inl (at (slice_get g.nodes j) refl)
    where
      at : (o : Option Node) → slice_get g.nodes j ≡ o → Flying (if_node (λ n. unfolded j n (routing_of g n) g) g o)
      at None e = f
      at (Some n) e = flying-unfolded g f j n e (routing_of g n)
  flying-after g (Merge j c) f = inl (at (slice_get g.nodes j) refl)
    where
      at : (o : Option Node) → slice_get g.nodes j ≡ o → Flying (if_node (λ n. merges_by j n c n.state g) g o)
      at None e = f
      at (Some n) e = flying-merges g f j n e c n.state
  flying-after g Emit f = inl (at (first_of g.ready))
    where
      at : (o : Option (Entry ModelItem)) → Flying (emitted o g)
      at None = f
      at (Some (It y)) = f
      at (Some Mark) = f
      at (Some End) = f

-- CALLS FLY ON
pub calls-fly-on : (g : View) (e : Happening) (i call : ℕ) (given : Entries) → Flies g i call given → Flies (Next g e) i call given ⊎ IsFinishOf e call
calls-fly-on g e i call given f =
    let (p, k) = some-place g i call given f in
    elim (flying-after call given i g e (k.node, k.there, (p, k.flies))) [
      | inl (m, there, (q, flies)) ↦ inl (at-some-place (Next g e) i q call given (record { node = m; there = there; flies = flies }))
      | inr h ↦ inr h
    ]
