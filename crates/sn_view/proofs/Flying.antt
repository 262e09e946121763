-- What an event does to the calls that are in flight, to how many were started, and to the marks that came in at free dispatchers.
use Rattle.std.proofs.Common.{◌≡◌, ℕ, zero, suc, ◌+◌, ◌≤◌, ◌<◌, ◌==◌, Bool, true, false, ◌&&◌, cond, List, [], ◌∷◌, ◌++◌, map, length, Option, Some, None, refl, sym, ap, ◌∙◌, subst, arith, ◌⊎◌, inl, inr}
use Rattle.std.specs.Prelude.{slice_get, unwrap_or}
use Rattle.std.specs.Option.{option_map}
use Rattle.sn_record.specs.Record.{Entries}
use Rattle.sn_streams.specs.Keys.{Key}
use Rattle.sn_streams.specs.Forks.{Router}
use Rattle.sn_net.specs.declared.net.Merge.{Merge as MergeKind}
use Rattle.sn_net.specs.declared.net.Merge.TheVariants as kind
use Rattle.sn_net.specs.Item.{ModelItem, Rec, Fault, Stuck}
use Rattle.sn_model.specs.declared.run.Run.{Run}
use Rattle.sn_model.specs.Run.{depth_of, net_of}
use Rattle.sn_model.specs.declared.step.Step.{Step}
use Rattle.sn_view.specs.Epochs.{Epochs, closed, is_passed, marked, moved_on}
use Rattle.sn_view.specs.View.{Entry, It, Mark, End, Waiting, Plain, InFlight, Finished, Turn, To, Own, State, Alone, Cell, InTurn, Freely, Child, Target, Out, ToNode, ToChild, Node, View, Happening, Take, Start, Finish, Local, Route, Unfold, Merge, Emit, changed_at, at_node, first_of, rest_of, waits_more, child_gives}
use Rattle.sn_view.specs.Next.{after, if_node, form_of, took, next_input, has_no_call, in_call, first_called, with_answer, gets_answer, finished, Given, local_of, local_then, keeps, passed, gives, send, plain, Routing, routing_of, needs, routed, routes_by, det_routes, free_routes, decides, decision_of, group_of, unfolded, key_of, adds_child, with_epoch, new_nodes, to_all, to_entry, merges_by, det_merges, free_merges, group_gives, mark_passes, kept_of, takes_kept, emitted, start_view}
use Rattle.sn_view.specs.Parts.{own_child, dispatcher}
use Rattle.sn_view.specs.Seen.{epochs_of}
use Rattle.sn_view.specs.Calls.{FliesAt}
use Rattle.sn_view.proofs.Ordering.{StaysComponent, local-component}
use Rattle.sn_view.proofs.Lists.{there-unmap}
use Rattle.sn_view.proofs.Planned.{HoldsAnew, all-made, all-planned}
use Rattle.sn_view.proofs.Shaping.{split-there}

-- how many marks came in
abbrev pub inputs : Node → ℕ
inputs n = (epochs_of n.state).input

-- the same number, by computing
abbrev pub is_same : ℕ → ℕ → Bool
is_same zero zero = true
is_same (suc i) (suc j) = is_same i j
is_same i j = false

is_same-refl : (i : ℕ) → is_same i i ≡ true
is_same-refl zero = refl
is_same-refl (suc i) = is_same-refl i

-- a place, before the node's first entry went
abbrev pub earlier : Bool → ℕ → ℕ
earlier true p = suc p
earlier false p = p

-- what stands at j where the i-th element changed
data Changed {X : Type 0} (f : X → X) (xs : List X) (i j : ℕ) (y : X) : Type 0 where
  Here : (x : X) → j ≡ i → slice_get xs j ≡ Some x → f x ≡ y → Changed f xs i j y
  Elsewhere : is_same j i ≡ false → slice_get xs j ≡ Some y → Changed f xs i j y

changed-there : {X : Type 0} (f : X → X) (xs : List X) (i j : ℕ) (y : X) → slice_get (changed_at i f xs) j ≡ Some y → Changed f xs i j y
changed-there f [] i j y e = cc
changed-there f (x ∷ xs) zero zero y e = Here x refl refl (let u : f x ≡ y = cc in u)
changed-there f (x ∷ xs) zero (suc j) y e = Elsewhere refl e
changed-there f (x ∷ xs) (suc i) zero y e = Elsewhere refl e
changed-there f (x ∷ xs) (suc i) (suc j) y e = at (changed-there f xs i j y e)
  where
    at : Changed f xs i j y → Changed f (x ∷ xs) (suc i) (suc j) y
    at (Here z s a u) = Here z (ap suc s) a u
    at (Elsewhere s a) = Elsewhere s a

-- The node n became m, perhaps by giving up its first entry.
record Goes (passes : Bool) (n m : Node) : Type 0 where
  flies : (p call : ℕ) (given : Entries) → slice_get m.waiting p ≡ Some (InFlight call given) → slice_get n.waiting (earlier passes p) ≡ Some (InFlight call given)
  input : inputs m ≤ inputs n + 1

-- a node that was made: nothing is in flight there, and no mark came in
pub record IsBlank (m : Node) : Type 0 where
  pub none : (p call : ℕ) (given : Entries) → slice_get m.waiting p ≡ Some (InFlight call given) → ⊥
  pub input : inputs m ≡ 0

data Was (g : View) (passes : Bool) (i : ℕ) (m : Node) : Type 0 where
  Stood : (n : Node) → slice_get g.nodes i ≡ Some n → Goes passes n m → Was g passes i m
  Made : IsBlank m → Was g passes i m

-- What becomes of a graph where no call is started. At most one node gives up its first entry.
record Went (g h : View) : Type 0 where
  passes : ℕ → Bool
  calls : h.calls ≡ g.calls
  nodes : (i : ℕ) (m : Node) → slice_get h.nodes i ≡ Some m → Was g (passes i) i m

same : (m : ℕ) → m ≤ m + 1
same m = omega arith

none-more : (m : ℕ) → 0 ≤ m + 1
none-more m = omega arith

less : (a b c : ℕ) → a ≤ b → b ≤ c + 1 → a ≤ c + 1
less a b c h k = omega (arith, h, k)

as-it-stood : (g : View) (i : ℕ) (m : Node) → slice_get g.nodes i ≡ Some m → Was g false i m
as-it-stood g i m e = Stood m e (record { flies = λ p call given h. h; input = same (inputs m) })

-- nothing of it changes
stays : (g : View) → Went g g
stays g = record { passes = λ j. false; calls = refl; nodes = as-it-stood g }

-- what waits, with plain entries put behind it
plain-none : {X : Type 0} (o : List (Entry ModelItem)) (p call : ℕ) (given : Entries) → slice_get (plain o) p ≡ Some (InFlight call given) → X
plain-none [] p call given e = cc
plain-none (x ∷ o) zero call given e = cc
plain-none (x ∷ o) (suc p) call given e = plain-none o p call given e

behind-plain : (ws : List Waiting) (o : List (Entry ModelItem)) (p call : ℕ) (given : Entries) → slice_get (ws ++ plain o) p ≡ Some (InFlight call given) → slice_get ws p ≡ Some (InFlight call given)
behind-plain [] o p call given e = plain-none o p call given e
behind-plain (w ∷ ws) o zero call given e = e
behind-plain (w ∷ ws) o (suc p) call given e = behind-plain ws o p call given e

rest-there : (ws : List Waiting) (p : ℕ) (w : Waiting) → slice_get (rest_of ws) p ≡ Some w → slice_get ws (suc p) ≡ Some w
rest-there [] p w e = cc
rest-there (x ∷ ws) p w e = e

-- a change that touches neither calls nor marks
record IsLight (f : Node → Node) : Type 0 where
  flies : (n : Node) (p call : ℕ) (given : Entries) → slice_get (f n).waiting p ≡ Some (InFlight call given) → slice_get n.waiting p ≡ Some (InFlight call given)
  input : (n : Node) → inputs (f n) ≤ inputs n

even : (m : ℕ) → m ≤ m
even m = omega arith

least : (m : ℕ) → 0 ≤ m
least m = omega arith

waits-light : (o : List (Entry ModelItem)) → IsLight (waits_more (plain o))
waits-light o = record { flies = λ n p call given h. behind-plain n.waiting o p call given h; input = λ n. even (inputs n) }

child-light : (c : ℕ) (o : List (Entry ModelItem)) → IsLight (child_gives c o)
child-light c o = record { flies = λ n p call given h. h; input = λ n. even (inputs n) }

takes-light : (c : ℕ) → IsLight (takes_kept c)
takes-light c = record { flies = λ n p call given h. h; input = λ n. even (inputs n) }

-- a deterministic dispatcher goes on
turns-light : (ds : List (Entry Turn)) → IsLight (keeps (InTurn ds))
turns-light ds = record { flies = λ n p call given h. h; input = λ n. least (inputs n) }

closes-light : (ds : List (Entry Turn)) (c : ℕ) → IsLight (λ n. keeps (InTurn ds) (takes_kept c n))
closes-light ds c = record { flies = λ n p call given h. h; input = λ n. least (inputs n) }

epoch-even : (st : State) → (epochs_of (with_epoch st)).input ≤ (epochs_of st).input
epoch-even Alone = even 0
epoch-even (Cell patterns cell) = even 0
epoch-even (InTurn ds) = even 0
epoch-even (Freely e) = even e.input

adds-light : (k : Key) (entry : ℕ) → IsLight (adds_child k entry)
adds-light k entry = record { flies = λ n p call given h. h; input = λ n. epoch-even n.state }

-- new nodes are blank
blank-node : (m : Node) → m.waiting ≡ [] → inputs m ≡ 0 → IsBlank m
blank-node m e h = record { none = λ p call given t. no p call given (ap (λ (ws : List Waiting). slice_get ws p) (sym e) ∙ t); input = h }
  where
    no : {X : Type 0} (p call : ℕ) (given : Entries) → slice_get [] p ≡ Some (InFlight call given) → X
    no p call given t = cc

fork-blank : (m : MergeKind) (left node : ℕ) (cs : List Child) (steps : List Step) (path : List ℕ) (goes : Target) → IsBlank (dispatcher m left (own_child node ∷ cs) steps path goes)
fork-blank kind.Free left node cs steps path goes = blank-node _ refl refl
fork-blank kind.Det left node cs steps path goes = blank-node _ refl refl

blank : HoldsAnew IsBlank
blank = record {
  alone = λ steps path goes. blank-node _ refl refl;
  cell = λ patterns steps path goes. blank-node _ refl refl;
  fork = λ m left node cs steps path goes none. fork-blank m left node cs steps path goes;
}

nothing-less : (a b : ℕ) → a ≤ b → b ≡ 0 → a ≡ 0
nothing-less a b h e = omega (arith, h, e)

module _ (g : View) where
  light-was : (f : Node → Node) → IsLight f → (b : Bool) (i : ℕ) (m : Node) → Was g b i m → Was g b i (f m)
  light-was f l b i m (Stood n e k) =
      Stood n e (record { flies = λ p call given h. k.flies p call given (l.flies m p call given h); input = less (inputs (f m)) (inputs m) (inputs n) (l.input m) k.input })
  light-was f l b i m (Made k) =
      Made (record { none = λ p call given h. k.none p call given (l.flies m p call given h); input = nothing-less (inputs (f m)) (inputs m) (l.input m) k.input })

  went-light : (f : Node → Node) → IsLight f → (j : ℕ) (h : View) → Went g h → Went g (at_node j f h)
  went-light f l j h w = record { passes = w.passes; calls = w.calls; nodes = λ i m e. at i m (changed-there f h.nodes j i m e) }
    where
      at : (i : ℕ) (m : Node) → Changed f h.nodes j i m → Was g (w.passes i) i m
      at i m (Here x s a u) = subst (Was g (w.passes i) i) u (light-was f l (w.passes i) i x (w.nodes i x a))
      at i m (Elsewhere s a) = w.nodes i m a

  -- entries that are sent
  went-send : (goes : Target) (o : List (Entry ModelItem)) (h : View) → Went g h → Went g (send goes o h)
  went-send Out o h w = record { passes = w.passes; calls = w.calls; nodes = w.nodes }
  went-send (ToNode j) o h w = went-light (waits_more (plain o)) (waits-light o) j h w
  went-send (ToChild j c) o h w = went-light (child_gives c o) (child-light c o) j h w

  went-all : (cs : List Child) (o : List (Entry ModelItem)) (h : View) → Went g h → Went g (to_all cs o h)
  went-all [] o h w = w
  went-all (c ∷ cs) o h w = went-all cs o (send (ToNode c.entry) o h) (went-send (ToNode c.entry) o h w)

  went-entry : (c : ℕ) (o : List (Entry ModelItem)) (child : Option Child) (h : View) → Went g h → Went g (to_entry c o child h)
  went-entry zero o child h w = w
  went-entry (suc c) o (Some child) h w = went-send (ToNode child.entry) o h w
  went-entry (suc c) o None h w = w

  -- the node at i
  module _ (i : ℕ) (n : Node) (there : slice_get g.nodes i ≡ Some n) where
    went-node : (b : Bool) (f : Node → Node) → Goes b n (f n) → Went g (at_node i f g)
    went-node b f k = record { passes = λ j. is_same j i && b; calls = refl; nodes = λ j m e. at j m (changed-there f g.nodes i j m e) }
      where
        at : (j : ℕ) (m : Node) → Changed f g.nodes i j m → Was g (is_same j i && b) j m
        at j m (Here x s a u) =
            let same : n ≡ x = (let v : Some n ≡ Some x = sym there ∙ ap (slice_get g.nodes) (sym s) ∙ a in cc) in
            let t : is_same j i && b ≡ b = ap (λ (k : ℕ). is_same k i && b) s ∙ ap (λ (v : Bool). v && b) (is_same-refl i) in
            subst (λ (v : Bool). Was g v j m) (sym t)
            (Stood n (ap (slice_get g.nodes) s ∙ there) (subst (Goes b n) (ap f same ∙ u) k))
        at j m (Elsewhere s a) = subst (λ (v : Bool). Was g v j m) (sym (ap (λ (v : Bool). v && b) s)) (as-it-stood g j m a)

    went-gives : (b : Bool) (f : Node → Node) → Goes b n (f n) → (o : List (Entry ModelItem)) → Went g (gives i f n.goes o g)
    went-gives b f k o = went-send n.goes o (at_node i f g) (went-node b f k)

    lightly : (f : Node → Node) → IsLight f → Went g (at_node i f g)
    lightly f l = went-light f l i g (stays g)

    lightly-gives : (f : Node → Node) → IsLight f → (o : List (Entry ModelItem)) → Went g (gives i f n.goes o g)
    lightly-gives f l o = went-send n.goes o (at_node i f g) (lightly f l)

    -- the first entry goes
    goes-on : (f : Node → Node) → (f n).waiting ≡ rest_of n.waiting → inputs (f n) ≤ inputs n + 1 → Goes true n (f n)
    goes-on f e h = record { flies = λ p call given t. rest-there n.waiting p (InFlight call given) (ap (λ (ws : List Waiting). slice_get ws p) (sym e) ∙ t); input = h }

    component-input : (old new : State) → StaysComponent old new → (epochs_of new).input ≡ 0
    component-input Alone Alone h = refl
    component-input (Cell patterns cell) (Cell others after) h = refl
    component-input Alone (Cell others after) h = refl
    component-input Alone (InTurn ds) h = refl
    component-input Alone (Freely q) h = absurd h
    component-input (Cell patterns cell) Alone h = refl
    component-input (Cell patterns cell) (InTurn ds) h = refl
    component-input (Cell patterns cell) (Freely q) h = absurd h
    component-input (InTurn ds) new h = absurd h
    component-input (Freely q) new h = absurd h

    went-local : (o : Option Given) → local_of g n ≡ o → Went g (local_then i n g o)
    went-local None e = stays g
    went-local (Some given) e =
        let z : (epochs_of given.state).input ≡ 0 = component-input n.state given.state (local-component g.run (form_of g n) n.state (first_of n.waiting) given e) in
        went-gives true (λ m. keeps given.state (passed m))
        (goes-on (λ m. keeps given.state (passed m)) refl (subst (λ (a : ℕ). a ≤ inputs n + 1) (sym z) (none-more (inputs n)))) given.entries

    -- a deterministic dispatcher
    went-turn : (ds : List (Entry Turn)) (routing : Routing) (c : ℕ) → Went g (det_routes i n ds routing c g)
    went-turn ds routing c =
        let d : Node → Node = decides ds (decision_of routing.router routing.entry) in
        went-entry c (group_of routing.entry) (slice_get n.children c) (at_node i d g) (went-node true d (goes-on d refl (none-more (inputs n))))

    went-group : (c : ℕ) (ds : List (Entry Turn)) (o : Option (Entry ModelItem)) → Went g (group_gives i n c ds o g)
    went-group c ds (Some (It y)) = lightly-gives (takes_kept c) (takes-light c) (It y ∷ [])
    went-group c ds (Some Mark) = lightly (λ m. keeps (InTurn (rest_of ds)) (takes_kept c m)) (closes-light (rest_of ds) c)
    went-group c ds (Some End) = lightly (takes_kept c) (takes-light c)
    went-group c ds None = stays g

    went-served : (c : ℕ) (ds : List (Entry Turn)) (o : Option (Entry Turn)) → Went g (det_merges i n c ds o g)
    went-served c ds (Some (It (Own y))) = lightly-gives (keeps (InTurn (rest_of ds))) (turns-light (rest_of ds)) (It y ∷ [])
    went-served c ds (Some (It (To k))) = went-group c ds (first_of (kept_of n.children c))
    went-served c ds (Some Mark) = lightly-gives (keeps (InTurn (rest_of ds))) (turns-light (rest_of ds)) (Mark ∷ [])
    went-served c ds (Some End) = lightly-gives (keeps (InTurn (rest_of ds))) (turns-light (rest_of ds)) (End ∷ [])
    went-served c ds None = stays g

    -- a free one
    module _ (q : Epochs) (st : n.state ≡ Freely q) where
      was-input : q.input ≡ inputs n
      was-input = ap (λ (s : State). (epochs_of s).input) (sym st)

      one-more : q.input + 1 ≤ inputs n + 1
      one-more = let w : q.input ≡ inputs n = was-input in omega (arith, w)

      as-before : q.input ≤ inputs n + 1
      as-before = let w : q.input ≡ inputs n = was-input in omega (arith, w)

      went-free : (r : Router ModelItem) (x : Entry ModelItem) (c : ℕ) → Went g (free_routes i n q r x c g)
      went-free r (It x) zero =
          went-node true (λ m. child_gives 0 (It (r.own x) ∷ []) (passed m)) (goes-on (λ m. child_gives 0 (It (r.own x) ∷ []) (passed m)) refl (same (inputs n)))
      went-free r (It x) (suc c) =
          went-entry (suc c) (It x ∷ []) (slice_get n.children (suc c)) (at_node i passed g) (went-node true passed (goes-on passed refl (same (inputs n))))
      went-free r Mark c =
          let f : Node → Node = λ m. keeps (Freely (closed q)) (child_gives 0 (Mark ∷ []) (passed m)) in
          went-all (rest_of n.children) (Mark ∷ []) (at_node i f g) (went-node true f (goes-on f refl one-more))
      went-free r End c =
          went-node true (λ m. child_gives 0 (End ∷ []) (passed m)) (goes-on (λ m. child_gives 0 (End ∷ []) (passed m)) refl (same (inputs n)))

      moves-on : (f : Node → Node) → (f n).waiting ≡ n.waiting → inputs (f n) ≡ q.input → Goes false n (f n)
      moves-on f e h = record {
        flies = λ p call given t. ap (λ (ws : List Waiting). slice_get ws p) (sym e) ∙ t;
        input = subst (λ (a : ℕ). a ≤ inputs n + 1) (sym h) as-before;
      }

      abbrev by-passing : ℕ → Epochs → Bool → View
      by-passing c e v = cond v (gives i (λ m. keeps (Freely (moved_on e)) (takes_kept c m)) n.goes (Mark ∷ []) g) (at_node i (λ m. keeps (Freely e) (takes_kept c m)) g)

      went-mark : (c : ℕ) → Went g (mark_passes i n c (marked c q) g)
      went-mark c = at (is_passed (marked c q))
        where
          at : (b : Bool) → Went g (by-passing c (marked c q) b)
          at true = let f : Node → Node = λ m. keeps (Freely (moved_on (marked c q))) (takes_kept c m) in went-gives false f (moves-on f refl refl) (Mark ∷ [])
          at false = let f : Node → Node = λ m. keeps (Freely (marked c q)) (takes_kept c m) in went-node false f (moves-on f refl refl)

      went-merged : (c : ℕ) (o : Option (Entry ModelItem)) → Went g (free_merges i n c q o g)
      went-merged c (Some (It y)) = lightly-gives (takes_kept c) (takes-light c) (It y ∷ [])
      went-merged c (Some Mark) = went-mark c
      went-merged c (Some End) = lightly-gives (takes_kept c) (takes-light c) (End ∷ [])
      went-merged c None = stays g

    went-routes : (st : State) → n.state ≡ st → (routing : Routing) (c : ℕ) → Went g (routes_by i n st routing c g)
    went-routes Alone st routing c = stays g
    went-routes (Cell patterns cell) st routing c = stays g
    went-routes (InTurn ds) st routing c = went-turn ds routing c
    went-routes (Freely q) st routing c = went-free q st routing.router routing.entry c

    went-routed : (o : Option Routing) → Went g (routed i n o g)
    went-routed None = stays g
    went-routed (Some routing) = at (needs n routing)
      where
        at : (o : Option ℕ) → Went g (unwrap_or (option_map (λ c. routes_by i n n.state routing c g) o) g)
        at None = stays g
        at (Some c) = went-routes n.state refl routing c

    went-merges : (c : ℕ) (st : State) → n.state ≡ st → Went g (merges_by i n c st g)
    went-merges c Alone st = stays g
    went-merges c (Cell patterns cell) st = stays g
    went-merges c (InTurn ds) st = went-served c ds (first_of ds)
    went-merges c (Freely q) st = went-merged q st c (first_of (kept_of n.children c))

    went-unfolded : (o : Option Routing) → Went g (unfolded i n o g)
    went-unfolded None = stays g
    went-unfolded (Some routing) =
        let k : Key = key_of routing.router routing.entry in
        let w : Went g (at_node i (adds_child k (length g.nodes)) g) = lightly (adds_child k (length g.nodes)) (adds-light k (length g.nodes)) in
        record {
          passes = w.passes;
          calls = refl;
          nodes = λ j m e. elim (split-there (changed_at i (adds_child k (length g.nodes)) g.nodes) (new_nodes (depth_of g.run) (form_of g n) k i n (length g.nodes)) j m e) [
            | inl u ↦ w.nodes j m u
            | inr u ↦ Made (all-made IsBlank blank (depth_of g.run) (form_of g n) k i n (length g.nodes) u.0 m u.1)
          ];
        }

-- Start: which place gets a call
abbrev pub first_place : List Waiting → ℕ
first_place [] = 0
first_place (w ∷ ws) = cond (has_no_call w) 0 (suc (first_place ws))

-- it was there, or is the new one
abbrev WasOrCalled : ℕ → List Waiting → ℕ → ℕ → Entries → Type 0
WasOrCalled new ws p call given = (slice_get ws p ≡ Some (InFlight call given)) ⊎ ((call ≡ new) × (p ≡ first_place ws))

called : (new : ℕ) (ws : List Waiting) (p call : ℕ) (given : Entries) → slice_get (first_called new ws) p ≡ Some (InFlight call given) → WasOrCalled new ws p call given
called new [] p call given e = cc
called new (w ∷ ws) p call given e = at w (has_no_call w) refl p e (called new ws)
  where
    in-front : (w : Waiting) → Some (in_call new w) ≡ Some (InFlight call given) → (Some w ≡ Some (InFlight call given)) ⊎ (call ≡ new)
    in-front (Plain (It (Rec r))) e = inr (let u : new ≡ call = cc in sym u)
    in-front (Plain (It (Fault f))) e = inl e
    in-front (Plain (It (Stuck s))) e = inl e
    in-front (Plain Mark) e = inl e
    in-front (Plain End) e = inl e
    in-front (InFlight other r) e = inl e
    in-front (Finished r) e = inl e

    at : (w : Waiting) (b : Bool) → has_no_call w ≡ b → (p : ℕ) → slice_get (cond b (in_call new w ∷ ws) (w ∷ first_called new ws)) p ≡ Some (InFlight call given)
        → ((p call : ℕ) (given : Entries) → slice_get (first_called new ws) p ≡ Some (InFlight call given) → WasOrCalled new ws p call given)
        → (slice_get (w ∷ ws) p ≡ Some (InFlight call given)) ⊎ ((call ≡ new) × (p ≡ cond (has_no_call w) 0 (suc (first_place ws))))
    at w true t zero e later = elim (in-front w e) [ inl u ↦ inl u | inr u ↦ inr (u, sym (ap (λ (b : Bool). cond b 0 (suc (first_place ws))) t)) ]
    at w true t (suc p) e later = inl e
    at w false t zero e later = inl e
    at w false t (suc p) e later = elim (later p call given e) [
      | inl u ↦ inl u
      | inr (u, v) ↦ inr (u, ap suc v ∙ sym (ap (λ (b : Bool). cond b 0 (suc (first_place ws))) t))
    ]

-- this place of the node got the next call
pub record IsCalled (g : View) (e : Happening) (i p call : ℕ) : Type 0 where
  pub node : Node
  pub there : slice_get g.nodes i ≡ Some node
  pub starts : e ≡ Start i
  pub place : p ≡ first_place node.waiting
  pub number : call ≡ g.calls

-- what came in at a node before the event, if it was there
pub record WasInput (g : View) (i : ℕ) (m : Node) : Type 0 where
  pub node : Node
  pub there : slice_get g.nodes i ≡ Some node
  pub input : inputs m ≤ inputs node + 1

-- WHAT EACH EVENT DOES
pub record Stepped (g : View) (e : Happening) : Type 0 where
  pub passes : ℕ → Bool
  pub flies : (i p call : ℕ) (given : Entries) → FliesAt (after g e) i p call given → FliesAt g i (earlier (passes i) p) call given ⊎ IsCalled g e i p call
  pub input : (i : ℕ) (m : Node) → slice_get (after g e).nodes i ≡ Some m → (inputs m ≡ 0) ⊎ WasInput g i m
  pub keeps_number : g.calls ≤ (after g e).calls
  pub one_more : (after g e).calls ≤ g.calls + 1
  pub counted : (i p call : ℕ) → IsCalled g e i p call → call < (after g e).calls

not-less : (a b : ℕ) → a ≡ b → b ≤ a
not-less a b h = omega (arith, h)

not-more : (a b : ℕ) → a ≡ b → a ≤ b + 1
not-more a b h = omega (arith, h)

-- where no call is started
abbrev IsStart : Happening → Type 0
IsStart Take = ⊥
IsStart (Start i) = Unit {0}
IsStart (Finish call number place given) = ⊥
IsStart (Local i) = ⊥
IsStart (Route i) = ⊥
IsStart (Unfold i) = ⊥
IsStart (Merge i c) = ⊥
IsStart Emit = ⊥

by-going : (g : View) (e : Happening) → (IsStart e → ⊥) → Went g (after g e) → Stepped g e
by-going g e none w = record {
  passes = w.passes;
  flies = λ i p call given h. at i p call given h.node h.flies (w.nodes i h.node h.there);
  input = λ i m t. input-at i m (w.nodes i m t);
  keeps_number = not-less (after g e).calls g.calls w.calls;
  one_more = not-more (after g e).calls g.calls w.calls;
  counted = λ i p call h. absurd (none (subst IsStart (sym h.starts) tt));
}
  where
    at : (i p call : ℕ) (given : Entries) (m : Node) → slice_get m.waiting p ≡ Some (InFlight call given) → Was g (w.passes i) i m
        → FliesAt g i (earlier (w.passes i) p) call given ⊎ IsCalled g e i p call
    at i p call given m t (Stood n u k) = inl (record { node = n; there = u; flies = k.flies p call given t })
    at i p call given m t (Made k) = absurd (k.none p call given t)

    input-at : (i : ℕ) (m : Node) → Was g (w.passes i) i m → (inputs m ≡ 0) ⊎ WasInput g i m
    input-at i m (Stood n u k) = inr (record { node = n; there = u; input = k.input })
    input-at i m (Made k) = inl k.input

-- where one is
by-starting : (g : View) (i : ℕ) → Stepped g (Start i)
by-starting g i = record {
  passes = λ j. false;
  flies = λ j p call given h. at j p call given h.node h.flies (changed-there f g.nodes i j h.node h.there);
  input = λ j m t. input-at j m (changed-there f g.nodes i j m t);
  keeps_number = omega arith;
  one_more = omega arith;
  counted = λ j p call h. let u : call ≡ g.calls = h.number in omega (arith, u);
}
  where
    f : Node → Node
    f n = record n { waiting = first_called g.calls n.waiting }

    at : (j p call : ℕ) (given : Entries) (m : Node) → slice_get m.waiting p ≡ Some (InFlight call given) → Changed f g.nodes i j m
        → FliesAt g j p call given ⊎ IsCalled g (Start i) j p call
    at j p call given m t (Elsewhere s a) = inl (record { node = m; there = a; flies = t })
    at j p call given m t (Here x s a u) =
        elim (called g.calls x.waiting p call given (subst (λ (n : Node). slice_get n.waiting p ≡ Some (InFlight call given)) (sym u) t)) [
          | inl v ↦ inl (record { node = x; there = a; flies = v })
          | inr v ↦ inr (record { node = x; there = a; starts = ap (λ (k : ℕ). Start k) (sym s); place = v.1; number = v.0 })
        ]

    input-at : (j : ℕ) (m : Node) → Changed f g.nodes i j m → (inputs m ≡ 0) ⊎ WasInput g j m
    input-at j m (Elsewhere s a) = inr (record { node = m; there = a; input = same (inputs m) })
    input-at j m (Here x s a u) = inr (record { node = x; there = a; input = subst (λ (n : Node). inputs n ≤ inputs x + 1) u (same (inputs x)) })

-- a result is given back
still-in-flight : (call other : ℕ) (given : Entries) (w : Waiting) → with_answer call w ≡ InFlight other given → w ≡ InFlight other given
still-in-flight call other given (Plain x) e = e
still-in-flight call other given (Finished r) e = e
still-in-flight call other given (InFlight own r) e = at (call == own) e
  where
    at : (b : Bool) → cond b (Finished r) (InFlight own r) ≡ InFlight other given → InFlight own r ≡ InFlight other given
    at true e = cc
    at false e = e

went-finished : (g : View) (call : ℕ) → Went g (finished call g)
went-finished g call = record { passes = λ i. false; calls = refl; nodes = λ i m e. at i m (there-unmap (gets_answer call) g.nodes i m e) }
  where
    flies : (ws : List Waiting) (p other : ℕ) (given : Entries) → slice_get (map (with_answer call) ws) p ≡ Some (InFlight other given) → slice_get ws p ≡ Some (InFlight other given)
    flies ws p other given e =
        let u : (w : Waiting) × (slice_get ws p ≡ Some w) × (with_answer call w ≡ InFlight other given) = there-unmap (with_answer call) ws p (InFlight other given) e in
        u.1 ∙ ap (λ (w : Waiting). Some w) (still-in-flight call other given u.0 u.2)

    at : (i : ℕ) (m : Node) → (n : Node) × (slice_get g.nodes i ≡ Some n) × (gets_answer call n ≡ m) → Was g false i m
    at i m (n, a, u) =
        subst (Was g false i) u (Stood n a (record { flies = λ p other given t. flies n.waiting p other given t; input = same (inputs n) }))

pub stepped : (g : View) (e : Happening) → Stepped g e
stepped g (Start i) = by-starting g i
stepped g Take = by-going g Take (λ h. h) (at (next_input g))
  where
    at : (o : Option ModelItem) → Went g (took o g)
    at None = went-send g (ToNode 0) (End ∷ []) (record g { ended = true }) (record { passes = λ i. false; calls = refl; nodes = as-it-stood g })
    at (Some x) = went-send g (ToNode 0) (It x ∷ []) (record g { taken = g.taken + 1 }) (record { passes = λ i. false; calls = refl; nodes = as-it-stood g })
stepped g (Finish call number place given) = by-going g (Finish call number place given) (λ h. h) (went-finished g call)
stepped g (Local i) = by-going g (Local i) (λ h. h) (at (slice_get g.nodes i) refl)
  where
    at : (o : Option Node) → slice_get g.nodes i ≡ o → Went g (if_node (λ n. local_then i n g (local_of g n)) g o)
    at None e = stays g
    at (Some n) e = went-local g i n e (local_of g n) refl
stepped g (Route i) = by-going g (Route i) (λ h. h) (at (slice_get g.nodes i) refl)
  where
    at : (o : Option Node) → slice_get g.nodes i ≡ o → Went g (if_node (λ n. routed i n (routing_of g n) g) g o)
    at None e = stays g
    at (Some n) e = went-routed g i n e (routing_of g n)
stepped g (Unfold i) = by-going g (Unfold i) (λ h. h) (at (slice_get g.nodes i) refl)
  where
    at : (o : Option Node) → slice_get g.nodes i ≡ o → Went g (if_node (λ n. unfolded i n (routing_of g n) g) g o)
    at None e = stays g
    at (Some n) e = went-unfolded g i n e (routing_of g n)
stepped g (Merge i c) = by-going g (Merge i c) (λ h. h) (at (slice_get g.nodes i) refl)
  where
    at : (o : Option Node) → slice_get g.nodes i ≡ o → Went g (if_node (λ n. merges_by i n c n.state g) g o)
    at None e = stays g
    at (Some n) e = went-merges g i n e c n.state refl
stepped g Emit = by-going g Emit (λ h. h) (at (first_of g.ready))
  where
    at : (o : Option (Entry ModelItem)) → Went g (emitted o g)
    at None = stays g
    at (Some (It y)) = record { passes = λ i. false; calls = refl; nodes = as-it-stood g }
    at (Some Mark) = record { passes = λ i. false; calls = refl; nodes = as-it-stood g }
    at (Some End) = record { passes = λ i. false; calls = refl; nodes = as-it-stood g }

-- AT THE START
pub start-blank : (run : Run) (i : ℕ) (m : Node) → slice_get (start_view run).nodes i ≡ Some m → IsBlank m
start-blank run i m e = all-planned IsBlank blank (depth_of run) (net_of run) [] [] Out 0 i m e
