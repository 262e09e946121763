-- A node that changes and sends on what it gives: at most one move.
use Rattle.std.proofs.Common.{◌≡◌, ℕ, zero, suc, Bool, true, false, cond, List, [], ◌∷◌, ◌++◌, map, Some, refl, sym, ap, ap₂, ◌∙◌, subst, append-nil, ◌-◌, if◌then◌else◌, inl, inr}
use Rattle.std.proofs.Math.Path.{fun_ext}
use Rattle.std.specs.Prelude.{slice_get}
use Rattle.sn_streams.specs.Keys.{Key, key_eq, AreDistinct}
use Rattle.sn_streams.specs.Keys as key
use Rattle.sn_streams.proofs.Keys.{same_key}
use Rattle.sn_net.specs.Cell.{CellState, Passing}
use Rattle.sn_net.specs.Dispatchers.{Network}
use Rattle.sn_net.specs.Item.{ModelItem}
use Rattle.sn_view.specs.View.{Entry, State, Alone, Cell, InTurn, Freely, Child, Target, Out, ToNode, ToChild, Node, View, changed_at, at_node, waits_more, keeps_more, child_gives}
use Rattle.sn_view.specs.Next.{send, gives, plain}
use Rattle.sn_live.specs.Entries.{Entry as LiveEntry}
use Rattle.sn_live.specs.Live.{Step as LiveStep, Node as LiveNode, Live, change, subs, Target as LiveTarget, Out as LiveOut, ToNode as LiveToNode, ToKept, left_over, waits_more as live_waits_more, keeps_more as live_keeps_more}
use Rattle.sn_live.specs.Parts.{part}
use Rattle.sn_live.specs.Flat.{Flat, look, at_index, sent_to, IsAt, StepsAt, at_steps, base}
use Rattle.sn_live.specs.Runs.{Running, Move, Moves}
use Rattle.sn_live.proofs.Arena.{flat-move}
use Rattle.sn_view.specs.Seen.{step_of, erased, seen_kept, epochs_of, seen_node, seen, live_of, tree_of, running}
use Rattle.sn_view.specs.Placed.{Shape, shape_of, Door, door_of, DistinctSteps, HasSteps, HasKey, Sends, Follows}
use Rattle.sn_view.proofs.Lists.{there-map, there-unmap, unseen-change}
use Rattle.sn_view.proofs.Children.{keys_of, keys-of-doors, not-own, IsApart, seen-kept-here, seen-kept-changed, keys-changed, epochs-changed}
use Rattle.sn_view.proofs.Seeing.{erased-append, seen-waits, are-distinct, node-there, seen-changed}

abbrev pub S : Type 0
S = CellState

abbrev pub LiveN : Type 0
LiveN = LiveNode ModelItem S

-- the number of the node that a target names
abbrev pub index_of : Target → ℕ
index_of Out = 0
index_of (ToNode j) = j
index_of (ToChild j c) = j

-- a node whose parts are these
abbrev pub with_children : LiveN → List Key → (Key → ℕ) → (Key → List (LiveEntry ModelItem)) → LiveN
with_children n m l k = record n { made = m; lead = l; kept = k }

-- entries kept of a child
pub seen-keeps : (o : List (Entry ModelItem)) (n : Node) (c : ℕ) (child : Child) → IsApart n.state child.key → slice_get n.children c ≡ Some child → AreDistinct (keys_of n.children)
    → seen_node (child_gives c o n) ≡ live_keeps_more child.key (erased o) (seen_node n)
seen-keeps o n c child a e d =
    ap₂ (λ (m : List Key) (l : Key → ℕ). with_children (seen_node n) m l (seen_kept n.state (changed_at c (keeps_more o) n.children))) (keys-changed (keeps_more o) (λ x. refl) n.children c)
    (fun_ext (λ k. ap (λ (m : ℕ). m - (epochs_of n.state).output) (epochs-changed (keeps_more o) (λ x. refl) n.children c (epochs_of n.state).children k)))
    ∙ ap (λ (k : Key → List (LiveEntry ModelItem)). record (seen_node n) { kept = k }) (fun_ext each)
  where
    each : (k : Key) → seen_kept n.state (changed_at c (keeps_more o) n.children) k ≡ (if key_eq k child.key then seen_kept n.state n.children k ++ erased o else seen_kept n.state n.children k)
    each k = seen-kept-changed (keeps_more o) (λ x. refl) n.state n.children c child a e d k ∙ at (key_eq k child.key) refl
      where
        at : (b : Bool) → key_eq k child.key ≡ b
            → cond b (erased (child.kept ++ o)) (seen_kept n.state n.children k) ≡ cond b (seen_kept n.state n.children k ++ erased o) (seen_kept n.state n.children k)
        at false t = refl
        at true t =
            erased-append child.kept o
            ∙ ap (λ (w : List (LiveEntry ModelItem)). w ++ erased o) (sym (ap (seen_kept n.state n.children) (same_key k child.key t) ∙ seen-kept-here n.state n.children c child a e d))

-- what a view is, when entries were sent
abbrev pub after_send : View → LiveTarget → ℕ → List (LiveEntry ModelItem) → List (Flat ModelItem S) → Running ModelItem S
after_send g T j o ns = record { todo = (running g).todo; live = look (base Passing (tree_of g)) (sent_to T j o ns); ready = (running g).ready ++ left_over T o; out = g.out }

pub send-running : (goes : Target) (T : LiveTarget) (o : List (Entry ModelItem)) (g : View) → Sends (map shape_of g.nodes) goes T
    → running (send goes o g) ≡ after_send g T (index_of goes) (erased o) (map seen g.nodes)
send-running Out LiveOut o g s = ap (λ (r : List (LiveEntry ModelItem)). record (running g) { ready = r }) (erased-append g.ready o)
send-running (ToNode j) (LiveToNode q) o g s =
    ap₂ (λ (ns : List (Flat ModelItem S)) (r : List (LiveEntry ModelItem)). record (running g) { live = look (base Passing (tree_of g)) ns; ready = r })
    (seen-changed (waits_more (plain o)) (live_waits_more (erased o)) g.nodes j
    (λ n e. ap (λ (m : LiveN). let f : Flat ModelItem S = record { steps = map step_of n.steps; node = m } in f) (seen-waits o n)))
    (sym (append-nil (erased g.ready)))
send-running (ToChild j (suc c)) (ToKept q k) o g (m, there, steps, (d, door, is), first, distinct) =
    ap₂ (λ (ns : List (Flat ModelItem S)) (r : List (LiveEntry ModelItem)). record (running g) { live = look (base Passing (tree_of g)) ns; ready = r })
    (seen-changed (child_gives (suc c) o) (live_keeps_more k (erased o)) g.nodes j (λ n e. ap (λ (l : LiveN). let f : Flat ModelItem S = record { steps = map step_of n.steps; node = l } in f) (at n e)))
    (sym (append-nil (erased g.ready)))
  where
    apart : (st : State) (k : Key) → key_eq k key.Own ≡ false → IsApart st k
    apart Alone k h = tt
    apart (Cell patterns cell) k h = tt
    apart (InTurn ds) k h = h
    apart (Freely e) k h = tt

    at : (n : Node) → slice_get g.nodes j ≡ Some n → seen_node (child_gives (suc c) o n) ≡ live_keeps_more k (erased o) (seen_node n)
    at n e =
        let same : shape_of n ≡ m = (let u : Some (shape_of n) ≡ Some m = sym (there-map shape_of g.nodes j n e) ∙ there in cc) in
        let door' : slice_get (map door_of n.children) (suc c) ≡ Some d = ap (λ (x : Shape). slice_get x.doors (suc c)) same ∙ door in
        let child : (x : Child) × (slice_get n.children (suc c) ≡ Some x) × (door_of x ≡ d) = there-unmap door_of n.children (suc c) d door' in
        let ks : AreDistinct (keys_of n.children) = subst AreDistinct (keys-of-doors n.children) (subst (λ (x : Shape). AreDistinct (map (λ (y : Door). y.key) x.doors)) (sym same) distinct) in
        let own : HasKey (map door_of n.children) 0 key.Own = subst (λ (x : Shape). HasKey x.doors 0 key.Own) (sym same) first in
        seen-keeps o n (suc c) child.0 (apart n.state child.0.key (not-own n.children c child.0 ks own child.1)) child.1 ks
        ∙ ap (λ (i : Key). live_keeps_more i (erased o) (seen_node n)) (ap (λ (x : Door). x.key) child.2 ∙ is)
send-running (ToChild j zero) (ToKept q k) o g s = absurd s
send-running Out (LiveToNode q) o g s = absurd s
send-running Out (ToKept q k) o g s = absurd s
send-running (ToNode j) LiveOut o g s = absurd s
send-running (ToNode j) (ToKept q k) o g s = absurd s
send-running (ToChild j zero) LiveOut o g s = absurd s
send-running (ToChild j (suc c)) LiveOut o g s = absurd s
send-running (ToChild j zero) (LiveToNode q) o g s = absurd s
send-running (ToChild j (suc c)) (LiveToNode q) o g s = absurd s

pub steps-there : (ns : List Node) (j : ℕ) (s : List LiveStep) → HasSteps (map shape_of ns) j s → StepsAt (map seen ns) j s
steps-there ns j s (m, there, steps) =
    let n : (x : Node) × (slice_get ns j ≡ Some x) × (shape_of x ≡ m) = there-unmap shape_of ns j m there in
    (seen n.0, node-there ns j n.0 n.1, ap (λ (x : Shape). x.steps) n.2 ∙ steps)

is-there : (ns : List Node) (goes : Target) (T : LiveTarget) → Sends (map shape_of ns) goes T → IsAt (map seen ns) (index_of goes) T
is-there ns Out LiveOut s = tt
is-there ns (ToNode j) (LiveToNode q) s = steps-there ns j q s
is-there ns (ToChild j (suc c)) (ToKept q k) (m, there, steps, rest, own, ks) = steps-there ns j q (m, there, steps)
is-there ns (ToChild j zero) (ToKept q k) s = absurd s
is-there ns Out (LiveToNode q) s = absurd s
is-there ns Out (ToKept q k) s = absurd s
is-there ns (ToNode j) LiveOut s = absurd s
is-there ns (ToNode j) (ToKept q k) s = absurd s
is-there ns (ToChild j zero) LiveOut s = absurd s
is-there ns (ToChild j (suc c)) LiveOut s = absurd s
is-there ns (ToChild j zero) (LiveToNode q) s = absurd s
is-there ns (ToChild j (suc c)) (LiveToNode q) s = absurd s

pub same-there : (ns : List Node) (i : ℕ) (n m : Node) → slice_get ns i ≡ Some n → slice_get ns i ≡ Some m → m ≡ n
same-there ns i n m e h = let u : Some m ≡ Some n = sym h ∙ e in cc

-- one node changed, as it is seen
pub seen-one : (g : View) (i : ℕ) (n : Node) (f : Node → Node) → slice_get g.nodes i ≡ Some n → shape_of (f n) ≡ shape_of n
    → map seen (at_node i f g).nodes ≡ at_index i (λ m. seen_node (f n)) (map seen g.nodes)
seen-one g i n f e same =
    seen-changed f (λ m. seen_node (f n)) g.nodes i
    (λ m h. let u : m ≡ n = same-there g.nodes i n m e h in
    let P : Node → Type 0 = λ x. seen (f x) ≡ record { steps = map step_of x.steps; node = seen_node (f n) } in
    subst P (sym u) (ap (λ (s : List LiveStep). let r : Flat ModelItem S = record { steps = s; node = seen_node (f n) } in r) (ap (λ (x : Shape). x.steps) same)))

pub same-shapes : (g : View) (i : ℕ) (n : Node) (f : Node → Node) → slice_get g.nodes i ≡ Some n → shape_of (f n) ≡ shape_of n
    → map shape_of (at_node i f g).nodes ≡ map shape_of g.nodes
same-shapes g i n f e same =
    unseen-change shape_of f g.nodes i (λ m h. let P : Node → Type 0 = λ x. shape_of (f x) ≡ shape_of x in subst P (sym (same-there g.nodes i n m e h)) same)

pub gives-move : (g : View) (i : ℕ) (n : Node) (f : Node → Node) (o : List (Entry ModelItem)) (u : Network)
    → DistinctSteps (map shape_of g.nodes) → slice_get g.nodes i ≡ Some n → shape_of (f n) ≡ shape_of n
    → at_steps (tree_of g) (map step_of n.steps) ≡ Some u → Sends (map shape_of g.nodes) n.goes ((part (tree_of g)).target (map step_of n.steps))
    → (part u).moves (subs (map step_of n.steps) (live_of g)) (erased o) (change [] (λ m. seen_node (f n)) (subs (map step_of n.steps) (live_of g)))
    → Move (part (tree_of g)) (running g) (running (gives i f n.goes o g))
gives-move g i n f o u d e same is sends m =
    let T : LiveTarget = (part (tree_of g)).target (map step_of n.steps) in
    let shapes : map shape_of (at_node i f g).nodes ≡ map shape_of g.nodes = same-shapes g i n f e same in
    let sends' : Sends (map shape_of (at_node i f g).nodes) n.goes T = subst (λ (ss : List Shape). Sends ss n.goes T) (sym shapes) sends in
    let one : map seen (at_node i f g).nodes ≡ at_index i (λ m. seen_node (f n)) (map seen g.nodes) = seen-one g i n f e same in
    let whole : running (gives i f n.goes o g) ≡ after_send g T (index_of n.goes) (erased o) (at_index i (λ m. seen_node (f n)) (map seen g.nodes)) =
    send-running n.goes T o (at_node i f g) sends' ∙ ap (after_send g T (index_of n.goes) (erased o)) one in
    let at : IsAt (at_index i (λ m. seen_node (f n)) (map seen g.nodes)) (index_of n.goes) T =
    subst (λ (ns : List (Flat ModelItem S)). IsAt ns (index_of n.goes) T) one (is-there (at_node i f g).nodes n.goes T sends') in
    let P : Running ModelItem S → Type 0 = λ r. Move (part (tree_of g)) (running g) r in
    subst P (sym whole)
    (Moves (left_over T (erased o)) refl
    (flat-move (tree_of g) (base Passing (tree_of g)) (map seen g.nodes) i (seen n) u (λ m. seen_node (f n)) (erased o) (index_of n.goes)
    (are-distinct g.nodes d) (node-there g.nodes i n e) is at m)
    refl refl)

-- nothing is sent
pub nothing-sent : (T : LiveTarget) (j : ℕ) (ns : List (Flat ModelItem S)) → sent_to T j [] ns ≡ ns
nothing-sent LiveOut j ns = refl
nothing-sent (LiveToNode s) j [] = refl
nothing-sent (LiveToNode s) zero (n ∷ ns) =
    ap (λ (w : List (LiveEntry ModelItem)). let f : Flat ModelItem S = record { steps = n.steps; node = record n.node { waiting = w } } in f ∷ ns) (append-nil n.node.waiting)
nothing-sent (LiveToNode s) (suc j) (n ∷ ns) = ap (λ (ms : List (Flat ModelItem S)). n ∷ ms) (nothing-sent (LiveToNode s) j ns)
nothing-sent (ToKept s k) j [] = refl
nothing-sent (ToKept s k) zero (n ∷ ns) =
    ap (λ (w : Key → List (LiveEntry ModelItem)). let f : Flat ModelItem S = record { steps = n.steps; node = record n.node { kept = w } } in f ∷ ns)
    (fun_ext (λ j. same (key_eq j k) (n.node.kept j)))
  where
    same : (b : Bool) (w : List (LiveEntry ModelItem)) → cond b (w ++ []) w ≡ w
    same true w = append-nil w
    same false w = refl
nothing-sent (ToKept s k) (suc j) (n ∷ ns) = ap (λ (ms : List (Flat ModelItem S)). n ∷ ms) (nothing-sent (ToKept s k) j ns)

pub none-left : (T : LiveTarget) → left_over {A = ModelItem} T [] ≡ []
none-left LiveOut = refl
none-left (LiveToNode s) = refl
none-left (ToKept s k) = refl

pub gives-same : (g : View) (i : ℕ) (n : Node) (f : Node → Node) (o : List (Entry ModelItem)) (T : LiveTarget)
    → slice_get g.nodes i ≡ Some n → shape_of (f n) ≡ shape_of n → Sends (map shape_of g.nodes) n.goes T
    → seen_node (f n) ≡ seen_node n → erased o ≡ [] → running (gives i f n.goes o g) ≡ running g
gives-same g i n f o T e same sends seen_same none =
    let shapes : map shape_of (at_node i f g).nodes ≡ map shape_of g.nodes = same-shapes g i n f e same in
    let sends' : Sends (map shape_of (at_node i f g).nodes) n.goes T = subst (λ (ss : List Shape). Sends ss n.goes T) (sym shapes) sends in
    let nodes : map seen (at_node i f g).nodes ≡ map seen g.nodes =
    unseen-change seen f g.nodes i (λ m h. let P : Node → Type 0 = λ x. seen (f x) ≡ seen x in
    subst P (sym (same-there g.nodes i n m e h))
    (ap₂ (λ (s : List LiveStep) (l : LiveN). let r : Flat ModelItem S = record { steps = s; node = l } in r) (ap (λ (x : Shape). x.steps) same) seen_same)) in
    send-running n.goes T o (at_node i f g) sends'
    ∙ ap₂ (λ (w : List (LiveEntry ModelItem)) (ns : List (Flat ModelItem S)). after_send g T (index_of n.goes) w ns) none nodes
    ∙ ap₂ (λ (ns : List (Flat ModelItem S)) (r : List (LiveEntry ModelItem)). record (running g) { live = look (base Passing (tree_of g)) ns; ready = r })
    (nothing-sent T (index_of n.goes) (map seen g.nodes)) (ap (λ (w : List (LiveEntry ModelItem)). erased g.ready ++ w) (none-left T) ∙ append-nil (erased g.ready))

-- a node that changes and sends nothing
pub stays-move : (g : View) (i : ℕ) (n : Node) (f : Node → Node) (u : Network)
    → DistinctSteps (map shape_of g.nodes) → slice_get g.nodes i ≡ Some n → shape_of (f n) ≡ shape_of n
    → at_steps (tree_of g) (map step_of n.steps) ≡ Some u → Sends (map shape_of g.nodes) n.goes ((part (tree_of g)).target (map step_of n.steps))
    → (part u).moves (subs (map step_of n.steps) (live_of g)) [] (change [] (λ m. seen_node (f n)) (subs (map step_of n.steps) (live_of g)))
    → Move (part (tree_of g)) (running g) (running (at_node i f g))
stays-move g i n f u d e same is sends m =
    let T : LiveTarget = (part (tree_of g)).target (map step_of n.steps) in
    let one : map seen (at_node i f g).nodes ≡ at_index i (λ m. seen_node (f n)) (map seen g.nodes) = seen-one g i n f e same in
    let at : IsAt (at_index i (λ m. seen_node (f n)) (map seen g.nodes)) (index_of n.goes) T =
    subst (λ (ns : List (Flat ModelItem S)). IsAt ns (index_of n.goes) T) one
    (is-there (at_node i f g).nodes n.goes T (subst (λ (ss : List Shape). Sends ss n.goes T) (sym (same-shapes g i n f e same)) sends)) in
    let L : List (Flat ModelItem S) → Live ModelItem S = λ ns. look (base Passing (tree_of g)) ns in
    let P : Live ModelItem S → Type 0 = λ l. (part (tree_of g)).moves (live_of g) (left_over T []) l in
    Moves (left_over T []) refl
    (subst P (ap L (nothing-sent T (index_of n.goes) (at_index i (λ m. seen_node (f n)) (map seen g.nodes)) ∙ sym one))
    (flat-move (tree_of g) (base Passing (tree_of g)) (map seen g.nodes) i (seen n) u (λ m. seen_node (f n)) [] (index_of n.goes)
    (are-distinct g.nodes d) (node-there g.nodes i n e) is at m))
    (sym (ap (λ (w : List (LiveEntry ModelItem)). erased g.ready ++ w) (none-left T) ∙ append-nil (erased g.ready))) refl

pub stays-same : (g : View) (i : ℕ) (n : Node) (f : Node → Node) → slice_get g.nodes i ≡ Some n → shape_of (f n) ≡ shape_of n
    → seen_node (f n) ≡ seen_node n → running (at_node i f g) ≡ running g
stays-same g i n f e same seen_same =
    ap (λ (ns : List (Flat ModelItem S)). record (running g) { live = look (base Passing (tree_of g)) ns })
    (unseen-change seen f g.nodes i (λ m h. let P : Node → Type 0 = λ x. seen (f x) ≡ seen x in
    subst P (sym (same-there g.nodes i n m e h))
    (ap₂ (λ (s : List LiveStep) (l : LiveN). let r : Flat ModelItem S = record { steps = s; node = l } in r) (ap (λ (x : Shape). x.steps) same) seen_same)))

-- what was sent leaves the nodes as they stand, and the run
pub send-shapes : (goes : Target) (o : List (Entry ModelItem)) (g : View) → map shape_of (send goes o g).nodes ≡ map shape_of g.nodes
send-shapes Out o g = refl
send-shapes (ToNode j) o g = unseen-change shape_of (waits_more (plain o)) g.nodes j (λ n e. refl)
send-shapes (ToChild j c) o g =
    unseen-change shape_of (child_gives c o) g.nodes j
    (λ n e. ap (λ (ds : List Door). record (shape_of n) { doors = ds }) (unseen-change door_of (keeps_more o) n.children c (λ x h. refl)))

pub send-run : (goes : Target) (o : List (Entry ModelItem)) (g : View) → (send goes o g).run ≡ g.run
send-run Out o g = refl
send-run (ToNode j) o g = refl
send-run (ToChild j c) o g = refl

module _ (g : View) (i : ℕ) (n : Node) (f : Node → Node) (there : slice_get g.nodes i ≡ Some n) (same : shape_of (f n) ≡ shape_of n) where
  gives-shapes : (o : List (Entry ModelItem)) → map shape_of (gives i f n.goes o g).nodes ≡ map shape_of g.nodes
  gives-shapes o = send-shapes n.goes o (at_node i f g) ∙ same-shapes g i n f there same

  module _ (u : Network) (d : DistinctSteps (map shape_of g.nodes)) (is : at_steps (tree_of g) (map step_of n.steps) ≡ Some u)
      (sends : Sends (map shape_of g.nodes) n.goes ((part (tree_of g)).target (map step_of n.steps))) where
    abbrev place : Live ModelItem S
    place = subs (map step_of n.steps) (live_of g)

    pub gives-follows : (o : List (Entry ModelItem)) → (part u).moves place (erased o) (change [] (λ m. seen_node (f n)) place) → Follows g (gives i f n.goes o g)
    gives-follows o m = record { moves = inr (gives-move g i n f o u d there same is sends m); shapes = gives-shapes o; run = send-run n.goes o (at_node i f g) }

    pub stays-follows : (part u).moves place [] (change [] (λ m. seen_node (f n)) place) → Follows g (at_node i f g)
    stays-follows m = record { moves = inr (stays-move g i n f u d there same is sends m); shapes = same-shapes g i n f there same; run = refl }

  pub gives-unseen : (o : List (Entry ModelItem)) (T : LiveTarget) → Sends (map shape_of g.nodes) n.goes T → seen_node (f n) ≡ seen_node n → erased o ≡ [] → Follows g (gives i f n.goes o g)
  gives-unseen o T sends seen_same none = record { moves = inl (gives-same g i n f o T there same sends seen_same none); shapes = gives-shapes o; run = send-run n.goes o (at_node i f g) }

  pub stays-unseen : seen_node (f n) ≡ seen_node n → Follows g (at_node i f g)
  stays-unseen seen_same = record { moves = inl (stays-same g i n f there same seen_same); shapes = same-shapes g i n f there same; run = refl }
