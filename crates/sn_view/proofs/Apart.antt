-- Nodes send to others, the children of a node begin at nodes of their own, and these are there.
use Rattle.std.proofs.Common.{◌≡◌, ℕ, zero, suc, ◌<◌, IsTrue, List, [], ◌∷◌, ◌++◌, map, length, Some, refl, sym, ap, ◌∙◌, subst}
use Rattle.std.proofs.Math.ListN.{length-map}
use Rattle.std.proofs.lemmas.Option.{slice_get_within}
use Rattle.std.specs.Prelude.{slice_get}
use Rattle.sn_streams.specs.Forks.{Free, Deterministic}
use Rattle.sn_streams.specs.Keys.{Key, AreDistinct, is_among}
use Rattle.sn_streams.specs.Keys as key
use Rattle.sn_streams.specs.Trees.{Tree, Component, Series, Fork}
use Rattle.sn_net.specs.Dispatchers.{Network}
use Rattle.sn_live.specs.Live.{Step as LiveStep, Left, Right, At, Target as LiveTarget, Out as LiveOut, ToNode as LiveToNode, ToKept}
use Rattle.sn_live.specs.Flat.{at_steps}
use Rattle.sn_live.specs.Parts.{part, feeds}
use Rattle.sn_view.specs.View.{State, Alone, Cell, InTurn, Freely, Child, Target, ToNode, ToChild, Node, View}
use Rattle.sn_view.specs.Next.{is_fork}
use Rattle.sn_view.specs.Seen.{step_of, tree_of}
use Rattle.sn_view.specs.Placed.{Door, door_of, HasKey, HasSteps, IsFork, Sends, Shape, Stands, WellPlaced, kind_of, shape_of}
use Rattle.sn_view.specs.Apart.{HasChild, HasOwnFirst}
use Rattle.sn_view.proofs.Children.{key-among, keys_of, keys-of-doors}
use Rattle.sn_view.proofs.Events.{never, stands-at}
use Rattle.sn_view.proofs.Lists.{there-map, there-unmap}
use Rattle.sn_view.proofs.Shaping.{cancel}

-- a target is not at these steps
abbrev Elsewhere : LiveTarget → List LiveStep → Type 0
Elsewhere LiveOut q = Unit {0}
Elsewhere (LiveToNode s) q = s ≡ q → ⊥
Elsewhere (ToKept s k) q = s ≡ q → ⊥

other-side : (s q : List LiveStep) → Right ∷ s ≡ Left ∷ q → ⊥
other-side s q e = cc

none-some : (x : LiveStep) (q : List LiveStep) → [] ≡ x ∷ q → ⊥
none-some x q e = cc

same-rest : (x : LiveStep) (s q : List LiveStep) → x ∷ s ≡ x ∷ q → s ≡ q
same-rest x s q e = cc

feeds-elsewhere : (next : LiveTarget) (x : LiveStep) (t : LiveTarget) (q : List LiveStep) → Elsewhere next (x ∷ q) → Elsewhere t q → Elsewhere (feeds next x t) (x ∷ q)
feeds-elsewhere next x LiveOut q h k = h
feeds-elsewhere next x (LiveToNode s) q h k = λ e. k (same-rest x s q e)
feeds-elsewhere next x (ToKept s j) q h k = λ e. k (same-rest x s q e)

-- no part sends to itself
target-elsewhere : {A S : Type 0} (t : Tree A S) (q : List LiveStep) → Elsewhere ((part t).target q) q
target-elsewhere (Component m s) q = tt
target-elsewhere (Series a b) [] = tt
target-elsewhere (Series a b) (Left ∷ q) = feeds-elsewhere (LiveToNode (Right ∷ (part b).entry)) Left ((part a).target q) q (other-side (part b).entry q) (target-elsewhere a q)
target-elsewhere (Series a b) (Right ∷ q) = feeds-elsewhere LiveOut Right ((part b).target q) q tt (target-elsewhere b q)
target-elsewhere (Series a b) (At k ∷ q) = tt
target-elsewhere (Fork Free r child) [] = tt
target-elsewhere (Fork Free r child) (At k ∷ q) = feeds-elsewhere (ToKept [] k) (At k) ((part (child k)).target q) q (none-some (At k) q) (target-elsewhere (child k) q)
target-elsewhere (Fork Free r child) (Left ∷ q) = tt
target-elsewhere (Fork Free r child) (Right ∷ q) = tt
target-elsewhere (Fork Deterministic r child) [] = tt
target-elsewhere (Fork Deterministic r child) (At k ∷ q) = feeds-elsewhere (ToKept [] k) (At k) ((part (child k)).target q) q (none-some (At k) q) (target-elsewhere (child k) q)
target-elsewhere (Fork Deterministic r child) (Left ∷ q) = tt
target-elsewhere (Fork Deterministic r child) (Right ∷ q) = tt

-- more steps are others
longer : (s : List LiveStep) (x : LiveStep) (t : List LiveStep) → s ++ x ∷ t ≡ s → ⊥
longer [] x t e = none-some x t (sym e)
longer (y ∷ s) x t e = longer s x t (same-rest y (s ++ x ∷ t) s e)

same-key-step : (j k : Key) (s t : List LiveStep) → At j ∷ s ≡ At k ∷ t → j ≡ k
same-key-step j k s t e = cc

-- children of one key are one child
one-place : (cs : List Child) (c d : ℕ) (a b : Child) → AreDistinct (keys_of cs) → slice_get cs c ≡ Some a → slice_get cs d ≡ Some b → a.key ≡ b.key → c ≡ d
one-place [] c d a b h e u k = cc
one-place (x ∷ cs) zero zero a b h e u k = refl
one-place (x ∷ cs) zero (suc d) a b (new, h) e u k =
    let same : x ≡ a = cc in
    never (sym new ∙ ap (λ (j : Key). is_among j (keys_of cs)) (ap (λ (y : Child). y.key) same ∙ k) ∙ key-among cs d b u)
one-place (x ∷ cs) (suc c) zero a b (new, h) e u k =
    let same : x ≡ b = cc in
    never (sym new ∙ ap (λ (j : Key). is_among j (keys_of cs)) (ap (λ (y : Child). y.key) same ∙ sym k) ∙ key-among cs c a e)
one-place (x ∷ cs) (suc c) (suc d) a b (new, h) e u k = ap suc (one-place cs c d a b h e u k)

module _ (shapes : List Shape) where
  one-node : (i : ℕ) (m : Shape) (s : List LiveStep) → slice_get shapes i ≡ Some m → HasSteps shapes i s → s ≡ m.steps
  one-node i m s e (x, u, h) = let same : x ≡ m = (let v : Some x ≡ Some m = sym u ∙ e in cc) in sym h ∙ ap (λ (y : Shape). y.steps) same

  module _ (i : ℕ) (m : Shape) (there : slice_get shapes i ≡ Some m) where
    not-to-node : (target : LiveTarget) → Elsewhere target m.steps → Sends shapes (ToNode i) target → ⊥
    not-to-node LiveOut h s = s
    not-to-node (LiveToNode q) h s = h (one-node i m q there s)
    not-to-node (ToKept q k) h s = s

    not-to-child : (c : ℕ) (target : LiveTarget) → Elsewhere target m.steps → Sends shapes (ToChild i c) target → ⊥
    not-to-child zero LiveOut h s = s
    not-to-child zero (LiveToNode q) h s = s
    not-to-child zero (ToKept q k) h s = s
    not-to-child (suc c) LiveOut h s = s
    not-to-child (suc c) (LiveToNode q) h s = s
    not-to-child (suc c) (ToKept q k) h s = h (one-node i m q there (s.0, s.1, s.2))

module _ (g : View) (placed : WellPlaced g) (i : ℕ) (n : Node) (there : slice_get g.nodes i ≡ Some n) where
  abbrev shapes : List Shape
  shapes = map shape_of g.nodes

  abbrev steps : List LiveStep
  steps = map step_of n.steps

  stands : Stands (tree_of g) g.run shapes (shape_of n)
  stands = stands-at g placed i n there

  sends-to : (goes : Target) → n.goes ≡ goes → Sends shapes goes ((part (tree_of g)).target steps)
  sends-to goes e = subst (λ (t : Target). Sends shapes t ((part (tree_of g)).target steps)) e stands.sends

  pub not-to-itself : (n.goes ≡ ToNode i) → ⊥
  not-to-itself e = not-to-node shapes i (shape_of n) (there-map shape_of g.nodes i n there) ((part (tree_of g)).target steps) (target-elsewhere (tree_of g) steps) (sends-to (ToNode i) e)

  pub not-to-its-child : (c : ℕ) → (n.goes ≡ ToChild i c) → ⊥
  not-to-its-child c e =
      not-to-child shapes i (shape_of n) (there-map shape_of g.nodes i n there) c ((part (tree_of g)).target steps) (target-elsewhere (tree_of g) steps) (sends-to (ToChild i c) e)

  abbrev below : Key → Network → List LiveStep
  below k child = steps ++ At k ∷ (part child).entry

  door : (c : ℕ) (child : Child) → slice_get n.children (suc c) ≡ Some child
      → (t : Network) × (at_steps (tree_of g) (steps ++ At child.key ∷ []) ≡ Some t) × HasSteps shapes child.entry (below child.key t)
  door c child e = stands.doors c (door_of child) (there-map door_of n.children (suc c) child e)

  pub not-at-itself : (c : ℕ) (child : Child) → slice_get n.children (suc c) ≡ Some child → (child.entry ≡ i) → ⊥
  not-at-itself c child e h =
      let d = door c child e in
      longer steps (At child.key) (part d.0).entry
      (one-node shapes i (shape_of n) (below child.key d.0) (there-map shape_of g.nodes i n there) (subst (λ (j : ℕ). HasSteps shapes j (below child.key d.0)) h d.2))

  pub distinct-doors : (c d : ℕ) (a b : Child) → slice_get n.children (suc c) ≡ Some a → slice_get n.children (suc d) ≡ Some b → a.entry ≡ b.entry → c ≡ d
  distinct-doors c d a b e u same =
      let x = door c a e in
      let y = door d b u in
      let at : below a.key x.0 ≡ below b.key y.0 = one-node shapes b.entry y.2.0 (below a.key x.0) y.2.1 (subst (λ (j : ℕ). HasSteps shapes j (below a.key x.0)) same x.2) ∙ y.2.2 in
      let keys : a.key ≡ b.key = same-key-step a.key b.key (part x.0).entry (part y.0).entry (cancel steps (At a.key ∷ (part x.0).entry) (At b.key ∷ (part y.0).entry) at) in
      let place : suc c ≡ suc d = one-place n.children (suc c) (suc d) a b (subst AreDistinct (keys-of-doors n.children) stands.keys) e u keys in
      let v : c ≡ d = cc in v

-- CHILDREN AND TARGETS ARE THERE
fork-kind : (st : State) → IsTrue (is_fork st) → IsFork (kind_of st)
fork-kind Alone h = never h
fork-kind (Cell patterns cell) h = never h
fork-kind (InTurn ds) h = tt
fork-kind (Freely e) h = tt

child-there : (cs : List Child) (c : ℕ) (k : Key) → HasKey (map door_of cs) c k → (child : Child) × (slice_get cs c ≡ Some child) × (child.key ≡ k)
child-there cs c k (d, e, h) =
    let u : (child : Child) × (slice_get cs c ≡ Some child) × (door_of child ≡ d) = there-unmap door_of cs c d e in
    (u.0, u.1, ap (λ (x : Door). x.key) u.2 ∙ h)

module _ (g : View) (placed : WellPlaced g) where
  is-node : (j : ℕ) (s : List LiveStep) → HasSteps (map shape_of g.nodes) j s → j < length g.nodes
  is-node j s (m, e, h) = subst (λ (l : ℕ). j < l) (length-map g.nodes shape_of) (slice_get_within (map shape_of g.nodes) j m e)

  to-node : (j : ℕ) (target : LiveTarget) → Sends (map shape_of g.nodes) (ToNode j) target → j < length g.nodes
  to-node j LiveOut s = absurd s
  to-node j (LiveToNode q) s = is-node j q s
  to-node j (ToKept q k) s = absurd s

  to-child : (j c : ℕ) (target : LiveTarget) → Sends (map shape_of g.nodes) (ToChild j c) target → HasChild g j c
  to-child j zero LiveOut s = absurd s
  to-child j zero (LiveToNode q) s = absurd s
  to-child j zero (ToKept q k) s = absurd s
  to-child j (suc c) LiveOut s = absurd s
  to-child j (suc c) (LiveToNode q) s = absurd s
  to-child j (suc c) (ToKept q k) s =
      let u : (m : Node) × (slice_get g.nodes j ≡ Some m) × (shape_of m ≡ s.0) = there-unmap shape_of g.nodes j s.0 s.1 in
      let v : (child : Child) × (slice_get u.0.children (suc c) ≡ Some child) × (child.key ≡ k) =
      child-there u.0.children (suc c) k (subst (λ (x : Shape). HasKey x.doors (suc c) k) (sym u.2) s.3) in
      record { node = u.0; there = u.1; child = v.0; is_child = v.1 }

  not-aside : (j : ℕ) (target : LiveTarget) → Sends (map shape_of g.nodes) (ToChild j 0) target → ⊥
  not-aside j LiveOut s = s
  not-aside j (LiveToNode q) s = s
  not-aside j (ToKept q k) s = s

  module _ (i : ℕ) (n : Node) (there : slice_get g.nodes i ≡ Some n) where
    pub own-first : IsTrue (is_fork n.state) → HasOwnFirst n.children
    own-first fork = child-there n.children 0 key.Own ((stands-at g placed i n there).own_first (fork-kind n.state fork))

    pub entry-there : (c : ℕ) (child : Child) → slice_get n.children (suc c) ≡ Some child → child.entry < length g.nodes
    entry-there c child e = let d = door g placed i n there c child e in is-node child.entry (below g placed i n there child.key d.0) d.2

    pub target-node : (j : ℕ) → n.goes ≡ ToNode j → j < length g.nodes
    target-node j e = to-node j ((part (tree_of g)).target (map step_of n.steps)) (sends-to g placed i n there (ToNode j) e)

    pub target-child : (j c : ℕ) → n.goes ≡ ToChild j c → HasChild g j c
    target-child j c e = to-child j c ((part (tree_of g)).target (map step_of n.steps)) (sends-to g placed i n there (ToChild j c) e)

    pub target-beside : (j : ℕ) → (n.goes ≡ ToChild j 0) → ⊥
    target-beside j e = not-aside j ((part (tree_of g)).target (map step_of n.steps)) (sends-to g placed i n there (ToChild j 0) e)
