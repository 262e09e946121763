-- Unfold keeps the nodes well placed.
use Rattle.std.proofs.Common.{◌≡◌, ℕ, zero, suc, ◌+◌, nat_lt, Bool, true, false, cond, List, [], ◌∷◌, ◌++◌, map, length, Option, Some, refl, sym, ap, ap₂, ◌∙◌, subst, subst₂, arith, length-append, ◌⊎◌, inl, inr}
use Rattle.std.proofs.lemmas.List.{map-append}
use Rattle.std.specs.Prelude.{slice_get}
use Rattle.sn_streams.specs.Forks.{Merge as StreamMerge, Free, Deterministic}
use Rattle.sn_streams.specs.Keys.{Key, key_eq, is_among, AreDistinct}
use Rattle.sn_streams.specs.Keys as key
use Rattle.sn_streams.proofs.Keys.{key_eq-refl, same_key}
use Rattle.sn_net.specs.declared.net.Net.{Net}
use Rattle.sn_net.specs.declared.net.Net.TheOpen.{Net-F}
use Rattle.sn_net.specs.Dispatchers.{Network, merge_of}
use Rattle.sn_model.specs.declared.run.Run.{Run}
use Rattle.sn_view.specs.View.{State, Alone, Cell, InTurn, Freely, Target, Out, ToNode, ToChild, Node, View, changed_at}
use Rattle.sn_view.specs.Next.{adds_child, with_epoch}
use Rattle.sn_live.specs.Live.{Step as LiveStep, At, Target as LiveTarget, Out as LiveOut, ToNode as LiveToNode, ToKept}
use Rattle.sn_live.specs.Parts.{part}
use Rattle.sn_live.specs.Flat.{steps_eq, at_steps}
use Rattle.sn_live.proofs.Arena.{steps_eq-true, steps_eq-refl}
use Rattle.sn_view.specs.Seen.{step_of, tree_of}
use Rattle.sn_view.specs.Placed.{IsAlone, IsCell, IsInTurn, IsFreely, kind_of, fork_kind, IsFork, HasKind, Shape, shape_of, Door, door_of, HasSteps, HasKey, HasBranches, Sends, Stands, NoneAt, DistinctSteps, RootAt, ArePlaced, WellPlaced}
use Rattle.sn_view.proofs.Lists.{there-map, there-unmap, there-changed}
use Rattle.sn_view.proofs.Children.{keys_of, keys-of-doors}
use Rattle.sn_view.proofs.Shaping.{HasRoot, left-there, right-there, split-there, distinct-append}
use Rattle.sn_view.proofs.Unfolds.{one_more}

-- one node is changed: what stands in the list then, and before
module _ (f : Node → Node) (n : Node) where
  then-there : (ns : List Node) (i j : ℕ) (m : Shape) → slice_get ns i ≡ Some n → slice_get (map shape_of ns) j ≡ Some m
      → (slice_get (map shape_of (changed_at i f ns)) j ≡ Some m) ⊎ ((m ≡ shape_of n) × (slice_get (map shape_of (changed_at i f ns)) j ≡ Some (shape_of (f n))))
  then-there [] i j m e h = cc
  then-there (x ∷ ns) zero zero m e h = let u : x ≡ n = cc in inr ((let v : shape_of x ≡ m = cc in sym v ∙ ap shape_of u), ap (λ (y : Node). let o : Option Shape = Some (shape_of (f y)) in o) u)
  then-there (x ∷ ns) zero (suc j) m e h = inl h
  then-there (x ∷ ns) (suc i) zero m e h = inl h
  then-there (x ∷ ns) (suc i) (suc j) m e h = then-there ns i j m e h

  before-there : (ns : List Node) (i j : ℕ) (m : Shape) → slice_get ns i ≡ Some n → slice_get (map shape_of (changed_at i f ns)) j ≡ Some m
      → (slice_get (map shape_of ns) j ≡ Some m) ⊎ (m ≡ shape_of (f n))
  before-there [] i j m e h = cc
  before-there (x ∷ ns) zero zero m e h = let u : x ≡ n = cc in inr (let v : shape_of (f x) ≡ m = cc in sym v ∙ ap (λ (y : Node). shape_of (f y)) u)
  before-there (x ∷ ns) zero (suc j) m e h = inl h
  before-there (x ∷ ns) (suc i) zero m e h = inl h
  before-there (x ∷ ns) (suc i) (suc j) m e h = before-there ns i j m e h

  same-distinct : ((x : Node) → (f x).steps ≡ x.steps) → (ns : List Node) (i : ℕ) → DistinctSteps (map shape_of ns) → DistinctSteps (map shape_of (changed_at i f ns))
  same-distinct same [] i d = tt
  same-distinct same (x ∷ ns) zero (a, d) = (subst (λ (s : List LiveStep). NoneAt s (map shape_of ns)) (sym (ap (map step_of) (same x))) a, d)
  same-distinct same (x ∷ ns) (suc i) (a, d) = (none ns i a, same-distinct same ns i d)
    where
      none : (ns : List Node) (i : ℕ) → NoneAt (map step_of x.steps) (map shape_of ns) → NoneAt (map step_of x.steps) (map shape_of (changed_at i f ns))
      none [] i h = h
      none (y ∷ ns) zero (h, t) = (ap (λ (s : List _). steps_eq (map step_of x.steps) (map step_of s)) (same y) ∙ h, t)
      none (y ∷ ns) (suc i) (h, t) = (h, none ns i t)

-- a key that is put behind distinct ones
pub distinct-more : (ks : List Key) (k : Key) → AreDistinct ks → is_among k ks ≡ false → AreDistinct (ks ++ k ∷ [])
distinct-more [] k d h = (refl, tt)
distinct-more (j ∷ ks) k (n, d) h = (at (is_among j (ks ++ k ∷ [])) refl, distinct-more ks k d (later (key_eq k j) (is_among k ks) h))
  where
    later : (a b : Bool) → cond a true b ≡ false → b ≡ false
    later true b u = cc
    later false b u = u

    first : (a b : Bool) → cond a true b ≡ false → a ≡ false
    first true b u = cc
    first false b u = refl

    impossible : {X : Type 0} → true ≡ false → X
    impossible u = cc

    among : (ks : List Key) → is_among j ks ≡ false → is_among j (ks ++ k ∷ []) ≡ true → key_eq j k ≡ true
    among [] u v = on (key_eq j k) v
      where
        on : (b : Bool) → cond b true false ≡ true → b ≡ true
        on true w = refl
        on false w = w
    among (x ∷ ks) u v = on (key_eq j x) u v (among ks)
      where
        on : (b : Bool) → cond b true (is_among j ks) ≡ false → cond b true (is_among j (ks ++ k ∷ [])) ≡ true → (is_among j ks ≡ false → is_among j (ks ++ k ∷ []) ≡ true → key_eq j k ≡ true) → key_eq j k ≡ true
        on true a b c = impossible a
        on false a b c = c a b

    at : (b : Bool) → is_among j (ks ++ k ∷ []) ≡ b → b ≡ false
    at false u = refl
    at true u =
        let same : j ≡ k = same_key j k (among ks n u) in
        impossible (sym (key_eq-refl k) ∙ ap (λ (l : Key). key_eq k l) (sym same) ∙ first (key_eq k j) (is_among k ks) h)

-- two ways to read the steps of a node below another
pub compare : (r q s w : List LiveStep) (j k : Key) → r ++ At j ∷ q ≡ s ++ At k ∷ w
    → ((v : List LiveStep) × (s ≡ r ++ At j ∷ v)) ⊎ (((r ≡ s) × (j ≡ k)) ⊎ ((v : List LiveStep) × (r ≡ s ++ At k ∷ v) × (w ≡ v ++ At j ∷ q)))
compare [] q [] w j k e = inr (inl (refl, (let u : j ≡ k = cc in u)))
compare [] q (x ∷ s) w j k e = inl (s, (let u : x ≡ At j = cc in ap (λ (y : LiveStep). y ∷ s) u))
compare (y ∷ r) q [] w j k e = inr (inr (r, (let u : y ≡ At k = cc in ap (λ (x : LiveStep). x ∷ r) u), (let u : w ≡ r ++ At j ∷ q = cc in u)))
compare (y ∷ r) q (x ∷ s) w j k e =
    let u : y ≡ x = cc in
    elim (compare r q s w j k (let v : r ++ At j ∷ q ≡ s ++ At k ∷ w = cc in v)) [
      | inl a ↦ inl (a.0, ap₂ (λ (c : LiveStep) (d : List LiveStep). c ∷ d) (sym u) a.1)
      | inr b ↦ elim b [
        | inl c ↦ inr (inl (ap₂ (λ (v : LiveStep) (d : List LiveStep). v ∷ d) u c.0, c.1))
        | inr c ↦ inr (inr (c.0, ap₂ (λ (v : LiveStep) (d : List LiveStep). v ∷ d) u c.1, c.2))
      ]
    ]

among-left : (k : Key) (a b : List Key) → is_among k a ≡ true → is_among k (a ++ b) ≡ true
among-left k [] b h = cc
among-left k (x ∷ a) b h = at (key_eq k x) h (among-left k a b)
  where
    at : (c : Bool) → cond c true (is_among k a) ≡ true → (is_among k a ≡ true → is_among k (a ++ b) ≡ true) → cond c true (is_among k (a ++ b)) ≡ true
    at true u later = refl
    at false u later = later u

among-last : (k : Key) (a : List Key) → is_among k (a ++ k ∷ []) ≡ true
among-last k [] = ap (λ b. cond b true false) (key_eq-refl k)
among-last k (x ∷ a) = at (key_eq k x) (among-last k a)
  where
    at : (c : Bool) → is_among k (a ++ k ∷ []) ≡ true → cond c true (is_among k (a ++ k ∷ [])) ≡ true
    at true h = refl
    at false h = h

-- The nodes of a new child, of the dispatcher at these steps: as the whole list has them.
pub record MadeWell (t : Network) (run : Run) (all : List Shape) (pre : List LiveStep) (k : Key) (child : Network) (base : ℕ) (new : List Node) : Type 0 where
  pub first : HasSteps all base (pre ++ At k ∷ (part child).entry)
  pub distinct : DistinctSteps (map shape_of new)
  pub under : (j : ℕ) (m : Node) → slice_get new j ≡ Some m → (q : List LiveStep) × (map step_of m.steps ≡ pre ++ At k ∷ q)
  pub rooted : (j : ℕ) (m : Node) (r q : List LiveStep) (l : Key) → slice_get new j ≡ Some m → map step_of m.steps ≡ pre ++ At k ∷ (r ++ At l ∷ q) → HasRoot new (pre ++ At k ∷ r) l
  pub stand : (j : ℕ) (m : Node) → slice_get new j ≡ Some m → Stands t run all (shape_of m)

module _ (g : View) (placed : WellPlaced g) (i : ℕ) (n : Node) (k : Key) (new : List Node) (there : slice_get g.nodes i ≡ Some n) (fork : IsFork (kind_of n.state))
    (none : is_among k (keys_of n.children) ≡ false) where
  abbrev len : ℕ
  len = length g.nodes

  abbrev pub f : Node → Node
  f = adds_child k len

  abbrev old : List Shape
  old = map shape_of g.nodes

  abbrev now : List Shape
  now = map shape_of (changed_at i f g.nodes)

  abbrev pub all : List Shape
  all = map shape_of (changed_at i f g.nodes ++ new)

  all-is : all ≡ now ++ map shape_of new
  all-is = map-append shape_of (changed_at i f g.nodes) new

  abbrev pre : List LiveStep
  pre = map step_of n.steps

  stands : Stands (tree_of g) g.run old (shape_of n)
  stands = placed.all i (shape_of n) (there-map shape_of g.nodes i n there)

  doors-more : (shape_of (f n)).doors ≡ (shape_of n).doors ++ record { key = k; entry = len } ∷ []
  doors-more = map-append door_of n.children (one_more k len ∷ [])

  door-keys : (ds : List Door) (d : Door) → map (λ (x : Door). x.key) (ds ++ d ∷ []) ≡ map (λ (x : Door). x.key) ds ++ d.key ∷ []
  door-keys ds d = map-append (λ (x : Door). x.key) ds (d ∷ [])

  keys-more : AreDistinct (map (λ (x : Door). x.key) (shape_of (f n)).doors)
  keys-more =
      subst (λ (ks : List Key). AreDistinct ks) (sym (ap (map (λ (x : Door). x.key)) doors-more ∙ door-keys (shape_of n).doors (record { key = k; entry = len })))
      (distinct-more (map (λ (x : Door). x.key) (shape_of n).doors) k stands.keys (ap (is_among k) (keys-of-doors n.children) ∙ none))

  in-all : (j : ℕ) (m : Shape) → slice_get now j ≡ Some m → slice_get all j ≡ Some m
  in-all j m h = ap (λ (ms : List Shape). slice_get ms j) all-is ∙ left-there now (map shape_of new) j m h

  -- an old node, as it stands now
  record Still (j : ℕ) (m : Shape) : Type 0 where
    shape : Shape
    at : slice_get all j ≡ Some shape
    steps : shape.steps ≡ m.steps
    doors : (c : ℕ) (d : Door) → slice_get m.doors c ≡ Some d → slice_get shape.doors c ≡ Some d
    keys : AreDistinct (map (λ (d : Door). d.key) m.doors) → AreDistinct (map (λ (d : Door). d.key) shape.doors)
    among : (l : Key) → is_among l (map (λ (d : Door). d.key) m.doors) ≡ true → is_among l (map (λ (d : Door). d.key) shape.doors) ≡ true

  still : (j : ℕ) (m : Shape) → slice_get old j ≡ Some m → Still j m
  still j m h = elim (then-there f n g.nodes i j m there h) [
    | inl u ↦ record { shape = m; at = in-all j m u; steps = refl; doors = λ c d v. v; keys = λ a. a; among = λ l a. a }
    | inr u ↦ record {
      shape = shape_of (f n);
      at = in-all j (shape_of (f n)) u.1;
      steps = ap (λ (x : Shape). x.steps) (sym u.0);
      doors = λ c d v.
          ap (λ (ds : List Door). slice_get ds c) doors-more
          ∙ left-there (shape_of n).doors (record { key = k; entry = len } ∷ []) c d (ap (λ (x : Shape). slice_get x.doors c) (sym u.0) ∙ v);
      keys = λ a. keys-more;
      among = λ l a.
          ap (λ (ds : List Door). is_among l (map (λ (d : Door). d.key) ds)) doors-more
          ∙ ap (is_among l) (door-keys (shape_of n).doors (record { key = k; entry = len }))
          ∙ among-left l (map (λ (d : Door). d.key) (shape_of n).doors) (k ∷ []) (ap (λ (x : Shape). is_among l (map (λ (d : Door). d.key) x.doors)) (sym u.0) ∙ a);
    }
  ]

  steps-still : (j : ℕ) (s : List LiveStep) → HasSteps old j s → HasSteps all j s
  steps-still j s (m, h, e) = let u : Still j m = still j m h in (u.shape, u.at, u.steps ∙ e)

  sends-still : (goes : Target) (t : LiveTarget) → Sends old goes t → Sends all goes t
  sends-still Out LiveOut h = tt
  sends-still (ToNode j) (LiveToNode s) h = steps-still j s h
  sends-still (ToChild j (suc c)) (ToKept s l) (m, h, e, (d, dh, de), (o, oh, oe), ks) =
      let u : Still j m = still j m h in (u.shape, u.at, u.steps ∙ e, (d, u.doors (suc c) d dh, de), (o, u.doors 0 o oh, oe), u.keys ks)
  sends-still Out (LiveToNode s) h = absurd h
  sends-still Out (ToKept s l) h = absurd h
  sends-still (ToNode j) LiveOut h = absurd h
  sends-still (ToNode j) (ToKept s l) h = absurd h
  sends-still (ToChild j zero) LiveOut h = absurd h
  sends-still (ToChild j zero) (LiveToNode s) h = absurd h
  sends-still (ToChild j zero) (ToKept s l) h = absurd h
  sends-still (ToChild j (suc c)) LiveOut h = absurd h
  sends-still (ToChild j (suc c)) (LiveToNode s) h = absurd h

  root-still : (s : List LiveStep) (l : Key) → RootAt old s l → RootAt all s l
  root-still s l (j, m, h, e, a) = let u : Still j m = still j m h in (j, u.shape, u.at, u.steps ∙ e, u.among l a)

  old-stands : (m : Shape) → Stands (tree_of g) g.run old m → Stands (tree_of g) g.run all m
  old-stands m s = record {
    form = s.form;
    is_form = s.is_form;
    fits = s.fits;
    has_kind = s.has_kind;
    sends = sends-still m.goes ((part (tree_of g)).target m.steps) s.sends;
    keys = s.keys;
    doors = λ c d h. let u : (v : Network) × (at_steps (tree_of g) (m.steps ++ At d.key ∷ []) ≡ Some v) × HasSteps old d.entry (m.steps ++ At d.key ∷ (part v).entry) = s.doors c d h in
        (u.0, u.1, steps-still d.entry (m.steps ++ At d.key ∷ (part u.0).entry) u.2);
    whole = s.whole;
    own_first = s.own_first;
  }

  -- a choice still has a child for each branch
  form-whole : (form : Net-F Net) → HasBranches form (map (λ (d : Door). d.key) (shape_of n).doors) → HasBranches form (map (λ (d : Door). d.key) (shape_of (f n)).doors)
  form-whole (Net-F.Box place number) h = tt
  form-whole (Net-F.Filter filter) h = tt
  form-whole (Net-F.Sync place patterns) h = tt
  form-whole (Net-F.Serial l r) h = tt
  form-whole (Net-F.Choice place m branches faces) h = λ c branch e.
      ap (λ (ds : List Door). is_among (key.Branch c) (map (λ (d : Door). d.key) ds)) doors-more
      ∙ ap (is_among (key.Branch c)) (door-keys (shape_of n).doors (record { key = k; entry = len }))
      ∙ among-left (key.Branch c) (map (λ (d : Door). d.key) (shape_of n).doors) (k ∷ []) (h c branch e)
  form-whole (Net-F.Star place m body exit guard) h = tt
  form-whole (Net-F.Split place m body id) h = tt

  -- the dispatcher's kind, with one child more
  kind-more : (mk : StreamMerge) (st : State) → kind_of st ≡ fork_kind mk (length (shape_of n).doors) → kind_of (with_epoch st) ≡ fork_kind mk (length (shape_of (f n)).doors)
  kind-more mk Alone h = at mk h
    where
      at : (mk : StreamMerge) → IsAlone ≡ fork_kind mk (length (shape_of n).doors) → IsAlone ≡ fork_kind mk (length (shape_of (f n)).doors)
      at Free u = cc
      at Deterministic u = cc
  kind-more mk (Cell patterns c) h = at mk h
    where
      at : (mk : StreamMerge) → IsCell patterns ≡ fork_kind mk (length (shape_of n).doors) → IsCell patterns ≡ fork_kind mk (length (shape_of (f n)).doors)
      at Free u = cc
      at Deterministic u = cc
  kind-more mk (InTurn ds) h = at mk h
    where
      at : (mk : StreamMerge) → IsInTurn ≡ fork_kind mk (length (shape_of n).doors) → IsInTurn ≡ fork_kind mk (length (shape_of (f n)).doors)
      at Free u = cc
      at Deterministic u = refl
  kind-more mk (Freely e) h = at mk h
    where
      count : length e.children ≡ length (shape_of n).doors → length (e.children ++ e.input ∷ []) ≡ length (shape_of (f n)).doors
      count u =
          let a : length (e.children ++ e.input ∷ []) ≡ length e.children + 1 = length-append e.children (e.input ∷ []) in
          let b : length ((shape_of n).doors ++ record { key = k; entry = len } ∷ []) ≡ length (shape_of n).doors + 1 = length-append (shape_of n).doors (record { key = k; entry = len } ∷ []) in
          let c : length (shape_of (f n)).doors ≡ length ((shape_of n).doors ++ record { key = k; entry = len } ∷ []) = ap length doors-more in
          omega (arith, a, b, c, u)

      at : (mk : StreamMerge) → IsFreely (length e.children) (nat_lt e.input e.output) ≡ fork_kind mk (length (shape_of n).doors) → IsFreely (length (e.children ++ e.input ∷ [])) (nat_lt e.input e.output) ≡ fork_kind mk (length (shape_of (f n)).doors)
      at Free u =
          let a : length e.children ≡ length (shape_of n).doors = cc in
          let b : nat_lt e.input e.output ≡ false = cc in
          ap₂ (λ (c : ℕ) (v : Bool). IsFreely c v) (count a) b
      at Deterministic u = cc

  form-kind : (form : Net-F Net) → HasKind form (length (shape_of n).doors) (kind_of n.state) → HasKind form (length (shape_of (f n)).doors) (kind_of (with_epoch n.state))
  form-kind (Net-F.Box place number) h = absurd (subst IsFork h fork)
  form-kind (Net-F.Filter filter) h = absurd (subst IsFork h fork)
  form-kind (Net-F.Sync place patterns) h = absurd (subst IsFork h fork)
  form-kind (Net-F.Serial l r) h = absurd h
  form-kind (Net-F.Choice place m branches faces) h = kind-more (merge_of m) n.state h
  form-kind (Net-F.Star place m body exit guard) h = kind-more (merge_of m) n.state h
  form-kind (Net-F.Split place m body id) h = kind-more (merge_of m) n.state h

  module _ (child : Network) (at_child : at_steps (tree_of g) (pre ++ At k ∷ []) ≡ Some child) (well : MadeWell (tree_of g) g.run all pre k child len new)
      (absent : (j : ℕ) (m : Node) (q : List LiveStep) → slice_get g.nodes j ≡ Some m → steps_eq (pre ++ At k ∷ q) (map step_of m.steps) ≡ false) where
    node-stands : Stands (tree_of g) g.run all (shape_of (f n))
    node-stands = record {
      form = stands.form;
      is_form = stands.is_form;
      fits = stands.fits;
      has_kind = form-kind stands.form stands.has_kind;
      sends = sends-still n.goes ((part (tree_of g)).target pre) stands.sends;
      keys = keys-more;
      doors = λ c d h. at c d (split-there (shape_of n).doors (record { key = k; entry = len } ∷ []) (suc c) d (ap (λ (ds : List Door). slice_get ds (suc c)) (sym doors-more) ∙ h));
      whole = form-whole stands.form stands.whole;
      own_first = λ u. let o : HasKey (shape_of n).doors 0 key.Own = stands.own_first fork in
          (o.0, ap (λ (ds : List Door). slice_get ds 0) doors-more ∙ left-there (shape_of n).doors (record { key = k; entry = len } ∷ []) 0 o.0 o.1, o.2);
    }
      where
        last : (l : ℕ) (d : Door) → slice_get (record { key = k; entry = len } ∷ []) l ≡ Some d → record { key = k; entry = len } ≡ d
        last zero d h = cc
        last (suc l) d h = cc

        at : (c : ℕ) (d : Door) → (slice_get (shape_of n).doors (suc c) ≡ Some d) ⊎ ((l : ℕ) × (slice_get (record { key = k; entry = len } ∷ []) l ≡ Some d))
            → (v : Network) × (at_steps (tree_of g) (pre ++ At d.key ∷ []) ≡ Some v) × HasSteps all d.entry (pre ++ At d.key ∷ (part v).entry)
        at c d (inl h) = (old-stands (shape_of n) stands).doors c d h
        at c d (inr h) =
            subst (λ (x : Door). (v : Network) × (at_steps (tree_of g) (pre ++ At x.key ∷ []) ≡ Some v) × HasSteps all x.entry (pre ++ At x.key ∷ (part v).entry)) (last h.0 d h.1)
            (child, at_child, well.first)

    -- which node stands there
    either : (j : ℕ) (m : Shape) → slice_get all j ≡ Some m → (slice_get old j ≡ Some m) ⊎ ((m ≡ shape_of (f n)) ⊎ ((l : ℕ) × (x : Node) × (slice_get new l ≡ Some x) × (shape_of x ≡ m)))
    either j m h = elim (split-there now (map shape_of new) j m (ap (λ (ms : List Shape). slice_get ms j) (sym all-is) ∙ h)) [
      | inl u ↦ elim (before-there f n g.nodes i j m there u) [ inl v ↦ inl v | inr v ↦ inr (inl v) ]
      | inr u ↦ inr (inr (let x : (y : Node) × (slice_get new u.0 ≡ Some y) × (shape_of y ≡ m) = there-unmap shape_of new u.0 m u.1 in (u.0, x.0, x.1, x.2)))
    ]

    flipped : (p q : List LiveStep) → steps_eq p q ≡ false → steps_eq q p ≡ false
    flipped p q h = at (steps_eq q p) refl
      where
        at : (b : Bool) → steps_eq q p ≡ b → b ≡ false
        at false u = refl
        at true u = sym (steps_eq-refl p) ∙ subst (λ (w : List LiveStep). steps_eq p w ≡ false) (steps_eq-true q p u) h

    root-here : RootAt all pre k
    root-here =
        let u : Still i (shape_of n) = still i (shape_of n) (there-map shape_of g.nodes i n there) in
        elim (then-there f n g.nodes i i (shape_of n) there (there-map shape_of g.nodes i n there)) [
          | inl v ↦ (i, shape_of (f n), in-all i (shape_of (f n)) (there-map shape_of (changed_at i f g.nodes) i (f n) (there-changed f g.nodes i n there)), refl, last-key)
          | inr v ↦ (i, shape_of (f n), in-all i (shape_of (f n)) v.1, refl, last-key)
        ]
      where
        last-key : is_among k (map (λ (d : Door). d.key) (shape_of (f n)).doors) ≡ true
        last-key =
            ap (λ (ds : List Door). is_among k (map (λ (d : Door). d.key) ds)) doors-more ∙ ap (is_among k) (door-keys (shape_of n).doors (record { key = k; entry = len }))
            ∙ among-last k (map (λ (d : Door). d.key) (shape_of n).doors)

    new-root : (s : List LiveStep) (l : Key) → HasRoot new s l → RootAt all s l
    new-root s l o = (
      length now + o.at,
      shape_of o.node,
      ap (λ (ms : List Shape). slice_get ms (length now + o.at)) all-is ∙ right-there now (map shape_of new) o.at (shape_of o.node) (there-map shape_of new o.at o.node o.there),
      o.steps,
      ap (is_among l) (keys-of-doors o.node.children) ∙ o.has_key,
    )

    pub grown : ArePlaced (tree_of g) g.run all
    grown = record {
      distinct = subst DistinctSteps (sym all-is) (distinct-append now (map shape_of new) (same-distinct f n (λ x. refl) g.nodes i placed.distinct) well.distinct
          (λ a x b y u v. apart a x b y u (there-unmap shape_of new b y v)));
      all = λ j m h. elim (either j m h) [
        | inl u ↦ old-stands m (placed.all j m u)
        | inr u ↦ elim u [
          | inl v ↦ subst (Stands (tree_of g) g.run all) (sym v) node-stands
          | inr v ↦ subst (Stands (tree_of g) g.run all) v.3 (well.stand v.0 v.1 v.2)
        ]
      ];
      first = steps-still 0 (part (tree_of g)).entry placed.first;
      rooted = λ j m r q l h e. elim (either j m h) [
        | inl u ↦ root-still r l (placed.rooted j m r q l u e)
        | inr u ↦ elim u [
          | inl v ↦ root-still r l (placed.rooted i (shape_of n) r q l (there-map shape_of g.nodes i n there) (sym (ap (λ (x : Shape). x.steps) v) ∙ e))
          | inr v ↦ new-rooted v.0 v.1 r q l v.2 (ap (λ (x : Shape). x.steps) v.3 ∙ e)
        ]
      ];
    }
      where
        apart : (a : ℕ) (x : Shape) (b : ℕ) (y : Shape) → slice_get now a ≡ Some x → (z : Node) × (slice_get new b ≡ Some z) × (shape_of z ≡ y) → steps_eq x.steps y.steps ≡ false
        apart a x b y u (z, hz, ez) =
            let w : (q : List LiveStep) × (map step_of z.steps ≡ pre ++ At k ∷ q) = well.under b z hz in
            ap (λ (s : List LiveStep). steps_eq x.steps s) (sym (ap (λ (s : Shape). s.steps) ez) ∙ w.1) ∙ flipped (pre ++ At k ∷ w.0) x.steps (before (before-there f n g.nodes i a x there u) w.0)
          where
            before : (slice_get old a ≡ Some x) ⊎ (x ≡ shape_of (f n)) → (q : List LiveStep) → steps_eq (pre ++ At k ∷ q) x.steps ≡ false
            before (inl h) q =
                let o : (v : Node) × (slice_get g.nodes a ≡ Some v) × (shape_of v ≡ x) = there-unmap shape_of g.nodes a x h in
                ap (λ (s : Shape). steps_eq (pre ++ At k ∷ q) s.steps) (sym o.2) ∙ absent a o.0 q o.1
            before (inr h) q = ap (λ (s : Shape). steps_eq (pre ++ At k ∷ q) s.steps) h ∙ absent i n q there

        new-rooted : (j : ℕ) (m : Node) (r q : List LiveStep) (l : Key) → slice_get new j ≡ Some m → map step_of m.steps ≡ r ++ At l ∷ q → RootAt all r l
        new-rooted j m r q l h e =
            let w : (v : List LiveStep) × (map step_of m.steps ≡ pre ++ At k ∷ v) = well.under j m h in
            elim (compare r q pre w.0 l k (sym e ∙ w.1)) [
              | inl a ↦ root-still r l (placed.rooted i (shape_of n) r a.0 l (there-map shape_of g.nodes i n there) a.1)
              | inr b ↦ elim b [
                | inl c ↦ subst₂ (λ (s : List LiveStep) (o : Key). RootAt all s o) (sym c.0) (sym c.1) root-here
                | inr c ↦ subst (λ (s : List LiveStep). RootAt all s l) (sym c.1)
                    (new-root (pre ++ At k ∷ c.0) l (well.rooted j m c.0 q l h (w.1 ∙ ap (λ (s : List LiveStep). pre ++ At k ∷ s) c.2)))
              ]
            ]
