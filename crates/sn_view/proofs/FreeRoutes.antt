-- Route at a free dispatcher.
use Rattle.std.proofs.Common.{◌≡◌, ℕ, zero, suc, ◌+◌, ◌-◌, ◌≤◌, nat_lt, length, Bool, true, false, cond, if◌then◌else◌, List, [], ◌∷◌, ◌++◌, map, Some, refl, sym, ap, ap₂, ◌∙◌, subst, append-nil, arith}
use Rattle.std.proofs.Math.Path.{fun_ext}
use Rattle.std.specs.Prelude.{slice_get}
use Rattle.sn_streams.specs.Forks.{Router, Free}
use Rattle.sn_streams.specs.Keys.{Key, key_eq, AreDistinct, is_among}
use Rattle.sn_streams.specs.Keys as key
use Rattle.sn_streams.specs.Trees.{Fork, passing}
use Rattle.sn_net.specs.Cell.{CellState, Passing}
use Rattle.sn_net.specs.Dispatchers.{Network}
use Rattle.sn_net.specs.Item.{ModelItem}
use Rattle.sn_view.specs.Epochs.{Epochs, closed}
use Rattle.sn_view.specs.View.{Entry, It, Mark, End, Waiting, Plain, Freely, Child, Node, View, at_node, keeps_more, child_gives, rest_of}
use Rattle.sn_view.specs.Next.{passed, keeps, to_all}
use Rattle.sn_live.specs.Entries.{Entry as LiveEntry, It as LiveIt, Mark as LiveMark}
use Rattle.sn_live.specs.Live.{Step as LiveStep, At, Live, subs, change, sub, stands as stands_in}
use Rattle.sn_live.specs.Parts.{Part, part, pushed, FreeMove, Routed, FreeSane, Several, One}
use Rattle.sn_live.specs.Flat.{at_steps}
use Rattle.sn_live.proofs.Routing.{free_own, free_mark}
use Rattle.sn_live.proofs.Telling.{tell, told, one-told, tell-root, tell-other, tell-kid}
use Rattle.sn_live.proofs.Within.{sane-at}
use Rattle.sn_view.specs.Seen.{step_of, erased, entry_of, seen_node, live_of, tree_of}
use Rattle.sn_view.specs.Placed.{IsFreely, shape_of, Door, door_of, HasKey, Stands, DistinctSteps, Follows}
use Rattle.sn_view.proofs.Lists.{unseen-change}
use Rattle.sn_view.proofs.Children.{keys_of, keys-of-doors, keys-changed, epochs-changed, key-among}
use Rattle.sn_view.proofs.Giving.{stays-follows, stays-unseen, LiveN, seen-keeps}
use Rattle.sn_view.proofs.Local.{here}
use Rattle.sn_view.proofs.ToAll.{tells-follows, doors_of}
use Rattle.sn_view.proofs.TurnRoutes.{idle-own}

told-keys : (c : Key → Part ModelItem CellState) (o : List (LiveEntry ModelItem)) (cs : List Child) → told c o (doors_of cs) ≡ keys_of cs
told-keys c o [] = refl
told-keys c o (x ∷ cs) = ap (λ (ks : List Key). x.key ∷ ks) (told-keys c o cs)

module _ (g : View) (i : ℕ) (n0 : Node) (e : Epochs) (there : slice_get g.nodes i ≡ Some (record n0 { state = Freely e }))
    (d : DistinctSteps (map shape_of g.nodes)) (stands : Stands (tree_of g) g.run (map shape_of g.nodes) (shape_of (record n0 { state = Freely e })))
    (r : Router ModelItem) (child : Key → Network) (is : at_steps (tree_of g) (map step_of n0.steps) ≡ Some (Fork Free r child)) (own : child key.Own ≡ passing r Passing) where
  abbrev n : Node
  n = record n0 { state = Freely e }

  abbrev steps : List LiveStep
  steps = map step_of n0.steps

  abbrev F : Live ModelItem CellState
  F = subs steps (live_of g)

  at_root : F [] ≡ seen_node n
  at_root = here g i n there d stands

  distinct : AreDistinct (keys_of n.children)
  distinct = subst AreDistinct (keys-of-doors n.children) stands.keys

  waits : (x : Entry ModelItem) (ws : List Waiting) → n.waiting ≡ Plain x ∷ ws → erased (map entry_of n.waiting) ≡ erased (x ∷ map entry_of (rest_of n.waiting))
  waits x ws h = ap (λ (v : List Waiting). erased (map entry_of v)) h ∙ ap (λ (v : List Waiting). erased (x ∷ map entry_of (rest_of v))) (sym h)

  -- child 0 is there, at the key Own
  record First : Type 0 where
    first : Child
    others : List Child
    are : n.children ≡ first ∷ others
    is_own : first.key ≡ key.Own

  first_child : First
  first_child = at n.children refl (stands.own_first tt)
    where
      at : (cs : List Child) → n.children ≡ cs → HasKey (map door_of cs) 0 key.Own → First
      at [] h (door, t, k) = cc
      at (x ∷ cs) h (door, t, k) =
          let u : door_of x ≡ door = cc in
          record { first = x; others = cs; are = h; is_own = ap (λ (y : Door). y.key) u ∙ k }

  zero-there : slice_get n.children 0 ≡ Some first_child.first
  zero-there = ap (λ (cs : List Child). slice_get cs 0) first_child.are

  own-made : is_among key.Own (keys_of n.children) ≡ true
  own-made = ap (λ (k : Key). is_among k (keys_of n.children)) (sym first_child.is_own) ∙ key-among n.children 0 first_child.first zero-there

  -- the dispatcher, with entries kept of child 0
  abbrev keeping : List (Entry ModelItem) → Node
  keeping o = child_gives 0 o (passed n)

  keeping-shape : (o : List (Entry ModelItem)) → shape_of (keeping o) ≡ shape_of n
  keeping-shape o = ap (λ (ds : List Door). record (shape_of n) { doors = ds }) (unseen-change door_of (keeps_more o) n.children 0 (λ x h. refl))

  seen-keeping : (o : List (Entry ModelItem)) → seen_node (keeping o) ≡ (let m : LiveN = seen_node (passed n) in record m { kept = λ j. if key_eq j first_child.first.key then m.kept j ++ erased o else m.kept j })
  seen-keeping o = seen-keeps o (passed n) 0 first_child.first tt zero-there distinct

  kept-own : (o : List (Entry ModelItem)) → (seen_node (keeping o)).kept key.Own ≡ (F []).kept key.Own ++ erased o
  kept-own o =
      ap (λ (m : LiveN). m.kept key.Own) (seen-keeping o)
      ∙ ap (λ (k : Key). if key_eq key.Own k then (seen_node n).kept key.Own ++ erased o else (seen_node n).kept key.Own) first_child.is_own
      ∙ ap (λ (l : LiveN). l.kept key.Own ++ erased o) (sym at_root)

  kept-others : (o : List (Entry ModelItem)) (j : Key) → key_eq j key.Own ≡ false → (seen_node (keeping o)).kept j ≡ (F []).kept j
  kept-others o j t =
      ap (λ (m : LiveN). m.kept j) (seen-keeping o)
      ∙ ap (λ (k : Key). if key_eq j k then (seen_node n).kept j ++ erased o else (seen_node n).kept j) first_child.is_own
      ∙ (let G : Bool → List (LiveEntry ModelItem) = λ b. cond b ((seen_node n).kept j ++ erased o) ((seen_node n).kept j) in ap G t)
      ∙ ap (λ (l : LiveN). l.kept j) (sym at_root)

  -- an item that passes by
  pub of_own : (x : ModelItem) (ws : List Waiting) → n.waiting ≡ Plain (It x) ∷ ws → r.key x ≡ key.Own → Follows g (at_node i (λ m. child_gives 0 (It (r.own x) ∷ []) (passed m)) g)
  of_own x ws h by =
      stays-follows g i n (λ m. child_gives 0 (It (r.own x) ∷ []) (passed m)) there (keeping-shape (It (r.own x) ∷ [])) (Fork Free r child) d is stands.sends
      (free_own r child Passing own F (change [] (λ l. seen_node (keeping (It (r.own x) ∷ []))) F) x
      (ap (λ (l : LiveN). l.waiting) at_root ∙ waits (It x) ws h) by (idle-own g steps) (λ j. refl)
      (kept-own (It (r.own x) ∷ [])) (λ j t. kept-others (It (r.own x) ∷ []) j t)
      (ap (λ (l : LiveN). is_among key.Own l.made) at_root ∙ own-made)
      (made-same, ap (λ (l : LiveN). l.ahead) (sym at_root))
      (λ j. ap₂ (λ (m : List Key) (l : Key → ℕ). cond (is_among j m) (l j) (e.input - e.output)) made-kept lead-kept ∙ ap (λ (l : LiveN). stands_in l j) (sym at_root)))
    where
      made-kept : (seen_node (keeping (It (r.own x) ∷ []))).made ≡ (seen_node n).made
      made-kept = keys-changed (keeps_more (It (r.own x) ∷ [])) (λ y. refl) n.children 0

      made-same : (seen_node (keeping (It (r.own x) ∷ []))).made ≡ (F []).made
      made-same = made-kept ∙ ap (λ (l : LiveN). l.made) (sym at_root)

      lead-kept : (seen_node (keeping (It (r.own x) ∷ []))).lead ≡ (seen_node n).lead
      lead-kept = fun_ext (λ k. ap (λ (m : ℕ). m - e.output) (epochs-changed (keeps_more (It (r.own x) ∷ [])) (λ y. refl) n.children 0 e.children k))

  pub of_end : (ws : List Waiting) → n.waiting ≡ Plain End ∷ ws → Follows g (at_node i (λ m. child_gives 0 (End ∷ []) (passed m)) g)
  of_end ws h =
      stays-unseen g i n (λ m. child_gives 0 (End ∷ []) (passed m)) there (keeping-shape (End ∷ []))
      (seen-keeping (End ∷ [])
      ∙ ap₂ (λ (w : List (LiveEntry ModelItem)) (k : Key → List (LiveEntry ModelItem)). record (seen_node n) { waiting = w; kept = k }) (sym (waits End ws h))
      (fun_ext (λ j. same (key_eq j first_child.first.key) ((seen_node n).kept j))))
    where
      same : (b : Bool) (w : List (LiveEntry ModelItem)) → cond b (w ++ []) w ≡ w
      same true w = append-nil w
      same false w = refl

  -- an item that goes to a child
  pub of_child : (x : ModelItem) (ws : List Waiting) → n.waiting ≡ Plain (It x) ∷ ws → (c : ℕ) (y : Child) → slice_get n.children (suc c) ≡ Some y → r.key x ≡ y.key
      → Follows g (to_all (y ∷ []) (It x ∷ []) (at_node i passed g))
  of_child x ws h c y is_child key_is =
      tells-follows g i n there d stands Free r child is passed (y ∷ []) (It x ∷ []) refl children
      (One [] after_all (Routed x
      (ap (λ (k : Key). is_among k ((F []).made)) key_is ∙ ap (λ (l : LiveN). is_among y.key l.made) at_root ∙ key-among n.children (suc c) y is_child)
      (ap (λ (l : LiveN). l.waiting) at_root ∙ waits (It x) ws h)
      (ap (λ (l : LiveN). l.made) (sym at_root), ap (λ (l : LiveN). l.ahead) (sym at_root))
      (ap (λ (l : LiveN). l.kept) (sym at_root))
      (λ j. ap (λ (l : LiveN). stands_in l j) (sym at_root))
      (λ j. one-told (λ k. part (child k)) (LiveIt x ∷ []) y.key (change [] (λ l. seen_node (passed n)) F) j
      ∙ ap (λ (k : Key). pushed (part (child j)) (if key_eq j k then LiveIt x ∷ [] else []) (sub F (At j))) (sym key_is))))
    where
      after_all : Live ModelItem CellState
      after_all = tell (λ k. part (child k)) (LiveIt x ∷ []) (y.key ∷ []) (change [] (λ l. seen_node (passed n)) F)

      children : (j : ℕ) (z : Child) → slice_get (y ∷ []) j ≡ Some z → (m : ℕ) × (slice_get n.children (suc m) ≡ Some z)
      children zero z u = (c, is_child ∙ u)
      children (suc j) z u = cc

  -- a mark goes to all children
  module _ (sane : (part (tree_of g)).sane (live_of g)) (order : e.output ≤ e.input) (ws : List Waiting) (h : n.waiting ≡ Plain Mark ∷ ws) where
    abbrev closing : Node → Node
    closing m = keeps (Freely (closed e)) (child_gives 0 (Mark ∷ []) (passed m))

    abbrev parts : Key → Part ModelItem CellState
    parts k = part (child k)

    abbrev rest_keys : List Key
    rest_keys = keys_of first_child.others

    abbrev H : Live ModelItem CellState
    H = change [] (λ l. seen_node (closing n)) F

    abbrev f' : Live ModelItem CellState
    f' = tell parts (LiveMark ∷ []) rest_keys H

    keys_are : keys_of n.children ≡ key.Own ∷ rest_keys
    keys_are = ap keys_of first_child.are ∙ ap (λ (k : Key). k ∷ rest_keys) first_child.is_own

    new_own : is_among key.Own rest_keys ≡ false
    new_own = (subst AreDistinct keys_are distinct).0

    rest_distinct : AreDistinct rest_keys
    rest_distinct = (subst AreDistinct keys_are distinct).1

    root : f' [] ≡ seen_node (closing n)
    root = tell-root parts (LiveMark ∷ []) rest_keys H

    free_sane : FreeSane parts F
    free_sane = sane-at (tree_of g) steps (Fork Free r child) (live_of g) is sane

    made-of : (k : Key) → is_among k ((F []).made) ≡ cond (key_eq k key.Own) true (is_among k rest_keys)
    made-of k = ap (λ (l : LiveN). is_among k l.made) at_root ∙ ap (is_among k) keys_are

    made-kept : (seen_node (closing n)).made ≡ (seen_node n).made
    made-kept = keys-changed (keeps_more (Mark ∷ [])) (λ y. refl) n.children 0

    lead-kept : (seen_node (closing n)).lead ≡ (seen_node n).lead
    lead-kept = fun_ext (λ k. ap (λ (m : ℕ). m - e.output) (epochs-changed (keeps_more (Mark ∷ [])) (λ y. refl) n.children 0 e.children k))

    marks : Several (λ f p f2. FreeMove r (λ k. part (child k)) f f2 p) F [] f'
    marks =
        free_mark r child Passing own F f'
        (ap (λ (l : LiveN). l.waiting) at_root ∙ waits Mark ws h ∙ ap (λ (l : LiveN). LiveMark ∷ l.waiting) (sym root))
        (idle-own g steps)
        (ap (λ (l : LiveN). l.made) root ∙ made-kept ∙ ap (λ (l : LiveN). l.made) (sym at_root))
        (ap (λ (l : LiveN). l.ahead) root ∙ omega (arith, order) ∙ ap (λ (l : LiveN). suc l.ahead) (sym at_root))
        (ap (λ (l : LiveN). l.lead) root ∙ lead-kept ∙ ap (λ (l : LiveN). l.lead) (sym at_root))
        (made-of key.Own)
        free_sane.absent
        (ap (λ (l : LiveN). l.kept key.Own) root ∙ kept-own (Mark ∷ []))
        (λ j t. ap (λ (l : LiveN). l.kept j) root ∙ kept-others (Mark ∷ []) j t)
        (tell-other parts (LiveMark ∷ []) rest_keys H key.Own new_own)
        (λ k t m. tell-kid parts (LiveMark ∷ []) rest_keys H k rest_distinct
        (sym (let G : Bool → Bool = λ b. cond b true (is_among k rest_keys) in ap G t) ∙ sym (made-of k) ∙ m))
        (λ k m. tell-other parts (LiveMark ∷ []) rest_keys H k (absent k m))
      where
        absent : (k : Key) → is_among k ((F []).made) ≡ false → is_among k rest_keys ≡ false
        absent k m = at (key_eq k key.Own) (is_among k rest_keys) (sym (made-of k) ∙ m)
          where
            at : (a b : Bool) → cond a true b ≡ false → b ≡ false
            at true b u = cc
            at false b u = u

    over : (a b : ℕ) → b ≤ a → nat_lt (a + 1) b ≡ nat_lt a b
    over a b h = grind (arith, h)

    closing-shape : shape_of (closing n) ≡ shape_of n
    closing-shape = ap (λ (b : Bool). record (shape_of (keeping (Mark ∷ []))) { kind = IsFreely (length e.children) b }) (over e.input e.output order) ∙ keeping-shape (Mark ∷ [])

    pub of_mark : Follows g (to_all (rest_of n.children) (Mark ∷ []) (at_node i closing g))
    of_mark =
        subst (λ (cs : List Child). Follows g (to_all cs (Mark ∷ []) (at_node i closing g))) (sym (ap (λ (cs : List Child). rest_of cs) first_child.are))
        (tells-follows g i n there d stands Free r child is closing first_child.others (Mark ∷ []) closing-shape children
        (let P : List Key → Type 0 = λ ks. Several (λ f p f2. FreeMove r (λ k. part (child k)) f f2 p) F [] (tell parts (LiveMark ∷ []) ks H) in
        subst P (sym (told-keys parts (LiveMark ∷ []) first_child.others)) marks))
      where
        children : (j : ℕ) (z : Child) → slice_get first_child.others j ≡ Some z → (m : ℕ) × (slice_get n.children (suc m) ≡ Some z)
        children j z u = (j, ap (λ (cs : List Child). slice_get cs (suc j)) first_child.are ∙ u)
