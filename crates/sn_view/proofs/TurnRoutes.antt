-- Route at a deterministic dispatcher.
use Rattle.std.proofs.Common.{◌≡◌, ℕ, zero, suc, Bool, false, cond, if◌then◌else◌, List, [], ◌∷◌, ◌++◌, map, Some, refl, sym, ap, ap₂, ◌∙◌, subst, append-nil}
use Rattle.std.proofs.Math.Path.{fun_ext}
use Rattle.std.specs.Prelude.{slice_get}
use Rattle.sn_streams.specs.Forks.{Router, Deterministic}
use Rattle.sn_streams.specs.Keys.{Key, key_eq, AreDistinct}
use Rattle.sn_streams.specs.Keys as key
use Rattle.sn_streams.specs.Trees.{Fork, passing}
use Rattle.sn_net.specs.Cell.{CellState, Passing}
use Rattle.sn_net.specs.Dispatchers.{Network}
use Rattle.sn_net.specs.Item.{ModelItem}
use Rattle.sn_view.specs.View.{Entry, It, Mark, End, Waiting, Plain, Turn, To, Own, InTurn, Child, Node, View, at_node, rest_of}
use Rattle.sn_view.specs.Next.{passed, keeps, to_all}
use Rattle.sn_live.specs.Entries.{Entry as LiveEntry, It as LiveIt, Mark as LiveMark}
use Rattle.sn_live.specs.Live.{Step as LiveStep, At, Live, subs, change, sub}
use Rattle.sn_live.specs.Parts.{part, pushed, Routes, One}
use Rattle.sn_live.specs.Flat.{at_steps, base}
use Rattle.sn_live.proofs.Pushing.{pushed-nothing}
use Rattle.sn_live.proofs.Routing.{turn_own}
use Rattle.sn_live.proofs.Telling.{tell, one-told}
use Rattle.sn_live.proofs.Within.{subs-at, base-idle}
use Rattle.sn_view.specs.Seen.{step_of, erased, entry_of, turn_key, own_groups, seen_turns, kept_by_key, seen_node, live_of, tree_of}
use Rattle.sn_view.specs.Placed.{shape_of, Stands, DistinctSteps, Follows}
use Rattle.sn_view.proofs.Children.{keys_of, keys-of-doors}
use Rattle.sn_view.proofs.Giving.{stays-follows, stays-unseen, LiveN}
use Rattle.sn_view.proofs.Local.{here}
use Rattle.sn_view.proofs.ToAll.{tells-follows, look-own}

pub turns-append : (a b : List (Entry Turn)) → seen_turns (a ++ b) ≡ seen_turns a ++ seen_turns b
turns-append [] b = refl
turns-append (It d ∷ a) b = ap (λ (q : List (LiveEntry Key)). LiveIt (turn_key d) ∷ q) (turns-append a b)
turns-append (Mark ∷ a) b = ap (λ (q : List (LiveEntry Key)). LiveMark ∷ q) (turns-append a b)
turns-append (End ∷ a) b = turns-append a b

pub groups-append : (a b : List (Entry Turn)) → own_groups (a ++ b) ≡ own_groups a ++ own_groups b
groups-append [] b = refl
groups-append (It (To k) ∷ a) b = groups-append a b
groups-append (It (Own y) ∷ a) b = ap (λ (q : List (LiveEntry ModelItem)). LiveIt y ∷ LiveMark ∷ q) (groups-append a b)
groups-append (Mark ∷ a) b = groups-append a b
groups-append (End ∷ a) b = groups-append a b

-- where nothing waits at the child that items pass by
pub idle-own : (g : View) (steps : List LiveStep) → (sub (subs steps (live_of g)) (At key.Own) []).waiting ≡ []
idle-own g steps =
    ap (λ (l : LiveN). l.waiting) (subs-at steps (At key.Own ∷ []) (live_of g) ∙ look-own (base Passing (tree_of g)) steps [] g.nodes)
    ∙ base-idle Passing (tree_of g) (steps ++ At key.Own ∷ [])

module _ (g : View) (i : ℕ) (n0 : Node) (ds : List (Entry Turn)) (there : slice_get g.nodes i ≡ Some (record n0 { state = InTurn ds }))
    (d : DistinctSteps (map shape_of g.nodes)) (stands : Stands (tree_of g) g.run (map shape_of g.nodes) (shape_of (record n0 { state = InTurn ds })))
    (r : Router ModelItem) (child : Key → Network) (is : at_steps (tree_of g) (map step_of n0.steps) ≡ Some (Fork Deterministic r child)) (own : child key.Own ≡ passing r Passing) where
  abbrev n : Node
  n = record n0 { state = InTurn ds }

  abbrev steps : List LiveStep
  steps = map step_of n0.steps

  abbrev F : Live ModelItem CellState
  F = subs steps (live_of g)

  at_root : F [] ≡ seen_node n
  at_root = here g i n there d stands

  distinct : AreDistinct (keys_of n.children)
  distinct = subst AreDistinct (keys-of-doors n.children) stands.keys

  abbrev after : Entry Turn → Node
  after t = keeps (InTurn (ds ++ t ∷ [])) (passed n)

  abbrev change_by : Entry Turn → Node → Node
  change_by t m = keeps (InTurn (ds ++ t ∷ [])) (passed m)

  -- the first entry, and what is decided, as they are seen
  waits : (e : Entry ModelItem) (ws : List Waiting) → n.waiting ≡ Plain e ∷ ws → erased (map entry_of n.waiting) ≡ erased (e ∷ map entry_of (rest_of n.waiting))
  waits e ws h = ap (λ (v : List Waiting). erased (map entry_of v)) h ∙ ap (λ (v : List Waiting). erased (e ∷ map entry_of (rest_of v))) (sym h)

  kept-other : (t : Entry Turn) (j : Key) → key_eq j key.Own ≡ false → (seen_node (after t)).kept j ≡ (F []).kept j
  kept-other t j e =
      (let G : Bool → List (LiveEntry ModelItem) = λ b. cond b (own_groups (ds ++ t ∷ [])) (kept_by_key n.children j) in ap G e)
      ∙ sym (let G : Bool → List (LiveEntry ModelItem) = λ b. cond b (own_groups ds) (kept_by_key n.children j) in ap G e)
      ∙ ap (λ (l : LiveN). l.kept j) (sym at_root)

  -- an item that passes by
  pub of_own : (x : ModelItem) (ws : List Waiting) → n.waiting ≡ Plain (It x) ∷ ws → r.key x ≡ key.Own → Follows g (at_node i (change_by (It (Own (r.own x)))) g)
  of_own x ws h by =
      stays-follows g i n (change_by (It (Own (r.own x)))) there refl (Fork Deterministic r child) d is stands.sends
      (turn_own r child Passing own F (change [] (λ l. seen_node (after (It (Own (r.own x))))) F) x
      (ap (λ (l : LiveN). l.waiting) at_root ∙ waits (It x) ws h) by (idle-own g steps) (λ j. refl)
      (turns-append ds (It (Own (r.own x)) ∷ []) ∙ ap (λ (l : LiveN). l.decisions ++ LiveIt key.Own ∷ []) (sym at_root))
      (groups-append ds (It (Own (r.own x)) ∷ []) ∙ ap (λ (l : LiveN). l.kept key.Own ++ LiveIt (r.own x) ∷ LiveMark ∷ []) (sym at_root))
      (λ j t. kept-other (It (Own (r.own x))) j t))

  -- a mark
  pub of_mark : (ws : List Waiting) → n.waiting ≡ Plain Mark ∷ ws → Follows g (at_node i (change_by Mark) g)
  of_mark ws h =
      stays-follows g i n (change_by Mark) there refl (Fork Deterministic r child) d is stands.sends
      (One [] (change [] (λ l. seen_node (after Mark)) F)
      (Routes LiveMark (ap (λ (l : LiveN). l.waiting) at_root ∙ waits Mark ws h)
      (turns-append ds (Mark ∷ []) ∙ ap (λ (l : LiveN). l.decisions ++ LiveMark ∷ []) (sym at_root))
      (fun_ext (λ j. ap (λ (q : List (LiveEntry ModelItem)). if key_eq j key.Own then q else kept_by_key n.children j) (groups-append ds (Mark ∷ []) ∙ append-nil (own_groups ds)))
      ∙ ap (λ (l : LiveN). l.kept) (sym at_root))
      (λ j. sym (pushed-nothing (part (child j)) (sub F (At j))))))

  pub of_end : (ws : List Waiting) → n.waiting ≡ Plain End ∷ ws → Follows g (at_node i (change_by End) g)
  of_end ws h =
      stays-unseen g i n (change_by End) there refl
      (ap₂ (λ (w : List (LiveEntry ModelItem)) (q : List (LiveEntry Key)). record (seen_node n) { waiting = w; decisions = q; kept = (seen_node (after End)).kept }) (sym (waits End ws h))
      (turns-append ds (End ∷ []) ∙ append-nil (seen_turns ds))
      ∙ ap (λ (k : Key → List (LiveEntry ModelItem)). record (seen_node n) { kept = k })
      (fun_ext (λ j. ap (λ (q : List (LiveEntry ModelItem)). if key_eq j key.Own then q else kept_by_key n.children j) (groups-append ds (End ∷ []) ∙ append-nil (own_groups ds)))))

  -- an item that goes to a child
  pub of_child : (x : ModelItem) (ws : List Waiting) → n.waiting ≡ Plain (It x) ∷ ws → (c : ℕ) (y : Child) → slice_get n.children (suc c) ≡ Some y → r.key x ≡ y.key → key_eq y.key key.Own ≡ false
      → Follows g (to_all (y ∷ []) (It x ∷ Mark ∷ []) (at_node i (change_by (It (To (r.key x)))) g))
  of_child x ws h c y is_child key_is past =
      tells-follows g i n there d stands Deterministic r child is (change_by (It (To (r.key x)))) (y ∷ []) (It x ∷ Mark ∷ []) refl children
      (One [] after_all (Routes (LiveIt x)
      (ap (λ (l : LiveN). l.waiting) at_root ∙ waits (It x) ws h)
      (turns-append ds (It (To (r.key x)) ∷ []) ∙ ap (λ (l : LiveN). l.decisions ++ LiveIt (r.key x) ∷ []) (sym at_root))
      (fun_ext (λ j. ap (λ (q : List (LiveEntry ModelItem)). if key_eq j key.Own then q else kept_by_key n.children j) (groups-append ds (It (To (r.key x)) ∷ []) ∙ append-nil (own_groups ds)))
      ∙ ap (λ (l : LiveN). l.kept) (sym at_root))
      (λ j. one-told (λ k. part (child k)) (LiveIt x ∷ LiveMark ∷ []) y.key (change [] (λ l. seen_node (after (It (To (r.key x))))) F) j
      ∙ ap (λ (k : Key). pushed (part (child j)) (if key_eq j k then LiveIt x ∷ LiveMark ∷ [] else []) (sub F (At j))) (sym key_is))))
    where
      after_all : Live ModelItem CellState
      after_all = tell (λ k. part (child k)) (LiveIt x ∷ LiveMark ∷ []) (y.key ∷ []) (change [] (λ l. seen_node (after (It (To (r.key x))))) F)

      children : (j : ℕ) (z : Child) → slice_get (y ∷ []) j ≡ Some z → (m : ℕ) × (slice_get n.children (suc m) ≡ Some z)
      children zero z e = (c, is_child ∙ e)
      children (suc j) z e = cc
