-- Merge at a deterministic dispatcher.
use Rattle.std.proofs.Common.{◌≡◌, ℕ, zero, suc, Bool, true, false, cond, if◌then◌else◌, ◌&&◌, List, [], ◌∷◌, map, Option, Some, None, refl, sym, ap, ap₂, ◌∙◌, subst}
use Rattle.std.proofs.Math.Path.{fun_ext}
use Rattle.std.specs.Prelude.{slice_get, is_some}
use Rattle.sn_streams.specs.Forks.{Router, Deterministic}
use Rattle.sn_streams.specs.Keys.{Key, key_eq, AreDistinct}
use Rattle.sn_streams.specs.Keys as key
use Rattle.sn_streams.specs.Trees.{Fork, passing}
use Rattle.sn_streams.proofs.Keys.{same_key}
use Rattle.sn_net.specs.Cell.{CellState, Passing}
use Rattle.sn_net.specs.Dispatchers.{Network}
use Rattle.sn_net.specs.Item.{ModelItem}
use Rattle.sn_view.specs.View.{Entry, It, Mark, End, Turn, To, Own, InTurn, Child, Node, View, at_node, first_of, rest_of}
use Rattle.sn_view.specs.Next.{gives, keeps, takes_kept, is_turn_of, has_entry, may_merge, group_gives, det_merges}
use Rattle.sn_live.specs.Entries.{Entry as LiveEntry, It as LiveIt, Mark as LiveMark}
use Rattle.sn_live.specs.Live.{Step as LiveStep, Live, subs, change}
use Rattle.sn_live.specs.Parts.{part, TurnMove, Gives, Closes, Marks, Several, One}
use Rattle.sn_live.specs.Flat.{at_steps}
use Rattle.sn_live.proofs.Routing.{turn_gives_own}
use Rattle.sn_view.specs.Seen.{step_of, erased, own_groups, seen_turns, kept_by_key, seen_node, live_of, tree_of}
use Rattle.sn_view.specs.Placed.{shape_of, door_of, HasKey, Stands, DistinctSteps, Follows}
use Rattle.sn_view.proofs.Children.{keys_of, keys-of-doors, not-own}
use Rattle.sn_view.proofs.Giving.{gives-follows, gives-unseen, stays-follows, stays-unseen, LiveN}
use Rattle.sn_view.proofs.Keeping.{kept-is, takes-shape, kept-now, kept-then, kept-others, takes-same}
use Rattle.sn_view.proofs.Local.{here}

module _ (g : View) (i : ℕ) (n0 : Node) (ds : List (Entry Turn)) (there : slice_get g.nodes i ≡ Some (record n0 { state = InTurn ds }))
    (d : DistinctSteps (map shape_of g.nodes)) (stands : Stands (tree_of g) g.run (map shape_of g.nodes) (shape_of (record n0 { state = InTurn ds })))
    (r : Router ModelItem) (child : Key → Network) (is : at_steps (tree_of g) (map step_of n0.steps) ≡ Some (Fork Deterministic r child)) (own : child key.Own ≡ passing r Passing) where
  abbrev n : Node
  n = record n0 { state = InTurn ds }

  abbrev steps : List LiveStep
  steps = map step_of n0.steps

  abbrev F : Live ModelItem CellState
  F = subs steps (live_of g)

  at_root : F [] ≡ seen_node n
  at_root = here g i n there d stands

  distinct : AreDistinct (keys_of n.children)
  distinct = subst AreDistinct (keys-of-doors n.children) stands.keys

  own_first : HasKey (map door_of n.children) 0 key.Own
  own_first = stands.own_first tt

  abbrev Moves : List (LiveEntry ModelItem) → Node → Type 0
  Moves o m = Several (λ f p f'. TurnMove r (λ k. part (child k)) f f' p) F o (change [] (λ l. seen_node m) F)

  gives_by : (f : Node → Node) (o : List (Entry ModelItem)) → shape_of (f n) ≡ shape_of n → Moves (erased o) (f n) → Follows g (gives i f n.goes o g)
  gives_by f o same m = gives-follows g i n f there same (Fork Deterministic r child) d is stands.sends o m

  stays_by : (f : Node → Node) → shape_of (f n) ≡ shape_of n → Moves [] (f n) → Follows g (at_node i f g)
  stays_by f same m = stays-follows g i n f there same (Fork Deterministic r child) d is stands.sends m

  -- what is kept, with the decisions after the first
  kept-rest : (ds' : List (Entry Turn)) (k : Key) → key_eq k key.Own ≡ false → (seen_node (keeps (InTurn ds') n)).kept k ≡ (seen_node n).kept k
  kept-rest ds' k t =
      let G : Bool → List (LiveEntry ModelItem) = λ b. cond b (own_groups ds') (kept_by_key n.children k) in
      let H : Bool → List (LiveEntry ModelItem) = λ b. cond b (own_groups ds) (kept_by_key n.children k) in
      ap G t ∙ sym (ap H t)

  of_own : (y : ModelItem) (ds' : List (Entry Turn)) → ds ≡ It (Own y) ∷ ds' → Follows g (gives i (keeps (InTurn (rest_of ds))) n.goes (It y ∷ []) g)
  of_own y ds' e =
      subst (λ (q : List (Entry Turn)). Follows g (gives i (keeps (InTurn q)) n.goes (It y ∷ []) g)) (sym (ap (λ (q : List (Entry Turn)). rest_of q) e))
      (gives_by (keeps (InTurn ds')) (It y ∷ []) refl
      (turn_gives_own r child Passing own F (change [] (λ l. seen_node (keeps (InTurn ds') n)) F) y
      (ap (λ (l : LiveN). l.decisions) at_root ∙ ap (λ (q : List (Entry Turn)). seen_turns q) e)
      (ap (λ (l : LiveN). l.kept key.Own) at_root ∙ ap (λ (q : List (Entry Turn)). own_groups q) e)
      (λ j t. kept-rest ds' j t ∙ ap (λ (l : LiveN). l.kept j) (sym at_root))
      (ap (λ (l : LiveN). l.waiting) (sym at_root)) (λ j. refl)))

  of_mark : (ds' : List (Entry Turn)) → ds ≡ Mark ∷ ds' → Follows g (gives i (keeps (InTurn (rest_of ds))) n.goes (Mark ∷ []) g)
  of_mark ds' e =
      subst (λ (q : List (Entry Turn)). Follows g (gives i (keeps (InTurn q)) n.goes (Mark ∷ []) g)) (sym (ap (λ (q : List (Entry Turn)). rest_of q) e))
      (gives_by (keeps (InTurn ds')) (Mark ∷ []) refl
      (One (LiveMark ∷ []) (change [] (λ l. seen_node (keeps (InTurn ds') n)) F)
      (Marks (ap (λ (l : LiveN). l.decisions) at_root ∙ ap (λ (q : List (Entry Turn)). seen_turns q) e)
      (sym (ap (λ (l : LiveN). l.kept) at_root
      ∙ fun_ext (λ k. ap (λ (q : List (Entry Turn)). if key_eq k key.Own then own_groups q else kept_by_key n.children k) e)))
      (ap (λ (l : LiveN). l.waiting) (sym at_root)) (λ j. refl))))

  of_end : (ds' : List (Entry Turn)) → ds ≡ End ∷ ds' → Follows g (gives i (keeps (InTurn (rest_of ds))) n.goes (End ∷ []) g)
  of_end ds' e =
      gives-unseen g i n (keeps (InTurn (rest_of ds))) there refl (End ∷ []) ((part (tree_of g)).target steps) stands.sends
      (ap₂ (λ (q : List (LiveEntry Key)) (w : List (LiveEntry ModelItem)).
      record (seen_node n) { decisions = q; kept = λ k. if key_eq k key.Own then w else kept_by_key n.children k })
      (ap (λ (q : List (Entry Turn)). seen_turns (rest_of q)) e ∙ sym (ap (λ (q : List (Entry Turn)). seen_turns q) e))
      (ap (λ (q : List (Entry Turn)). own_groups (rest_of q)) e ∙ sym (ap (λ (q : List (Entry Turn)). own_groups q) e)))
      refl

  -- the group of a child
  module _ (k : Key) (ds' : List (Entry Turn)) (first : ds ≡ It (To k) ∷ ds') (c : ℕ) (x : Child) (is_child : slice_get n.children (suc c) ≡ Some x) (of_child : key_eq k x.key ≡ true) where
    same : k ≡ x.key
    same = same_key k x.key of_child

    decides : (F []).decisions ≡ LiveIt x.key ∷ seen_turns ds'
    decides = ap (λ (l : LiveN). l.decisions) at_root ∙ ap (λ (q : List (Entry Turn)). seen_turns q) first ∙ ap (λ (j : Key). LiveIt j ∷ seen_turns ds') same

    past : key_eq x.key key.Own ≡ false
    past = not-own n.children c x distinct own_first is_child

    item : (y : ModelItem) (w : List (Entry ModelItem)) → x.kept ≡ It y ∷ w → Follows g (gives i (takes_kept (suc c)) n.goes (It y ∷ []) g)
    item y w e =
        gives_by (takes_kept (suc c)) (It y ∷ []) (takes-shape n (suc c) x is_child distinct)
        (One (LiveIt y ∷ []) (change [] (λ l. seen_node (takes_kept (suc c) n)) F)
        (Gives x.key y (seen_turns ds') decides
        (ap (λ (q : List (Entry Turn)). seen_turns q) first ∙ ap (λ (j : Key). LiveIt j ∷ seen_turns ds') same)
        (ap (λ (l : LiveN). l.kept x.key) at_root ∙ kept-now n (suc c) x is_child distinct past ∙ ap erased e
        ∙ ap (λ (q : List (Entry ModelItem)). LiveIt y ∷ erased (rest_of q)) (sym e) ∙ ap (λ (q : List (LiveEntry ModelItem)). LiveIt y ∷ q) (sym (kept-then n (suc c) x is_child distinct past)))
        (λ j t. kept-others n (suc c) x is_child distinct past j t ∙ ap (λ (l : LiveN). l.kept j) (sym at_root))
        (ap (λ (l : LiveN). l.waiting) (sym at_root)) (λ j. refl)))

    -- the group ends
    mark : (w : List (Entry ModelItem)) → x.kept ≡ Mark ∷ w → Follows g (at_node i (λ m. keeps (InTurn (rest_of ds)) (takes_kept (suc c) m)) g)
    mark w e =
        stays_by (λ m. keeps (InTurn (rest_of ds)) (takes_kept (suc c) m)) (takes-shape n (suc c) x is_child distinct)
        (One [] (change [] (λ l. seen_node (keeps (InTurn (rest_of ds)) (takes_kept (suc c) n))) F)
        (Closes x.key (decides ∙ ap (λ (q : List (Entry Turn)). LiveIt x.key ∷ seen_turns (rest_of q)) (sym first))
        (ap (λ (l : LiveN). l.kept x.key) at_root ∙ kept-now n (suc c) x is_child distinct past ∙ ap erased e
        ∙ ap (λ (q : List (Entry ModelItem)). LiveMark ∷ erased (rest_of q)) (sym e)
        ∙ ap (λ (q : List (LiveEntry ModelItem)). LiveMark ∷ q) (sym (as-taken x.key ∙ kept-then n (suc c) x is_child distinct past)))
        (λ j t. as-taken j ∙ kept-others n (suc c) x is_child distinct past j t ∙ ap (λ (l : LiveN). l.kept j) (sym at_root))
        (ap (λ (l : LiveN). l.waiting) (sym at_root)) (λ j. refl)))
      where
        as-taken : (j : Key) → (seen_node (keeps (InTurn (rest_of ds)) (takes_kept (suc c) n))).kept j ≡ (seen_node (takes_kept (suc c) n)).kept j
        as-taken j =
            ap (λ (q : List (LiveEntry ModelItem)). if key_eq j key.Own then q else kept_by_key (takes_kept (suc c) n).children j)
            (ap (λ (q : List (Entry Turn)). own_groups (rest_of q)) first ∙ sym (ap (λ (q : List (Entry Turn)). own_groups q) first))

    end : (w : List (Entry ModelItem)) → x.kept ≡ End ∷ w → Follows g (at_node i (takes_kept (suc c)) g)
    end w e =
        stays-unseen g i n (takes_kept (suc c)) there (takes-shape n (suc c) x is_child distinct)
        (takes-same n (suc c) x is_child distinct past (ap (λ (q : List (Entry ModelItem)). erased (rest_of q)) e ∙ sym (ap erased e)))

    by_kept : (w : List (Entry ModelItem)) → x.kept ≡ w → is_some (first_of w) ≡ true → Follows g (group_gives i n (suc c) ds (first_of w) g)
    by_kept [] e some = cc
    by_kept (It y ∷ w) e some = item y w e
    by_kept (Mark ∷ w) e some = mark w e
    by_kept (End ∷ w) e some = end w e

  no : {X : Type 0} → false ≡ true → X
  no e = cc

  both-true : (a b : Bool) → (a && b) ≡ true → (a ≡ true) × (b ≡ true)
  both-true true b e = (refl, e)
  both-true false b e = no e

  by_decisions : (c : ℕ) (q : List (Entry Turn)) → ds ≡ q → (x : Option Child) → slice_get n.children c ≡ x → (is_turn_of (first_of q) c x && has_entry c x) ≡ true
      → Follows g (det_merges i n c ds (first_of q) g)
  by_decisions c [] e x h may = no may
  by_decisions zero (It (Own y) ∷ q) e x h may = of_own y q e
  by_decisions (suc c) (It (Own y) ∷ q) e x h may = no may
  by_decisions zero (It (To k) ∷ q) e None h may = no may
  by_decisions zero (It (To k) ∷ q) e (Some x) h may = no may
  by_decisions (suc c) (It (To k) ∷ q) e None h may = no may
  by_decisions (suc c) (It (To k) ∷ q) e (Some x) h may =
      let u : (key_eq k x.key ≡ true) × (is_some (first_of x.kept) ≡ true) = both-true (key_eq k x.key) (is_some (first_of x.kept)) may in
      subst (λ (w : List (Entry ModelItem)). Follows g (group_gives i n (suc c) ds (first_of w) g)) (sym (kept-is n.children (suc c) x h))
      (by_kept k q e c x h u.0 x.kept refl u.1)
  by_decisions zero (Mark ∷ q) e x h may = of_mark q e
  by_decisions (suc c) (Mark ∷ q) e x h may = no may
  by_decisions zero (End ∷ q) e x h may = of_end q e
  by_decisions (suc c) (End ∷ q) e x h may = no may

  pub turn-merge-follows : (c : ℕ) → may_merge n c ≡ true → Follows g (det_merges i n c ds (first_of ds) g)
  turn-merge-follows c may = by_decisions c ds refl (slice_get n.children c) refl may
