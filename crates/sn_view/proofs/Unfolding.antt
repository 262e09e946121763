-- Unfold: the nodes of a new child stand behind the others.
use Rattle.std.proofs.Common.{◌≡◌, ℕ, suc, Bool, true, false, cond, ◌&&◌, List, [], ◌∷◌, ◌++◌, map, Some, refl, sym, ap, ◌∙◌, subst, append-nil}
use Rattle.std.proofs.Math.Path.{fun_ext}
use Rattle.std.proofs.lemmas.List.{map-append}
use Rattle.std.specs.Prelude.{slice_get}
use Rattle.sn_streams.specs.Forks.{Router, Merge as StreamMerge}
use Rattle.sn_streams.specs.Keys.{Key, key_eq}
use Rattle.sn_streams.specs.Trees.{Fork}
use Rattle.sn_streams.proofs.Keys.{key_eq-refl}
use Rattle.sn_net.specs.Cell.{Passing}
use Rattle.sn_net.specs.Dispatchers.{Network}
use Rattle.sn_net.specs.Item.{ModelItem}
use Rattle.sn_view.specs.View.{Node, View, changed_at}
use Rattle.sn_live.specs.Entries.{Entry as LiveEntry}
use Rattle.sn_live.specs.Live.{Step as LiveStep, At, Live, change, subs, sub, graft, step_eq, Target as LiveTarget, send as live_send}
use Rattle.sn_live.specs.Parts.{part}
use Rattle.sn_live.specs.Flat.{Flat, look, base, at_steps, steps_eq, FreshAt}
use Rattle.sn_live.specs.Runs.{Move, Moves}
use Rattle.sn_live.proofs.Arena.{look-index, change-is, steps_eq-refl, steps_eq-true, step_eq-true, step_eq-refl}
use Rattle.sn_live.proofs.Fresh.{fresh-from, base-at}
use Rattle.sn_live.proofs.Places.{lifts}
use Rattle.sn_live.proofs.Telling.{none-left, send-nothing}
use Rattle.sn_live.proofs.Within.{subs-at}
use Rattle.sn_view.specs.Seen.{step_of, erased, seen_node, seen, live_of, tree_of, running}
use Rattle.sn_view.specs.Placed.{shape_of, DistinctSteps}
use Rattle.sn_view.proofs.Seeing.{are-distinct, node-there, seen-changed}
use Rattle.sn_view.proofs.Giving.{S, LiveN}

-- these steps lead on from those
abbrev under : List LiveStep → List LiveStep → Bool
under [] q = true
under (x ∷ s) [] = false
under (x ∷ s) (t ∷ q) = step_eq t x && under s q

and-false : (a b : Bool) → (a ≡ true → b ≡ false) → (a && b) ≡ false
and-false true b h = h refl
and-false false b h = refl

not-under : (s r q : List LiveStep) → under s q ≡ false → steps_eq q (s ++ r) ≡ false
not-under [] r q h = absurd (no h)
  where
    no : true ≡ false → ⊥
    no u = cc
not-under (x ∷ s) r [] h = refl
not-under (x ∷ s) r (t ∷ q) h = at (step_eq t x) h (not-under s r q)
  where
    at : (b : Bool) → (b && under s q) ≡ false → (under s q ≡ false → steps_eq q (s ++ r) ≡ false) → (b && steps_eq q (s ++ r)) ≡ false
    at true h later = later h
    at false h later = refl

-- the same steps before
same-front : (s p r : List LiveStep) → steps_eq (s ++ p) (s ++ r) ≡ steps_eq p r
same-front [] p r = refl
same-front (x ∷ s) p r = ap (λ b. b && steps_eq (s ++ p) (s ++ r)) (step_eq-refl x) ∙ same-front s p r

graft-is : {A : Type 0} (s : List LiveStep) (G F F' : Live A S) → ((r : List LiveStep) → G r ≡ F' (s ++ r)) → ((q : List LiveStep) → under s q ≡ false → F q ≡ F' q)
    → (q : List LiveStep) → graft s G F q ≡ F' q
graft-is [] G F F' inside outside q = inside q
graft-is (x ∷ s) G F F' inside outside [] = outside [] refl
graft-is {A} (x ∷ s) G F F' inside outside (t ∷ u) = at (step_eq t x) refl
    (graft-is s G (sub F x) (sub F' x) inside (λ q h. outside (x ∷ q) (ap (λ b. b && under s q) (step_eq-refl x) ∙ h)) u)
  where
    at : (b : Bool) → step_eq t x ≡ b → graft s G (sub F x) u ≡ F' (x ∷ u) → cond b (graft s G (sub F t) u) (F (t ∷ u)) ≡ F' (t ∷ u)
    at true e h =
        let P : LiveStep → Type 0 = λ y. graft s G (sub F y) u ≡ F' (y ∷ u) in subst P (sym (step_eq-true t x e)) h
    at false e h = outside (t ∷ u) (ap (λ b. b && under s u) e)

-- a list behind another
look-append : (b : Live ModelItem S) (xs ys : List (Flat ModelItem S)) (q : List LiveStep) → look b (xs ++ ys) q ≡ look (look b ys) xs q
look-append b [] ys q = refl
look-append b (x ∷ xs) ys q = ap (λ (n : LiveN). cond (steps_eq q x.steps) x.node n) (look-append b xs ys q)

-- no node has these steps
look-none : (b : Live ModelItem S) (ns : List Node) (q : List LiveStep) → ((j : ℕ) (m : Node) → slice_get ns j ≡ Some m → steps_eq q (map step_of m.steps) ≡ false) → look b (map seen ns) q ≡ b q
look-none b [] q none = refl
look-none b (n ∷ ns) q none =
    (let G : Bool → LiveN = λ v. cond v (seen_node n) (look b (map seen ns) q) in ap G (none 0 n refl)) ∙ look-none b ns q (λ j m e. none (suc j) m e)

-- another base makes no difference where it has the same
look-base : (b b' : Live ModelItem S) (xs : List (Flat ModelItem S)) (q : List LiveStep) → b q ≡ b' q → look b xs q ≡ look b' xs q
look-base b b' [] q h = h
look-base b b' (x ∷ xs) q h = ap (λ (n : LiveN). cond (steps_eq q x.steps) x.node n) (look-base b b' xs q h)

module _ (g : View) (i : ℕ) (n : Node) (f : Node → Node) (new : List Node) (there : slice_get g.nodes i ≡ Some n) (same : (f n).steps ≡ n.steps)
    (d : DistinctSteps (map shape_of g.nodes)) (k : Key)
    (mk : StreamMerge) (r : Router ModelItem) (child : Key → Network) (is : at_steps (tree_of g) (map step_of n.steps) ≡ Some (Fork mk r child))
    (absent : (j : ℕ) (m : Node) (q : List LiveStep) → slice_get g.nodes j ≡ Some m → steps_eq (map step_of n.steps ++ At k ∷ q) (map step_of m.steps) ≡ false)
    (below : (j : ℕ) (m : Node) → slice_get new j ≡ Some m → (q : List LiveStep) × (map step_of m.steps ≡ map step_of n.steps ++ At k ∷ q) × FreshAt (child k) q (seen_node m)) where
  abbrev steps : List LiveStep
  steps = map step_of n.steps

  abbrev pub g' : View
  g' = record g { nodes = changed_at i f g.nodes ++ new }

  abbrev b0 : Live ModelItem S
  b0 = base Passing (tree_of g)

  abbrev b1 : Live ModelItem S
  b1 = look b0 (map seen new)

  abbrev F : Live ModelItem S
  F = live_of g

  abbrev F' : Live ModelItem S
  F' = live_of g'

  -- the new state: the node is changed, and the new nodes are behind
  new-state : (q : List LiveStep) → F' q ≡ change steps (λ m. seen_node (f n)) (look b1 (map seen g.nodes)) q
  new-state q =
      ap (λ (fs : List (Flat ModelItem S)). look b0 fs q) (map-append seen (changed_at i f g.nodes) new)
      ∙ look-append b0 (map seen (changed_at i f g.nodes)) (map seen new) q
      ∙ ap (λ (fs : List (Flat ModelItem S)). look b1 fs q)
      (seen-changed f (λ m. seen_node (f n)) g.nodes i
      (λ m h. let u : m ≡ n = (let v : Some m ≡ Some n = sym h ∙ there in cc) in
      let P : Node → Type 0 = λ x. seen (f x) ≡ record { steps = map step_of x.steps; node = seen_node (f n) } in
      subst P (sym u) (ap (λ (s : List _). let w : Flat ModelItem S = record { steps = map step_of s; node = seen_node (f n) } in w) same)))
      ∙ look-index b1 (map seen g.nodes) i (seen n) (λ m. seen_node (f n)) (are-distinct g.nodes d) (node-there g.nodes i n there) q

  -- where no new node stands
  old : (q : List LiveStep) → ((p : List LiveStep) → steps_eq q (steps ++ At k ∷ p) ≡ false) → look b1 (map seen g.nodes) q ≡ F q
  old q none =
      look-base b1 b0 (map seen g.nodes) q
      (look-none b0 new q (λ j m e. let u : (p : List LiveStep) × (map step_of m.steps ≡ steps ++ At k ∷ p) × FreshAt (child k) p (seen_node m) = below j m e in
      ap (λ (s : List LiveStep). steps_eq q s) u.1 ∙ none u.0))

  at-steps : F' steps ≡ seen_node (f n)
  at-steps =
      new-state steps ∙ change-is steps (λ m. seen_node (f n)) (look b1 (map seen g.nodes)) steps
      ∙ (let G : Bool → LiveN = λ v. cond v (seen_node (f n)) (look b1 (map seen g.nodes) steps) in ap G (steps_eq-refl steps))

  elsewhere : (q : List LiveStep) → steps_eq q steps ≡ false → F' q ≡ look b1 (map seen g.nodes) q
  elsewhere q h =
      new-state q ∙ change-is steps (λ m. seen_node (f n)) (look b1 (map seen g.nodes)) q
      ∙ (let G : Bool → LiveN = λ v. cond v (seen_node (f n)) (look b1 (map seen g.nodes) q) in ap G h)

  append-none : (s : List LiveStep) → s ++ [] ≡ s
  append-none [] = refl
  append-none (x ∷ s) = ap (λ (q : List LiveStep). x ∷ q) (append-none s)

  outside : (q : List LiveStep) → under steps q ≡ false → F q ≡ F' q
  outside q h =
      sym (elsewhere q (ap (λ (s : List LiveStep). steps_eq q s) (sym (append-none steps)) ∙ not-under steps [] q h)
      ∙ old q (λ p. not-under steps (At k ∷ p) q h))

  -- below the node
  longer : (x : LiveStep) (q : List LiveStep) → steps_eq (steps ++ x ∷ q) steps ≡ false
  longer x q = ap (λ (s : List LiveStep). steps_eq (steps ++ x ∷ q) s) (sym (append-none steps)) ∙ same-front steps (x ∷ q) []

  pub other-kids : (j : Key) → key_eq j k ≡ false → sub (subs steps F') (At j) ≡ sub (subs steps F) (At j)
  other-kids j t = fun_ext each
    where
      each : (q : List LiveStep) → subs steps F' (At j ∷ q) ≡ subs steps F (At j ∷ q)
      each q =
          subs-at steps (At j ∷ q) F' ∙ elsewhere (steps ++ At j ∷ q) (longer (At j) q)
          ∙ old (steps ++ At j ∷ q) (λ p. same-front steps (At j ∷ q) (At k ∷ p) ∙ ap (λ b. b && steps_eq q p) t)
          ∙ sym (subs-at steps (At j ∷ q) F)

  pub fresh-before : (part (child k)).fresh (sub (subs steps F) (At k))
  fresh-before =
      fresh-from (child k) (sub (subs steps F) (At k))
      (λ q. subst (λ (m : LiveN). FreshAt (child k) q m)
      (sym (subs-at steps (At k ∷ q) F ∙ look-none b0 g.nodes (steps ++ At k ∷ q) (λ j m e. absent j m q e)))
      (base-at Passing (tree_of g) steps (At k ∷ q) (Fork mk r child) is))

  among-new : (q : List LiveStep) (ns : List Node) → ((j : ℕ) (m : Node) → slice_get ns j ≡ Some m → (p : List LiveStep) × (map step_of m.steps ≡ steps ++ At k ∷ p) × FreshAt (child k) p (seen_node m))
      → FreshAt (child k) q (look b0 (map seen ns) (steps ++ At k ∷ q))
  among-new q [] h = base-at Passing (tree_of g) steps (At k ∷ q) (Fork mk r child) is
  among-new q (m ∷ ns) h = at (steps_eq (steps ++ At k ∷ q) (map step_of m.steps)) refl (h 0 m refl) (among-new q ns (λ j x e. h (suc j) x e))
    where
      tail-same : (p : List LiveStep) → steps_eq (At k ∷ q) (At k ∷ p) ≡ true → q ≡ p
      tail-same p e = steps_eq-true q p (ap (λ b. b && steps_eq q p) (sym (key_eq-refl k)) ∙ e)

      at : (b : Bool) → steps_eq (steps ++ At k ∷ q) (map step_of m.steps) ≡ b → (p : List LiveStep) × (map step_of m.steps ≡ steps ++ At k ∷ p) × FreshAt (child k) p (seen_node m)
          → FreshAt (child k) q (look b0 (map seen ns) (steps ++ At k ∷ q)) → FreshAt (child k) q (cond b (seen_node m) (look b0 (map seen ns) (steps ++ At k ∷ q)))
      at false e u later = later
      at true e (p, s, fr) later =
          subst (λ (w : List LiveStep). FreshAt (child k) w (seen_node m))
          (sym (tail-same p (sym (same-front steps (At k ∷ q) (At k ∷ p)) ∙ ap (λ (w : List LiveStep). steps_eq (steps ++ At k ∷ q) w) (sym s) ∙ e))) fr

  pub fresh-after : (part (child k)).fresh (sub (subs steps F') (At k))
  fresh-after =
      fresh-from (child k) (sub (subs steps F') (At k))
      (λ q. subst (λ (m : LiveN). FreshAt (child k) q m)
      (sym (subs-at steps (At k ∷ q) F' ∙ elsewhere (steps ++ At k ∷ q) (longer (At k) q)
      ∙ look-none b1 g.nodes (steps ++ At k ∷ q) (λ j m e. absent j m q e)))
      (among-new q new below))

  pub root-before : subs steps F [] ≡ F steps
  root-before = subs-at steps [] F ∙ ap F (append-none steps)

  pub root-after : subs steps F' [] ≡ seen_node (f n)
  root-after = subs-at steps [] F' ∙ ap F' (append-none steps) ∙ at-steps

  -- a move of the part is one of the whole
  pub whole-move : (part (Fork mk r child)).moves (subs steps F) [] (subs steps F') → Move (part (tree_of g)) (running g) (running g')
  whole-move m =
      let T : LiveTarget = (part (tree_of g)).target steps in
      let P : Live ModelItem S → Type 0 = λ l. (part (tree_of g)).moves F [] l in
      let Q : List (LiveEntry ModelItem) → Type 0 = λ o. (part (tree_of g)).moves F o (live_send T [] (graft steps (subs steps F') F)) in
      Moves [] refl
      (subst P (send-nothing T (graft steps (subs steps F') F) ∙ fun_ext (graft-is steps (subs steps F') F F' (λ q. subs-at steps q F') outside))
      (subst Q (none-left T) (lifts (tree_of g) steps (Fork mk r child) F [] (subs steps F') is m)))
      (sym (append-nil (erased g.ready))) refl
