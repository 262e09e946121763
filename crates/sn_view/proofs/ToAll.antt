-- A dispatcher that changes and puts entries at the nodes of children: one move.
use Rattle.std.proofs.Common.{◌≡◌, ℕ, suc, Bool, true, false, cond, ◌&&◌, List, [], ◌∷◌, ◌++◌, map, Some, refl, sym, ap, ◌∙◌, subst, append-nil, inr}
use Rattle.std.specs.Prelude.{slice_get}
use Rattle.sn_streams.specs.Forks.{Router, Merge as StreamMerge}
use Rattle.sn_streams.specs.Keys.{Key, key_eq, AreDistinct, is_among}
use Rattle.sn_streams.specs.Keys as key
use Rattle.sn_streams.specs.Trees.{Fork}
use Rattle.sn_net.specs.Cell.{Passing}
use Rattle.sn_net.specs.Dispatchers.{Network}
use Rattle.sn_net.specs.Item.{ModelItem}
use Rattle.sn_model.specs.declared.step.Step.{Step}
use Rattle.sn_model.specs.declared.step.Step.TheVariants as step
use Rattle.sn_view.specs.View.{Entry, Child, ToNode, Node, View, at_node, waits_more}
use Rattle.sn_view.specs.Next.{send, plain, to_all}
use Rattle.sn_live.specs.Entries.{Entry as LiveEntry}
use Rattle.sn_live.specs.Live.{Step as LiveStep, At, Live, change, subs, step_eq, waits_more as live_waits_more}
use Rattle.sn_live.specs.Parts.{Part, part}
use Rattle.sn_live.specs.Flat.{Flat, look, at_index, base, at_steps, steps_eq, StepsAt}
use Rattle.sn_live.specs.Runs.{Running, Move, Moves}
use Rattle.sn_live.proofs.Telling.{tell, tell_flat, told, AllAt, flat-tell}
use Rattle.sn_live.proofs.Within.{at_steps-append}
use Rattle.sn_view.specs.Seen.{step_of, erased, seen_node, seen, live_of, tree_of, running}
use Rattle.sn_view.specs.Placed.{Shape, shape_of, door_of, Stands, DistinctSteps, HasSteps, Follows}
use Rattle.sn_view.proofs.Lists.{there-map}
use Rattle.sn_view.proofs.Seeing.{seen-waits, are-distinct, node-there, seen-changed}
use Rattle.sn_view.proofs.Giving.{S, LiveN, seen-one, same-shapes, steps-there, send-shapes}

abbrev pub doors_of : List Child → List (Key × ℕ)
doors_of cs = map (λ (c : Child). (c.key, c.entry)) cs

to-all-running : (c : Key → Part ModelItem S) (o : List (Entry ModelItem)) (cs : List Child) (g : View)
    → running (to_all cs o g) ≡ record (running g) { live = look (base Passing (tree_of g)) (tell_flat c (erased o) (doors_of cs) (map seen g.nodes)) }
to-all-running c o [] g = refl
to-all-running c o (x ∷ cs) g =
    to-all-running c o cs (send (ToNode x.entry) o g)
    ∙ ap (λ (ns : List (Flat ModelItem S)). record (running g) { live = look (base Passing (tree_of g)) (tell_flat c (erased o) (doors_of cs) ns) })
    (seen-changed (waits_more (plain o)) (live_waits_more (erased o)) g.nodes x.entry
    (λ n e. ap (λ (m : LiveN). let f : Flat ModelItem S = record { steps = map step_of n.steps; node = m } in f) (seen-waits o n)))

-- the children's first nodes are at their entries
all-at : (c : Key → Part ModelItem S) (o : List (LiveEntry ModelItem)) (ns : List (Flat ModelItem S)) (s : List LiveStep) (cs : List Child)
    → ((j : ℕ) (x : Child) → slice_get cs j ≡ Some x → StepsAt ns x.entry (s ++ At x.key ∷ (c x.key).entry)) → AllAt c o ns s (doors_of cs)
all-at c o ns s [] h = tt
all-at c o ns s (x ∷ cs) h = (h 0 x refl, all-at c o ns s cs (λ j y e. h (suc j) y e))

module _ (g : View) (i : ℕ) (n : Node) (there : slice_get g.nodes i ≡ Some n) (d : DistinctSteps (map shape_of g.nodes))
    (stands : Stands (tree_of g) g.run (map shape_of g.nodes) (shape_of n))
    (mk : StreamMerge) (r : Router ModelItem) (child : Key → Network) (is : at_steps (tree_of g) (map step_of n.steps) ≡ Some (Fork mk r child)) where
  abbrev steps : List LiveStep
  steps = map step_of n.steps

  abbrev parts : Key → Part ModelItem S
  parts k = part (child k)

  -- the first node of a child that is not the first
  pub entry-there : (f : Node → Node) → shape_of (f n) ≡ shape_of n → (j : ℕ) (x : Child) → slice_get n.children (suc j) ≡ Some x
      → StepsAt (map seen (at_node i f g).nodes) x.entry (steps ++ At x.key ∷ (parts x.key).entry)
  entry-there f same j x e =
      let door : (v : Network) × (at_steps (tree_of g) (steps ++ At x.key ∷ []) ≡ Some v) × HasSteps (map shape_of g.nodes) x.entry (steps ++ At x.key ∷ (part v).entry) =
      stands.doors j (door_of x) (there-map door_of n.children (suc j) x e) in
      let v_is : door.0 ≡ child x.key = (let u : Some door.0 ≡ Some (child x.key) = sym door.1 ∙ at_steps-append (tree_of g) steps (At x.key ∷ []) (fork) is ∙ at_key in cc) in
      steps-there (at_node i f g).nodes x.entry (steps ++ At x.key ∷ (parts x.key).entry)
      (subst (λ (ss : List Shape). HasSteps ss x.entry (steps ++ At x.key ∷ (parts x.key).entry)) (sym (same-shapes g i n f there same))
      (subst (λ (t : Network). HasSteps (map shape_of g.nodes) x.entry (steps ++ At x.key ∷ (part t).entry)) v_is door.2))
    where
      fork : Network
      fork = Fork mk r child

      at_key : at_steps (Fork mk r child) (At x.key ∷ []) ≡ Some (child x.key)
      at_key = refl

  pub tells-move : (f : Node → Node) (cs : List Child) (o : List (Entry ModelItem)) → shape_of (f n) ≡ shape_of n
      → ((j : ℕ) (x : Child) → slice_get cs j ≡ Some x → (m : ℕ) × (slice_get n.children (suc m) ≡ Some x))
      → (part (Fork mk r child)).moves (subs steps (live_of g)) []
      (tell parts (erased o) (told parts (erased o) (doors_of cs)) (change [] (λ m. seen_node (f n)) (subs steps (live_of g))))
      → Move (part (tree_of g)) (running g) (running (to_all cs o (at_node i f g)))
  tells-move f cs o same children m =
      let one : map seen (at_node i f g).nodes ≡ at_index i (λ l. seen_node (f n)) (map seen g.nodes) = seen-one g i n f there same in
      let P : Running ModelItem S → Type 0 = λ q. Move (part (tree_of g)) (running g) q in
      let Q : List (Flat ModelItem S) → Type 0 = λ ns. (part (tree_of g)).moves (live_of g) [] (look (base Passing (tree_of g)) (tell_flat parts (erased o) (doors_of cs) ns)) in
      let at : AllAt parts (erased o) (at_index i (λ l. seen_node (f n)) (map seen g.nodes)) steps (doors_of cs) =
      all-at parts (erased o) (at_index i (λ l. seen_node (f n)) (map seen g.nodes)) steps cs
      (λ j x e. subst (λ (ns : List (Flat ModelItem S)). StepsAt ns x.entry (steps ++ At x.key ∷ (parts x.key).entry)) one
      (entry-there f same (children j x e).0 x (children j x e).1)) in
      subst P (sym (to-all-running parts o cs (at_node i f g)))
      (Moves [] refl
      (subst Q (sym one)
      (flat-tell (tree_of g) (base Passing (tree_of g)) (map seen g.nodes) i (seen n) (Fork mk r child) (λ l. seen_node (f n)) parts (erased o) (doors_of cs)
      (are-distinct g.nodes d) (node-there g.nodes i n there) is at m))
      (sym (append-nil (erased g.ready))) refl)

to-all-shapes : (o : List (Entry ModelItem)) (cs : List Child) (g : View) → map shape_of (to_all cs o g).nodes ≡ map shape_of g.nodes
to-all-shapes o [] g = refl
to-all-shapes o (x ∷ cs) g = to-all-shapes o cs (send (ToNode x.entry) o g) ∙ send-shapes (ToNode x.entry) o g

to-all-run : (o : List (Entry ModelItem)) (cs : List Child) (g : View) → (to_all cs o g).run ≡ g.run
to-all-run o [] g = refl
to-all-run o (x ∷ cs) g = to-all-run o cs (send (ToNode x.entry) o g)

pub tells-follows : (g : View) (i : ℕ) (n : Node) (there : slice_get g.nodes i ≡ Some n) (d : DistinctSteps (map shape_of g.nodes))
    (stands : Stands (tree_of g) g.run (map shape_of g.nodes) (shape_of n))
    (mk : StreamMerge) (r : Router ModelItem) (child : Key → Network) (is : at_steps (tree_of g) (map step_of n.steps) ≡ Some (Fork mk r child))
    (f : Node → Node) (cs : List Child) (o : List (Entry ModelItem)) → shape_of (f n) ≡ shape_of n
    → ((j : ℕ) (x : Child) → slice_get cs j ≡ Some x → (m : ℕ) × (slice_get n.children (suc m) ≡ Some x))
    → (part (Fork mk r child)).moves (subs (map step_of n.steps) (live_of g)) []
    (tell (λ k. part (child k)) (erased o) (told (λ k. part (child k)) (erased o) (doors_of cs)) (change [] (λ m. seen_node (f n)) (subs (map step_of n.steps) (live_of g))))
    → Follows g (to_all cs o (at_node i f g))
tells-follows g i n there d stands mk r child is f cs o same children m = record {
  moves = inr (tells-move g i n there d stands mk r child is f cs o same children m);
  shapes = to-all-shapes o cs (at_node i f g) ∙ same-shapes g i n f there same;
  run = to-all-run o cs (at_node i f g);
}

-- No node stands where items pass by.
own-no-step : (x : Step) → step_eq (At key.Own) (step_of x) ≡ false
own-no-step step.Left = refl
own-no-step step.Right = refl
own-no-step (step.Branch i) = refl
own-no-step step.Inside = refl
own-no-step (step.Value v) = refl

no-steps : (q p : List LiveStep) (s : List Step) → steps_eq (q ++ At key.Own ∷ p) (map step_of s) ≡ false
no-steps [] p [] = refl
no-steps [] p (x ∷ s) = ap (λ b. b && steps_eq p (map step_of s)) (own-no-step x)
no-steps (t ∷ q) p [] = refl
no-steps (t ∷ q) p (x ∷ s) = ap (λ b. step_eq t (step_of x) && b) (no-steps q p s) ∙ at (step_eq t (step_of x))
  where
    at : (b : Bool) → (b && false) ≡ false
    at true = refl
    at false = refl

pub look-own : (b : Live ModelItem S) (q p : List LiveStep) (ns : List Node) → look b (map seen ns) (q ++ At key.Own ∷ p) ≡ b (q ++ At key.Own ∷ p)
look-own b q p [] = refl
look-own b q p (n ∷ ns) =
    (let G : Bool → LiveN = λ v. cond v (seen_node n) (look b (map seen ns) (q ++ At key.Own ∷ p)) in ap G (no-steps q p n.steps)) ∙ look-own b q p ns
