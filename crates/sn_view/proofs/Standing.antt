-- The nodes that the plan of a network makes stand as the network wants.
use Rattle.std.proofs.Common.{◌≡◌, ℕ, zero, suc, ◌+◌, ◌<◌, ◌==◌, Bool, true, false, cond, List, [], ◌∷◌, ◌++◌, map, length, Option, Some, None, refl, sym, ap, ◌∙◌, subst, subst₂, arith, append-nil, ◌⊎◌, inl, inr}
use Rattle.std.proofs.Math.ListN.{length-map}
use Rattle.std.proofs.lemmas.List.{map-append}
use Rattle.std.specs.Prelude.{slice_get, unwrap_or}
use Rattle.std.specs.Option.{option_map, option_and_then}
use Rattle.sn_streams.specs.Forks.{Router, Merge as StreamMerge, Free, Deterministic}
use Rattle.sn_streams.specs.Keys.{Key, key_eq, is_among, AreDistinct}
use Rattle.sn_streams.proofs.Keys.{key_eq-refl}
use Rattle.sn_record.specs.LabelSet.{Labels}
use Rattle.sn_streams.specs.Keys as key
use Rattle.sn_streams.specs.Trees.{Series, Fork, passing, with_own}
use Rattle.sn_net.specs.declared.net.Merge.{Merge as MergeKind}
use Rattle.sn_net.specs.declared.net.Merge.TheVariants as kind
use Rattle.sn_net.specs.declared.net.Net.{Net}
use Rattle.sn_net.specs.declared.net.Net.TheOpen.{Net-F}
use Rattle.sn_net.specs.declared.net.Net.TheFolds.{fold-roll-Net, ind-Net, map-Net}
use Rattle.sn_net.specs.declared.net.Net.TheViews.{roll-Net, out-Net, out-roll-Net}
use Rattle.sn_net.specs.Cell.{Passing, new_cell}
use Rattle.sn_net.specs.Dispatchers.{Network, router, merge_of, branch_child}
use Rattle.sn_net.specs.Item.{ModelItem}
use Rattle.sn_net.specs.Route.{of_record, choice_key}
use Rattle.sn_model.specs.declared.run.Run.{Run}
use Rattle.sn_model.specs.Meaning.{Setting, tree, tree_step}
use Rattle.sn_model.specs.Run.{net_of, setting_of}
use Rattle.sn_model.specs.declared.step.Step.{Step}
use Rattle.sn_model.specs.declared.step.Step.TheVariants as step
use Rattle.sn_view.specs.View.{State, Alone, Cell, Child, Target, Out, ToNode, ToChild, Node}
use Rattle.sn_view.specs.Parts.{Plan, part_at, part_below, alone, new_node, own_child, new_fork, dispatcher, unfolding_fork, branch_children, branch_nodes, choice_plan, serial_plan, plan, plan_step}
use Rattle.sn_live.specs.Live.{Step as LiveStep, Left, Right, At, Target as LiveTarget, Out as LiveOut, ToNode as LiveToNode, ToKept}
use Rattle.sn_live.specs.Parts.{part, feeds}
use Rattle.sn_live.specs.Flat.{at_steps}
use Rattle.sn_live.proofs.Within.{at_steps-append, target-append, target-root, from_target}
use Rattle.sn_view.specs.Seen.{step_of}
use Rattle.sn_view.specs.Placed.{Kind, IsFreely, kind_of, fork_kind, IsFork, HasKind, fit, Shape, shape_of, Door, door_of, HasSteps, HasKey, HasBranches, Sends, Stands, ArePlaced}
use Rattle.sn_view.proofs.Lists.{there-map, there-unmap}
use Rattle.sn_view.proofs.Children.{keys-of-doors}
use Rattle.sn_view.proofs.Shaping.{Shaped, HasRoot, left-there, right-there, split-there, further}
use Rattle.sn_view.proofs.Plans.{all-Shaped}

-- the part behind one number more
pub part-further : (net : Net) (path : List ℕ) (i : ℕ) (n : Net) → part_at net path ≡ Some n → part_at net (path ++ i ∷ []) ≡ part_below (out-Net n) i
part-further net [] i n e =
    let u : net ≡ n = cc in
    ap (λ (m : Net). option_and_then (λ part. Some part) (part_below (out-Net m) i)) u ∙ at (part_below (out-Net n) i)
  where
    at : (o : Option Net) → option_and_then (λ part. Some part) o ≡ o
    at None = refl
    at (Some x) = refl
part-further net (j ∷ path) i n e = at (part_below (out-Net net) j) (λ x h. part-further x path i n h) e
  where
    at : (o : Option Net) → ((x : Net) → part_at x path ≡ Some n → part_at x (path ++ i ∷ []) ≡ part_below (out-Net n) i)
        → option_and_then (λ part. part_at part path) o ≡ Some n → option_and_then (λ part. part_at part (path ++ i ∷ [])) o ≡ part_below (out-Net n) i
    at None later h = cc
    at (Some x) later h = later x h

-- these shapes stand in the whole list from the b-th on
abbrev pub FromOn : List Shape → ℕ → List Shape → Type 0
FromOn all b shapes = (j : ℕ) (m : Shape) → slice_get shapes j ≡ Some m → slice_get all (b + j) ≡ Some m

module _ (run : Run) where
  abbrev s : Setting
  s = setting_of run

  pub record Standing (net : Net) (u : Network) (p : Plan) : Type 0 where
    pub stand : (t : Network) (all : List Shape) (st : List Step) (path : List ℕ) (goes : Target) (b : ℕ)
        → part_at (net_of run) path ≡ Some net → at_steps t (map step_of st) ≡ Some u → Sends all goes ((part t).target (map step_of st))
        → FromOn all b (map shape_of (p.nodes st path goes b)) → (j : ℕ) (m : Node) → slice_get (p.nodes st path goes b) j ≡ Some m → Stands t run all (shape_of m)

  form-there : (z : Net-F Net) (path : List ℕ) → part_at (net_of run) path ≡ Some (roll-Net z) → option_map out-Net (part_at (net_of run) path) ≡ Some z
  form-there z path h = ap (option_map out-Net) h ∙ ap (λ (f : Net-F Net). let o : Option (Net-F Net) = Some f in o) (out-roll-Net z)

  -- a component
  component-Standing : (z : Net-F Net) (state : State) (u : Network) → ((left : ℕ) → u ≡ fit s z left) → HasKind z 0 (kind_of state) → (IsFork (kind_of state) → ⊥) → HasBranches z [] → Standing (roll-Net z) u (alone state)
  component-Standing z state u is k no_fork whole = record {
    stand = λ t all st path goes b hp ha hg within j m e.
        let i : new_node state st path goes ≡ m = only j m (new_node state st path goes) e in
        subst (λ (n : Node). Stands t run all (shape_of n)) i
        (record {
          form = z;
          is_form = form-there z path hp;
          fits = ha ∙ ap (λ (v : Network). let o : Option Network = Some v in o) (is 0);
          has_kind = k;
          sends = hg;
          keys = tt;
          doors = λ c d h. none c d h;
          whole = whole;
          own_first = λ f. absurd (no_fork f);
        });
  }
    where
      only : (j : ℕ) (m n : Node) → slice_get (n ∷ []) j ≡ Some m → n ≡ m
      only zero m n e = cc
      only (suc j) m n e = cc

      none : {X : Type 0} (c : ℕ) (d : Door) → slice_get [] (suc c) ≡ Some d → X
      none c d h = cc

  -- two in series
  module _ (left right : Net) (p q : Plan) (g : Shaped (tree s left) p) (h : Shaped (tree s right) q)
      (x : Standing left (tree s left) p) (y : Standing right (tree s right) q) where
    abbrev z : Net-F Net
    z = Net-F.Serial left right

    abbrev lefts : List Step → List ℕ → ℕ → List Node
    lefts st path b = p.nodes (st ++ step.Left ∷ []) (path ++ 0 ∷ []) (ToNode (b + p.width)) b

    abbrev rights : List Step → List ℕ → Target → ℕ → List Node
    rights st path goes b = q.nodes (st ++ step.Right ∷ []) (path ++ 1 ∷ []) goes (b + p.width)

    to-right : (t : Network) (st : List Step) → at_steps t (map step_of st) ≡ Some (Series (tree s left) (tree s right))
        → (part t).target (map step_of (st ++ step.Left ∷ [])) ≡ LiveToNode (map step_of st ++ Right ∷ (part (tree s right)).entry)
    to-right t st ha =
        ap (part t).target (map-append step_of st (step.Left ∷ [])) ∙ target-append t (map step_of st) (Left ∷ []) (Series (tree s left) (tree s right)) ha
        ∙ ap (λ (v : LiveTarget). from_target ((part t).target (map step_of st)) (map step_of st) (feeds (LiveToNode (Right ∷ (part (tree s right)).entry)) Left v)) (target-root (tree s left))

    to-out : (t : Network) (st : List Step) → at_steps t (map step_of st) ≡ Some (Series (tree s left) (tree s right))
        → (part t).target (map step_of (st ++ step.Right ∷ [])) ≡ (part t).target (map step_of st)
    to-out t st ha =
        ap (part t).target (map-append step_of st (step.Right ∷ [])) ∙ target-append t (map step_of st) (Right ∷ []) (Series (tree s left) (tree s right)) ha
        ∙ ap (λ (v : LiveTarget). from_target ((part t).target (map step_of st)) (map step_of st) (feeds LiveOut Right v)) (target-root (tree s right))

    right-within : (all : List Shape) (st : List Step) (path : List ℕ) (goes : Target) (b : ℕ) → FromOn all b (map shape_of (lefts st path b ++ rights st path goes b))
        → FromOn all (b + p.width) (map shape_of (rights st path goes b))
    right-within all st path goes b within i k u =
        ap (λ (n : ℕ). slice_get all n) place
        ∙ within (length (map shape_of (lefts st path b)) + i) k
        (ap (λ (ms : List Shape). slice_get ms (length (map shape_of (lefts st path b)) + i)) (map-append shape_of (lefts st path b) (rights st path goes b))
        ∙ right-there (map shape_of (lefts st path b)) (map shape_of (rights st path goes b)) i k u)
      where
        place : b + p.width + i ≡ b + (length (map shape_of (lefts st path b)) + i)
        place = let w : length (map shape_of (lefts st path b)) ≡ p.width = length-map (lefts st path b) shape_of ∙ g.width (st ++ step.Left ∷ []) (path ++ 0 ∷ []) (ToNode (b + p.width)) b in omega (arith, w)

    right-first : (all : List Shape) (st : List Step) (path : List ℕ) (goes : Target) (b : ℕ) → FromOn all b (map shape_of (lefts st path b ++ rights st path goes b))
        → HasSteps all (b + p.width) (map step_of st ++ Right ∷ (part (tree s right)).entry)
    right-first all st path goes b within =
        let f : (m : Node) × (slice_get (rights st path goes b) 0 ≡ Some m) × (map step_of m.steps ≡ map step_of (st ++ step.Right ∷ []) ++ (part (tree s right)).entry) =
        h.first (st ++ step.Right ∷ []) (path ++ 1 ∷ []) goes (b + p.width) in (
          shape_of f.0,
          ap (λ (n : ℕ). slice_get all n) (omega arith) ∙ right-within all st path goes b within 0 (shape_of f.0) (there-map shape_of (rights st path goes b) 0 f.0 f.1),
          f.2 ∙ further st step.Right (part (tree s right)).entry,
        )

    pub series-Standing : Standing (roll-Net z) (Series (tree s left) (tree s right)) (serial_plan p q)
    series-Standing = record {
      stand = λ t all st path goes b hp ha hg within j m e. elim (split-there (lefts st path b) (rights st path goes b) j m e) [
        | inl c ↦ x.stand t all (st ++ step.Left ∷ []) (path ++ 0 ∷ []) (ToNode (b + p.width)) b
            (part-further (net_of run) path 0 (roll-Net z) hp ∙ ap (λ (f : Net-F Net). part_below f 0) (out-roll-Net z))
            (ap (at_steps t) (map-append step_of st (step.Left ∷ [])) ∙ at_steps-append t (map step_of st) (Left ∷ []) (Series (tree s left) (tree s right)) ha)
            (let P : LiveTarget → Type 0 = λ v. Sends all (ToNode (b + p.width)) v in
            subst P (sym (to-right t st ha)) (right-first all st path goes b within))
            (λ i k u. within i k (ap (λ (ms : List Shape). slice_get ms i) (map-append shape_of (lefts st path b) (rights st path goes b))
            ∙ left-there (map shape_of (lefts st path b)) (map shape_of (rights st path goes b)) i k u)) j m c
        | inr c ↦ y.stand t all (st ++ step.Right ∷ []) (path ++ 1 ∷ []) goes (b + p.width)
            (part-further (net_of run) path 1 (roll-Net z) hp ∙ ap (λ (f : Net-F Net). part_below f 1) (out-roll-Net z))
            (ap (at_steps t) (map-append step_of st (step.Right ∷ [])) ∙ at_steps-append t (map step_of st) (Right ∷ []) (Series (tree s left) (tree s right)) ha)
            (let P : LiveTarget → Type 0 = λ v. Sends all goes v in subst P (sym (to-out t st ha)) hg)
            (λ i k u. right-within all st path goes b within i k u) c.0 m c.1
      ];
    }

  -- a dispatcher's kind
  pub kind-of-fork : (m : MergeKind) (cs : List Child) → kind_of (new_fork m cs) ≡ fork_kind (merge_of m) (length (map door_of cs))
  kind-of-fork kind.Free cs = ap (λ (n : ℕ). IsFreely n false) (length-map cs (λ (c : Child). 0) ∙ sym (length-map cs door_of))
  kind-of-fork kind.Det cs = refl

  -- a star or a split: one node
  unfolding-Standing : (z : Net-F Net) (m : MergeKind) (left : ℕ) (u : Network) → u ≡ fit s z left → ((k : Kind) (n : ℕ) → k ≡ fork_kind (merge_of m) n → HasKind z n k) → HasBranches z (key.Own ∷ []) → Standing (roll-Net z) u (unfolding_fork m left)
  unfolding-Standing z m left u is k whole = record {
    stand = λ t all st path goes b hp ha hg within j n e.
        let i : dispatcher m left (own_child b ∷ []) st path goes ≡ n = only j n (dispatcher m left (own_child b ∷ []) st path goes) e in
        subst (λ (x : Node). Stands t run all (shape_of x)) i
        (record {
          form = z;
          is_form = form-there z path hp;
          fits = ha ∙ ap (λ (v : Network). let o : Option Network = Some v in o) is;
          has_kind = k (kind_of (new_fork m (own_child b ∷ []))) 1 (kind-of-fork m (own_child b ∷ []));
          sends = hg;
          keys = (refl, tt);
          doors = λ c d h. none c d (door_of (own_child b)) h;
          whole = whole;
          own_first = λ f. (door_of (own_child b), refl, refl);
        });
  }
    where
      only : (j : ℕ) (n x : Node) → slice_get (x ∷ []) j ≡ Some n → x ≡ n
      only zero n x e = cc
      only (suc j) n x e = cc

      none : {X : Type 0} (c : ℕ) (d x : Door) → slice_get (x ∷ []) (suc c) ≡ Some d → X
      none c d x h = cc

  -- the doors of the branches
  not-own-door : (i base : ℕ) (bs : List Plan) → is_among key.Own (map (λ (d : Door). d.key) (map door_of (branch_children i base bs))) ≡ false
  not-own-door i base [] = refl
  not-own-door i base (x ∷ bs) = not-own-door (i + 1) (base + x.width) bs

  not-before : (c i base : ℕ) (bs : List Plan) → c < i → is_among (key.Branch c) (map (λ (d : Door). d.key) (map door_of (branch_children i base bs))) ≡ false
  not-before c i base [] h = refl
  not-before c i base (x ∷ bs) h =
      (let F : Bool → Bool = λ b. cond b true (is_among (key.Branch c) (map (λ (d : Door). d.key) (map door_of (branch_children (i + 1) (base + x.width) bs)))) in ap F differ)
      ∙ not-before c (i + 1) (base + x.width) bs (omega (arith, h))
    where
      differ : (c == i) ≡ false
      differ = grind (arith, h)

  distinct-doors : (i base : ℕ) (bs : List Plan) → AreDistinct (map (λ (d : Door). d.key) (map door_of (branch_children i base bs)))
  distinct-doors i base [] = tt
  distinct-doors i base (x ∷ bs) = (not-before i (i + 1) (base + x.width) bs (omega arith), distinct-doors (i + 1) (base + x.width) bs)

  door-at : (i base : ℕ) (bs : List Plan) (c : ℕ) (p : Plan) → slice_get bs c ≡ Some p → HasKey (map door_of (branch_children i base bs)) c (key.Branch (i + c))
  door-at i base [] c p e = cc
  door-at i base (x ∷ bs) zero p e = (record { key = key.Branch i; entry = base }, refl, ap (λ (n : ℕ). key.Branch n) (omega arith))
  door-at i base (x ∷ bs) (suc c) p e =
      let h : HasKey (map door_of (branch_children (i + 1) (base + x.width) bs)) c (key.Branch (i + 1 + c)) = door-at (i + 1) (base + x.width) bs c p e in
      (h.0, h.1, h.2 ∙ ap (λ (n : ℕ). key.Branch n) (omega arith))

  among-door : (ds : List Door) (c : ℕ) (k : Key) → HasKey ds c k → is_among k (map (λ (d : Door). d.key) ds) ≡ true
  among-door [] c k (d, e, h) = cc
  among-door (x ∷ ds) zero k (d, e, h) =
      let u : x ≡ d = cc in
      let F : Bool → Bool = λ b. cond b true (is_among k (map (λ (d : Door). d.key) ds)) in
      ap F (ap (key_eq k) (ap (λ (y : Door). y.key) u ∙ h) ∙ key_eq-refl k)
  among-door (x ∷ ds) (suc c) k (d, e, h) = at (key_eq k x.key) (among-door ds c k (d, e, h))
    where
      at : (b : Bool) → is_among k (map (λ (d : Door). d.key) ds) ≡ true → cond b true (is_among k (map (λ (d : Door). d.key) ds)) ≡ true
      at true u = refl
      at false u = u

  pub fork-target : (mk : StreamMerge) (r : Router ModelItem) (child : Key → Network) (k : Key) → (part (Fork mk r child)).target (At k ∷ []) ≡ feeds (ToKept [] k) (At k) ((part (child k)).target [])
  fork-target Free r child k = refl
  fork-target Deterministic r child k = refl

  -- a choice
  module _ (place : ℕ) (merge : MergeKind) (branches : List Net) (faces : List (List Labels))
      (each : (c : ℕ) (n : Net) → slice_get branches c ≡ Some n → Standing n (tree s n) (plan s.depth n)) where
    abbrev zc : Net-F Net
    zc = Net-F.Choice place merge branches faces

    abbrev rc : Router ModelItem
    rc = router place (of_record (choice_key faces))

    abbrev child : Key → Network
    child = with_own rc Passing (branch_child (map (tree s) branches) (passing rc Passing))

    abbrev uc : Network
    uc = Fork (merge_of merge) rc child

    abbrev plans : List Net → List Plan
    plans ns = map (plan s.depth) ns

    child-is : (i : ℕ) (n : Net) → slice_get branches i ≡ Some n → child (key.Branch i) ≡ tree s n
    child-is i n e = ap (λ (o : Option Network). unwrap_or o (passing rc Passing)) (there-map (tree s) branches i n e)

    module _ (t : Network) (all : List Shape) (st : List Step) (path : List ℕ) (goes : Target) (b : ℕ)
        (hp : part_at (net_of run) path ≡ Some (roll-Net zc)) (ha : at_steps t (map step_of st) ≡ Some uc) (hg : Sends all goes ((part t).target (map step_of st))) where
      abbrev D : Node
      D = dispatcher merge 0 (own_child b ∷ branch_children 0 (b + 1) (plans branches)) st path goes

      abbrev pre : List LiveStep
      pre = map step_of st

      doors-distinct : AreDistinct (map (λ (d : Door). d.key) (shape_of D).doors)
      doors-distinct = (not-own-door 0 (b + 1) (plans branches), distinct-doors 0 (b + 1) (plans branches))

      at-branch : (i : ℕ) (n : Net) → slice_get branches i ≡ Some n → at_steps t (pre ++ At (key.Branch i) ∷ []) ≡ Some (tree s n)
      at-branch i n e =
          at_steps-append t pre (At (key.Branch i) ∷ []) uc ha ∙ ap (λ (v : Network). let o : Option Network = Some v in o) (child-is i n e)

      -- what a branch gives is kept of its child
      sends-kept : (i : ℕ) (n : Net) → slice_get branches i ≡ Some n → slice_get all b ≡ Some (shape_of D) → Sends all (ToChild b (i + 1)) ((part t).target (map step_of (st ++ step.Branch i ∷ [])))
      sends-kept i n e here =
          let more : suc i ≡ i + 1 = omega arith in
          subst₂ (λ (c : ℕ) (v : LiveTarget). Sends all (ToChild b c) v) more
          (sym (ap (part t).target (map-append step_of st (step.Branch i ∷ [])) ∙ target-append t pre (At (key.Branch i) ∷ []) uc ha
          ∙ ap (λ (v : LiveTarget). from_target ((part t).target pre) pre v)
          (fork-target (merge_of merge) rc child (key.Branch i) ∙ ap (feeds (ToKept [] (key.Branch i)) (At (key.Branch i))) (target-root (child (key.Branch i))))))
          (shape_of D, here, sym (append-nil pre), key-there, (door_of (own_child b), refl, refl), doors-distinct)
        where
          key-there : HasKey (shape_of D).doors (suc i) (key.Branch i)
          key-there =
              let h : HasKey (map door_of (branch_children 0 (b + 1) (plans branches))) i (key.Branch (0 + i)) = door-at 0 (b + 1) (plans branches) i (plan s.depth n) (there-map (plan s.depth) branches i n e) in
              (h.0, h.1, h.2 ∙ ap (λ (n : ℕ). key.Branch n) (omega arith))

      abbrev Suffix : ℕ → List Net → Type 0
      Suffix i ns = (c : ℕ) (n : Net) → slice_get ns c ≡ Some n → slice_get branches (i + c) ≡ Some n

      here-of : (i : ℕ) (n : Net) (ns : List Net) → Suffix i (n ∷ ns) → slice_get branches i ≡ Some n
      here-of i n ns h = ap (λ (j : ℕ). slice_get branches j) (omega arith) ∙ h 0 n refl

      rest-of : (i : ℕ) (n : Net) (ns : List Net) → Suffix i (n ∷ ns) → Suffix (i + 1) ns
      rest-of i n ns h c m e = ap (λ (j : ℕ). slice_get branches j) (omega arith) ∙ h (suc c) m e

      abbrev first-nodes : ℕ → ℕ → Net → List Node
      first-nodes i base n = (plan s.depth n).nodes (st ++ step.Branch i ∷ []) (path ++ i ∷ []) (ToChild b (i + 1)) base

      abbrev nodes-from : ℕ → ℕ → List Net → List Node
      nodes-from i base ns = branch_nodes b i base st path (plans ns)

      within-first : (i base : ℕ) (n : Net) (ns : List Net) → FromOn all base (map shape_of (nodes-from i base (n ∷ ns))) → FromOn all base (map shape_of (first-nodes i base n))
      within-first i base n ns w j m e =
          w j m (ap (λ (ms : List Shape). slice_get ms j) (map-append shape_of (first-nodes i base n) (nodes-from (i + 1) (base + (plan s.depth n).width) ns))
          ∙ left-there (map shape_of (first-nodes i base n)) (map shape_of (nodes-from (i + 1) (base + (plan s.depth n).width) ns)) j m e)

      within-rest : (i base : ℕ) (n : Net) (ns : List Net) → FromOn all base (map shape_of (nodes-from i base (n ∷ ns)))
          → FromOn all (base + (plan s.depth n).width) (map shape_of (nodes-from (i + 1) (base + (plan s.depth n).width) ns))
      within-rest i base n ns w j m e =
          ap (λ (c : ℕ). slice_get all c) place_is
          ∙ w (length (map shape_of (first-nodes i base n)) + j) m
          (ap (λ (ms : List Shape). slice_get ms (length (map shape_of (first-nodes i base n)) + j)) (map-append shape_of (first-nodes i base n) (nodes-from (i + 1) (base + (plan s.depth n).width) ns))
          ∙ right-there (map shape_of (first-nodes i base n)) (map shape_of (nodes-from (i + 1) (base + (plan s.depth n).width) ns)) j m e)
        where
          place_is : base + (plan s.depth n).width + j ≡ base + (length (map shape_of (first-nodes i base n)) + j)
          place_is =
              let v : length (map shape_of (first-nodes i base n)) ≡ (plan s.depth n).width =
              length-map (first-nodes i base n) shape_of ∙ (all-Shaped s n).width (st ++ step.Branch i ∷ []) (path ++ i ∷ []) (ToChild b (i + 1)) base in omega (arith, v)

      doors-lead : slice_get all b ≡ Some (shape_of D) → (i base : ℕ) (ns : List Net) → Suffix i ns → FromOn all base (map shape_of (nodes-from i base ns)) → (c : ℕ) (d : Door)
          → slice_get (map door_of (branch_children i base (plans ns))) c ≡ Some d
          → (v : Network) × (at_steps t (pre ++ At d.key ∷ []) ≡ Some v) × HasSteps all d.entry (pre ++ At d.key ∷ (part v).entry)
      doors-lead here i base [] h w c d e = cc
      doors-lead here i base (n ∷ ns) h w zero d e =
          let u : record { key = key.Branch i; entry = base } ≡ d = cc in
          let f : (m : Node) × (slice_get (first-nodes i base n) 0 ≡ Some m) × (map step_of m.steps ≡ map step_of (st ++ step.Branch i ∷ []) ++ (part (tree s n)).entry) =
          (all-Shaped s n).first (st ++ step.Branch i ∷ []) (path ++ i ∷ []) (ToChild b (i + 1)) base in
          subst (λ (x : Door). (v : Network) × (at_steps t (pre ++ At x.key ∷ []) ≡ Some v) × HasSteps all x.entry (pre ++ At x.key ∷ (part v).entry)) u (
            tree s n,
            at-branch i n (here-of i n ns h),
            (
              shape_of f.0,
              ap (λ (c : ℕ). slice_get all c) (omega arith) ∙ within-first i base n ns w 0 (shape_of f.0) (there-map shape_of (first-nodes i base n) 0 f.0 f.1),
              f.2 ∙ further st (step.Branch i) (part (tree s n)).entry,
            ),
          )
      doors-lead here i base (n ∷ ns) h w (suc c) d e =
          doors-lead here (i + 1) (base + (plan s.depth n).width) ns (rest-of i n ns h) (within-rest i base n ns w) c d e

      branches-stand : slice_get all b ≡ Some (shape_of D) → (i base : ℕ) (ns : List Net) → Suffix i ns → FromOn all base (map shape_of (nodes-from i base ns)) → (j : ℕ) (m : Node)
          → slice_get (nodes-from i base ns) j ≡ Some m → Stands t run all (shape_of m)
      branches-stand here i base [] h w j m e = cc
      branches-stand here i base (n ∷ ns) h w j m e =
          at (split-there (first-nodes i base n) (nodes-from (i + 1) (base + (plan s.depth n).width) ns) j m e)
          (λ l u. branches-stand here (i + 1) (base + (plan s.depth n).width) ns (rest-of i n ns h) (within-rest i base n ns w) l m u)
        where
          at : (slice_get (first-nodes i base n) j ≡ Some m) ⊎ ((l : ℕ) × (slice_get (nodes-from (i + 1) (base + (plan s.depth n).width) ns) l ≡ Some m))
              → ((l : ℕ) → slice_get (nodes-from (i + 1) (base + (plan s.depth n).width) ns) l ≡ Some m → Stands t run all (shape_of m)) → Stands t run all (shape_of m)
          at (inl u) later =
              (each i n (here-of i n ns h)).stand t all (st ++ step.Branch i ∷ []) (path ++ i ∷ []) (ToChild b (i + 1)) base
              (part-further (net_of run) path i (roll-Net zc) hp ∙ ap (λ (f : Net-F Net). part_below f i) (out-roll-Net zc) ∙ here-of i n ns h)
              (ap (at_steps t) (map-append step_of st (step.Branch i ∷ [])) ∙ at-branch i n (here-of i n ns h))
              (sends-kept i n (here-of i n ns h) here)
              (within-first i base n ns w) j m u
          at (inr u) later = later u.0 u.1

      choice-stands : FromOn all b (map shape_of (D ∷ nodes-from 0 (b + 1) branches)) → (j : ℕ) (m : Node) → slice_get (D ∷ nodes-from 0 (b + 1) branches) j ≡ Some m → Stands t run all (shape_of m)
      choice-stands w zero m e =
          let i : D ≡ m = cc in
          subst (λ (x : Node). Stands t run all (shape_of x)) i
          (record {
            form = zc;
            is_form = form-there zc path hp;
            fits = ha;
            has_kind = kind-of-fork merge (own_child b ∷ branch_children 0 (b + 1) (plans branches));
            sends = hg;
            keys = doors-distinct;
            doors = λ c d h. doors-lead here 0 (b + 1) branches zero-on rest-within c d h;
            whole = λ c n e.
                let h : HasKey (map door_of (branch_children 0 (b + 1) (plans branches))) c (key.Branch (0 + c)) = door-at 0 (b + 1) (plans branches) c (plan s.depth n) (there-map (plan s.depth) branches c n e) in
                among-door (map door_of (branch_children 0 (b + 1) (plans branches))) c (key.Branch c) (h.0, h.1, h.2 ∙ ap (λ (m : ℕ). key.Branch m) (omega arith));
            own_first = λ f. (door_of (own_child b), refl, refl);
          })
        where
          here : slice_get all b ≡ Some (shape_of D)
          here = ap (λ (c : ℕ). slice_get all c) (omega arith) ∙ w 0 (shape_of D) refl

          zero-on : Suffix 0 branches
          zero-on c n e = ap (λ (j : ℕ). slice_get branches j) (omega arith) ∙ e

          rest-within : FromOn all (b + 1) (map shape_of (nodes-from 0 (b + 1) branches))
          rest-within j m e = ap (λ (c : ℕ). slice_get all c) (omega arith) ∙ w (suc j) m e
      choice-stands w (suc j) m e = branches-stand here 0 (b + 1) branches zero-on rest-within j m e
        where
          here : slice_get all b ≡ Some (shape_of D)
          here = ap (λ (c : ℕ). slice_get all c) (omega arith) ∙ w 0 (shape_of D) refl

          zero-on : Suffix 0 branches
          zero-on c n e = ap (λ (j : ℕ). slice_get branches j) (omega arith) ∙ e

          rest-within : FromOn all (b + 1) (map shape_of (nodes-from 0 (b + 1) branches))
          rest-within j m e = ap (λ (c : ℕ). slice_get all c) (omega arith) ∙ w (suc j) m e

    pub choice-Standing : Standing (roll-Net zc) uc (choice_plan merge (plans branches))
    choice-Standing = record { stand = λ t all st path goes b hp ha hg within j m e. choice-stands t all st path goes b hp ha hg within j m e }

  abbrev Q : Net → Type 0
  Q net = Standing net (tree s net) (plan s.depth net)

  by-form : (z : Net-F Net) → Standing (roll-Net z) (tree_step s (map-Net _ _ (tree s) z)) (plan_step s.depth (map-Net _ _ (plan s.depth) z)) → Q (roll-Net z)
  by-form z h =
      subst₂ (λ (t : Network) (p : Plan). Standing (roll-Net z) t p) (sym (fold-roll-Net Network (tree_step s) z)) (sym (fold-roll-Net Plan (plan_step s.depth) z)) h

  each-branch : (es : List ((net : Net) × Q net)) (c : ℕ) (n : Net) → slice_get (map (λ e. e.0) es) c ≡ Some n → Q n
  each-branch [] c n h = cc
  each-branch (e ∷ es) zero n h = let u : e.0 ≡ n = cc in subst Q u e.1
  each-branch (e ∷ es) (suc c) n h = each-branch es c n h

  pub all-Standing : (net : Net) → Q net
  all-Standing = ind-Net Q (λ x y is. subst (λ z. Q (roll-Net z)) is
      (elim y as (λ z. Q (roll-Net (map-Net _ _ (λ e. e.0) z))) [
        | Net-F.Box place number ↦ by-form (Net-F.Box place number) (component-Standing (Net-F.Box place number) Alone (tree_step s (Net-F.Box place number)) (λ left. refl) refl (λ f. f) tt)
        | Net-F.Filter filter ↦ by-form (Net-F.Filter filter) (component-Standing (Net-F.Filter filter) Alone (tree_step s (Net-F.Filter filter)) (λ left. refl) refl (λ f. f) tt)
        | Net-F.Sync place patterns ↦ by-form (Net-F.Sync place patterns)
            (component-Standing (Net-F.Sync place patterns) (Cell patterns (new_cell patterns)) (tree_step s (Net-F.Sync place patterns)) (λ left. refl) refl (λ f. f) tt)
        | Net-F.Serial left right ↦ by-form (Net-F.Serial left.0 right.0)
            (series-Standing left.0 right.0 (plan s.depth left.0) (plan s.depth right.0) (all-Shaped s left.0) (all-Shaped s right.0) left.1 right.1)
        | Net-F.Choice place merge branches faces ↦ by-form (Net-F.Choice place merge (map (λ e. e.0) branches) faces)
            (choice-Standing place merge (map (λ e. e.0) branches) faces (each-branch branches))
        | Net-F.Star place merge body exit guard ↦ by-form (Net-F.Star place merge body.0 exit guard)
            (unfolding-Standing (Net-F.Star place merge body.0 exit guard) merge s.depth (tree_step s (Net-F.Star place merge (tree s body.0) exit guard)) refl (λ k n h. h) tt)
        | Net-F.Split place merge body id ↦ by-form (Net-F.Split place merge body.0 id)
            (unfolding-Standing (Net-F.Split place merge body.0 id) merge 0 (tree_step s (Net-F.Split place merge (tree s body.0) id)) refl (λ k n h. h) tt)
      ]))

  -- the nodes of a graph to which nothing happened
  pub start-placed : ArePlaced (tree s (net_of run)) run (map shape_of ((plan s.depth (net_of run)).nodes [] [] Out 0))
  start-placed =
      let ns : List Node = (plan s.depth (net_of run)).nodes [] [] Out 0 in
      record {
        distinct = (all-Shaped s (net_of run)).distinct [] [] Out 0;
        all = λ i m e.
            let n : (x : Node) × (slice_get ns i ≡ Some x) × (shape_of x ≡ m) = there-unmap shape_of ns i m e in
            subst (Stands (tree s (net_of run)) run (map shape_of ns)) n.2
            ((all-Standing (net_of run)).stand (tree s (net_of run)) (map shape_of ns) [] [] Out 0 refl refl
            (let P : LiveTarget → Type 0 = λ v. Sends (map shape_of ns) Out v in subst P (sym (target-root (tree s (net_of run)))) tt)
            (λ j k u. ap (λ (c : ℕ). slice_get (map shape_of ns) c) (omega arith) ∙ u) i n.0 n.1);
        first =
            let f : (m : Node) × (slice_get ns 0 ≡ Some m) × (map step_of m.steps ≡ (part (tree s (net_of run))).entry) = (all-Shaped s (net_of run)).first [] [] Out 0 in
            (shape_of f.0, there-map shape_of ns 0 f.0 f.1, f.2);
        rooted = λ i m r q k e h.
            let n : (x : Node) × (slice_get ns i ≡ Some x) × (shape_of x ≡ m) = there-unmap shape_of ns i m e in
            let o : HasRoot ns r k = (all-Shaped s (net_of run)).rooted [] [] Out 0 i n.0 r q k n.1 (ap (λ (x : Shape). x.steps) n.2 ∙ h) in
            (o.at, shape_of o.node, there-map shape_of ns o.at o.node o.there, o.steps, ap (is_among k) (keys-of-doors o.node.children) ∙ o.has_key);
      }
