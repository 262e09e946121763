-- The plans of dispatchers.
use Rattle.std.proofs.Common.{◌≡◌, ℕ, zero, suc, ◌+◌, ◌-◌, ◌≤◌, ◌<◌, Bool, true, false, cond, ◌&&◌, ◌==◌, List, [], ◌∷◌, ◌++◌, map, length, sum, Some, refl, sym, ap, ap₂, ◌∙◌, subst, arith, append-nil, length-append, ◌⊎◌, inl, inr}
use Rattle.std.proofs.lemmas.List.{map-append}
use Rattle.std.proofs.lemmas.List.Sums.{sum_by-cons}
use Rattle.std.specs.Prelude.{slice_get}
use Rattle.sn_streams.specs.Forks.{Router, Merge as StreamMerge, Free, Deterministic}
use Rattle.sn_streams.specs.Keys.{Key, key_eq, is_among}
use Rattle.sn_streams.specs.Keys as key
use Rattle.sn_streams.specs.Trees.{Fork}
use Rattle.sn_net.specs.declared.net.Merge.{Merge as MergeKind}
use Rattle.sn_net.specs.declared.net.Merge.TheVariants as kind
use Rattle.sn_net.specs.Dispatchers.{Network}
use Rattle.sn_net.specs.Item.{ModelItem}
use Rattle.sn_model.specs.declared.step.Step.{Step}
use Rattle.sn_model.specs.declared.step.Step.TheVariants as step
use Rattle.sn_view.specs.View.{Child, Target, ToChild, Node}
use Rattle.sn_view.specs.Parts.{Plan, own_child, dispatcher, unfolding_fork, branch_children, branch_nodes, choice_plan}
use Rattle.sn_live.specs.Entries.{Entry as LiveEntry}
use Rattle.sn_live.specs.Live.{Step as LiveStep, At}
use Rattle.sn_live.specs.Parts.{part}
use Rattle.sn_live.specs.Flat.{steps_eq, FreshAt, FreshNode}
use Rattle.sn_view.specs.Seen.{step_of, erased, kept_by_key, epoch_by_key, seen_node}
use Rattle.sn_view.specs.Placed.{Shape, shape_of, NoneAt, DistinctSteps}
use Rattle.sn_view.proofs.Lists.{there-unmap}
use Rattle.sn_view.proofs.Children.{keys_of}
use Rattle.sn_view.proofs.Shaping.{Shaped, HasRoot, one-Shaped, left-there, right-there, split-there, cancel, same-front, further, distinct-append, none-from}

pub fork-entry : (mk : StreamMerge) (r : Router ModelItem) (child : Key → Network) → (part (Fork mk r child)).entry ≡ []
fork-entry Free r child = refl
fork-entry Deterministic r child = refl

-- nothing is kept of any child
abbrev KeepNothing : List Child → Type 0
KeepNothing [] = Unit {0}
KeepNothing (c ∷ cs) = (c.kept ≡ []) × KeepNothing cs

none-kept : (cs : List Child) (k : Key) → KeepNothing cs → kept_by_key cs k ≡ []
none-kept [] k h = refl
none-kept (c ∷ cs) k (h, t) = at (key_eq k c.key) (none-kept cs k t)
  where
    at : (b : Bool) → kept_by_key cs k ≡ [] → cond b (erased c.kept) (kept_by_key cs k) ≡ []
    at true e = ap erased h
    at false e = e

no-epochs : (cs : List Child) (k : Key) → epoch_by_key cs (map (λ (c : Child). 0) cs) k ≡ 0
no-epochs [] k = refl
no-epochs (c ∷ cs) k = at (key_eq k c.key) (no-epochs cs k)
  where
    at : (b : Bool) → epoch_by_key cs (map (λ (c : Child). 0) cs) k ≡ 0 → cond b 0 (epoch_by_key cs (map (λ (c : Child). 0) cs) k) ≡ 0
    at true h = refl
    at false h = h

none-at-all : (cs : List Child) (k : Key) → epoch_by_key cs [] k ≡ 0
none-at-all [] k = refl
none-at-all (c ∷ cs) k = refl

pub dispatcher-fresh : (m : MergeKind) (left : ℕ) (cs : List Child) (s : List Step) (path : List ℕ) (goes : Target) → KeepNothing cs → FreshNode (seen_node (dispatcher m left cs s path goes))
dispatcher-fresh kind.Free left cs s path goes h = record {
  waits = refl;
  decides = refl;
  level = refl;
  leads = λ k. ap (λ (n : ℕ). n - 0) (no-epochs cs k);
  keeps = λ k. none-kept cs k h;
}
dispatcher-fresh kind.Det left cs s path goes h = record {
  waits = refl;
  decides = refl;
  level = refl;
  leads = λ k. ap (λ (n : ℕ). n - 0) (none-at-all cs k);
  keeps = λ k. at (key_eq k key.Own) (none-kept cs k h);
}
  where
    at : {w : List (LiveEntry ModelItem)} (b : Bool) → w ≡ [] → cond b [] w ≡ []
    at true e = refl
    at false e = e

pub unfolding-Shaped : (m : MergeKind) (left : ℕ) (mk : StreamMerge) (r : Router ModelItem) (child : Key → Network) → Shaped (Fork mk r child) (unfolding_fork m left)
unfolding-Shaped m left mk r child =
    one-Shaped (λ s path goes b. dispatcher m left (own_child b ∷ []) s path goes) (λ s path goes b. refl) (Fork mk r child) (fork-entry mk r child)
    (λ s path goes b. dispatcher-fresh m left (own_child b ∷ []) s path goes (refl, tt))

-- the branches of a choice
branches-keep : (i b : ℕ) (bs : List Plan) → KeepNothing (branch_children i b bs)
branches-keep i b [] = tt
branches-keep i b (x ∷ bs) = (refl, branches-keep (i + 1) (b + x.width) bs)

branch-among : (i b c : ℕ) (bs : List Plan) → i ≤ c → c < i + length bs → is_among (key.Branch c) (keys_of (branch_children i b bs)) ≡ true
branch-among i b c [] low high = absurd (omega (arith, low, high))
branch-among i b c (x ∷ bs) low high = at (c == i) refl (λ h. branch-among (i + 1) (b + x.width) c bs h (omega (arith, high)))
  where
    at : (v : Bool) → (c == i) ≡ v → (i + 1 ≤ c → is_among (key.Branch c) (keys_of (branch_children (i + 1) (b + x.width) bs)) ≡ true)
        → cond v true (is_among (key.Branch c) (keys_of (branch_children (i + 1) (b + x.width) bs))) ≡ true
    at true e later = refl
    at false e later = later (grind (arith, low, e))

module _ (child : Key → Network) (s : List Step) (path : List ℕ) (node : ℕ) where
  abbrev Branches : ℕ → List Plan → Type 0
  Branches i bs = (c : ℕ) (p : Plan) → slice_get bs c ≡ Some p → Shaped (child (key.Branch (i + c))) p

  abbrev nodes : ℕ → ℕ → List Plan → List Node
  nodes i b bs = branch_nodes node i b s path bs

  abbrev here : ℕ → ℕ → Plan → List Node
  here i b x = x.nodes (s ++ step.Branch i ∷ []) (path ++ i ∷ []) (ToChild node (i + 1)) b

  first-of : (i : ℕ) (x : Plan) (bs : List Plan) → Branches i (x ∷ bs) → Shaped (child (key.Branch i)) x
  first-of i x bs h = subst (λ (j : ℕ). Shaped (child (key.Branch j)) x) (omega arith) (h 0 x refl)

  others-of : (i : ℕ) (x : Plan) (bs : List Plan) → Branches i (x ∷ bs) → Branches (i + 1) bs
  others-of i x bs h c p e = subst (λ (j : ℕ). Shaped (child (key.Branch j)) p) (omega arith) (h (suc c) p e)

  record Below (i count : ℕ) (m : Node) : Type 0 where
    branch : ℕ
    low : i ≤ branch
    high : branch < i + count
    rest : List LiveStep
    steps : map step_of m.steps ≡ map step_of s ++ At (key.Branch branch) ∷ rest
    fresh : FreshAt (child (key.Branch branch)) rest (seen_node m)

  here-below : (i b : ℕ) (x : Plan) (count : ℕ) → Shaped (child (key.Branch i)) x → (j : ℕ) (m : Node) → slice_get (here i b x) j ≡ Some m → Below i (suc count) m
  here-below i b x count h j m e =
      let u : (q : List LiveStep) × (map step_of m.steps ≡ map step_of (s ++ step.Branch i ∷ []) ++ q) × FreshAt (child (key.Branch i)) q (seen_node m) =
      h.under (s ++ step.Branch i ∷ []) (path ++ i ∷ []) (ToChild node (i + 1)) b j m e in
      record { branch = i; low = omega arith; high = omega arith; rest = u.0; steps = u.1 ∙ further s (step.Branch i) u.0; fresh = u.2 }

  below : (i b : ℕ) (bs : List Plan) → Branches i bs → (j : ℕ) (m : Node) → slice_get (nodes i b bs) j ≡ Some m → Below i (length bs) m
  below i b [] h j m e = cc
  below i b (x ∷ bs) h j m e =
      at (split-there (here i b x) (nodes (i + 1) (b + x.width) bs) j m e) (λ l u. below (i + 1) (b + x.width) bs (others-of i x bs h) l m u)
    where
      at : (slice_get (here i b x) j ≡ Some m) ⊎ ((l : ℕ) × (slice_get (nodes (i + 1) (b + x.width) bs) l ≡ Some m))
          → ((l : ℕ) → slice_get (nodes (i + 1) (b + x.width) bs) l ≡ Some m → Below (i + 1) (length bs) m) → Below i (suc (length bs)) m
      at (inl u) later = here-below i b x (length bs) (first-of i x bs h) j m u
      at (inr u) later =
          let w : Below (i + 1) (length bs) m = later u.0 u.1 in
          record { branch = w.branch; low = omega (arith, w.low); high = omega (arith, w.high); rest = w.rest; steps = w.steps; fresh = w.fresh }

  length-branches : (i b : ℕ) (bs : List Plan) → Branches i bs → length (nodes i b bs) ≡ sum (map (λ (p : Plan). p.width) bs)
  length-branches i b [] h = refl
  length-branches i b (x ∷ bs) h =
      length-append (here i b x) (nodes (i + 1) (b + x.width) bs)
      ∙ ap₂ (λ (m n : ℕ). m + n) ((first-of i x bs h).width (s ++ step.Branch i ∷ []) (path ++ i ∷ []) (ToChild node (i + 1)) b)
      (length-branches (i + 1) (b + x.width) bs (others-of i x bs h))
      ∙ sym (sum_by-cons (λ (k : ℕ). k) x.width (map (λ (p : Plan). p.width) bs))

  branches-distinct : (i b : ℕ) (bs : List Plan) → Branches i bs → DistinctSteps (map shape_of (nodes i b bs))
  branches-distinct i b [] h = tt
  branches-distinct i b (x ∷ bs) h =
      subst DistinctSteps (sym (map-append shape_of (here i b x) (nodes (i + 1) (b + x.width) bs)))
      (distinct-append (map shape_of (here i b x)) (map shape_of (nodes (i + 1) (b + x.width) bs))
      ((first-of i x bs h).distinct (s ++ step.Branch i ∷ []) (path ++ i ∷ []) (ToChild node (i + 1)) b)
      (branches-distinct (i + 1) (b + x.width) bs (others-of i x bs h))
      (λ l c j d u v. apart l c j d (there-unmap shape_of (here i b x) l c u) (there-unmap shape_of (nodes (i + 1) (b + x.width) bs) j d v)))
    where
      differ : (c : ℕ) → i + 1 ≤ c → (i == c) ≡ false
      differ c low = grind (arith, low)

      apart : (l : ℕ) (c : Shape) (j : ℕ) (d : Shape) → (v : Node) × (slice_get (here i b x) l ≡ Some v) × (shape_of v ≡ c)
          → (v : Node) × (slice_get (nodes (i + 1) (b + x.width) bs) j ≡ Some v) × (shape_of v ≡ d) → steps_eq c.steps d.steps ≡ false
      apart l c j d (v, hv, ev) (w, hw, ew) =
          let f : (q : List LiveStep) × (map step_of v.steps ≡ map step_of (s ++ step.Branch i ∷ []) ++ q) × FreshAt (child (key.Branch i)) q (seen_node v) =
          (first-of i x bs h).under (s ++ step.Branch i ∷ []) (path ++ i ∷ []) (ToChild node (i + 1)) b l v hv in
          let o : Below (i + 1) (length bs) w = below (i + 1) (b + x.width) bs (others-of i x bs h) j w hw in
          ap₂ (λ (p t : List LiveStep). steps_eq p t) (sym (ap (λ (z : Shape). z.steps) ev) ∙ f.1 ∙ further s (step.Branch i) f.0) (sym (ap (λ (z : Shape). z.steps) ew) ∙ o.steps)
          ∙ same-front (map step_of s) (At (key.Branch i) ∷ f.0) (At (key.Branch o.branch) ∷ o.rest)
          ∙ ap (λ b. b && steps_eq f.0 o.rest) (differ o.branch o.low)

  branches-rooted : (i b : ℕ) (bs : List Plan) → Branches i bs → (j : ℕ) (m : Node) (z : LiveStep) (r q : List LiveStep) (k : Key) → slice_get (nodes i b bs) j ≡ Some m
      → map step_of m.steps ≡ map step_of s ++ z ∷ (r ++ At k ∷ q) → HasRoot (nodes i b bs) (map step_of s ++ z ∷ r) k
  branches-rooted i b [] h j m z r q k e g = cc
  branches-rooted i b (x ∷ bs) h j m z r q k e g =
      at (split-there (here i b x) (nodes (i + 1) (b + x.width) bs) j m e) (λ l u. branches-rooted (i + 1) (b + x.width) bs (others-of i x bs h) l m z r q k u g)
    where
      at : (slice_get (here i b x) j ≡ Some m) ⊎ ((l : ℕ) × (slice_get (nodes (i + 1) (b + x.width) bs) l ≡ Some m))
          → ((l : ℕ) → slice_get (nodes (i + 1) (b + x.width) bs) l ≡ Some m → HasRoot (nodes (i + 1) (b + x.width) bs) (map step_of s ++ z ∷ r) k)
          → HasRoot (nodes i b (x ∷ bs)) (map step_of s ++ z ∷ r) k
      at (inl u) later =
          let f : (w : List LiveStep) × (map step_of m.steps ≡ map step_of (s ++ step.Branch i ∷ []) ++ w) × FreshAt (child (key.Branch i)) w (seen_node m) =
          (first-of i x bs h).under (s ++ step.Branch i ∷ []) (path ++ i ∷ []) (ToChild node (i + 1)) b j m u in
          let c : z ∷ (r ++ At k ∷ q) ≡ At (key.Branch i) ∷ f.0 = cancel (map step_of s) (z ∷ (r ++ At k ∷ q)) (At (key.Branch i) ∷ f.0) (sym g ∙ f.1 ∙ further s (step.Branch i) f.0) in
          let z_is : z ≡ At (key.Branch i) = cc in
          let o : HasRoot (here i b x) (map step_of (s ++ step.Branch i ∷ []) ++ r) k =
          (first-of i x bs h).rooted (s ++ step.Branch i ∷ []) (path ++ i ∷ []) (ToChild node (i + 1)) b j m r q k u
          (g ∙ ap (λ (t : LiveStep). map step_of s ++ t ∷ (r ++ At k ∷ q)) z_is ∙ sym (further s (step.Branch i) (r ++ At k ∷ q))) in
          record {
            at = o.at;
            node = o.node;
            there = left-there (here i b x) (nodes (i + 1) (b + x.width) bs) o.at o.node o.there;
            steps = o.steps ∙ further s (step.Branch i) r ∙ ap (λ (t : LiveStep). map step_of s ++ t ∷ r) (sym z_is);
            has_key = o.has_key;
          }
      at (inr u) later =
          let o : HasRoot (nodes (i + 1) (b + x.width) bs) (map step_of s ++ z ∷ r) k = later u.0 u.1 in
          record {
            at = length (here i b x) + o.at;
            node = o.node;
            there = right-there (here i b x) (nodes (i + 1) (b + x.width) bs) o.at o.node o.there;
            steps = o.steps;
            has_key = o.has_key;
          }

module _ (m : MergeKind) (mk : StreamMerge) (r : Router ModelItem) (child : Key → Network) (bs : List Plan)
    (h : (c : ℕ) (p : Plan) → slice_get bs c ≡ Some p → Shaped (child (key.Branch c)) p) where
  abbrev head : List Step → List ℕ → Target → ℕ → Node
  head s path goes b = dispatcher m 0 (own_child b ∷ branch_children 0 (b + 1) bs) s path goes

  abbrev rest : List Step → List ℕ → ℕ → List Node
  rest s path b = branch_nodes b 0 (b + 1) s path bs

  from-zero : (c : ℕ) (p : Plan) → slice_get bs c ≡ Some p → Shaped (child (key.Branch (0 + c))) p
  from-zero c p e = subst (λ (j : ℕ). Shaped (child (key.Branch j)) p) (omega arith) (h c p e)

  pub choice-Shaped : Shaped (Fork mk r child) (choice_plan m bs)
  choice-Shaped = record {
    width = λ s path goes b.
        let u : length (rest s path b) ≡ sum (map (λ (p : Plan). p.width) bs) = length-branches child s path b 0 (b + 1) bs from-zero in omega (arith, u);
    first = λ s path goes b. (head s path goes b, refl, sym (ap (λ (q : List LiveStep). map step_of s ++ q) (fork-entry mk r child) ∙ append-nil (map step_of s)));
    under = λ s path goes b j n e. at s path goes b j n e;
    distinct = λ s path goes b. (alone s path goes b, branches-distinct child s path b 0 (b + 1) bs from-zero);
    rooted = λ s path goes b j n w q k e g. roots s path goes b j n w q k e g;
  }
    where
      at : (s : List Step) (path : List ℕ) (goes : Target) (b j : ℕ) (n : Node) → slice_get (head s path goes b ∷ rest s path b) j ≡ Some n
          → (q : List LiveStep) × (map step_of n.steps ≡ map step_of s ++ q) × FreshAt (Fork mk r child) q (seen_node n)
      at s path goes b zero n e =
          let i : head s path goes b ≡ n = cc in (
            [],
            ap (λ (x : Node). map step_of x.steps) (sym i) ∙ sym (append-nil (map step_of s)),
            subst (λ (x : Node). FreshNode (seen_node x)) i (dispatcher-fresh m 0 (own_child b ∷ branch_children 0 (b + 1) bs) s path goes (refl, branches-keep 0 (b + 1) bs)),
          )
      at s path goes b (suc j) n e =
          let w : Below child s path b 0 (length bs) n = below child s path b 0 (b + 1) bs from-zero j n e in
          (At (key.Branch w.branch) ∷ w.rest, w.steps, w.fresh)

      alone : (s : List Step) (path : List ℕ) (goes : Target) (b : ℕ) → NoneAt (map step_of s) (map shape_of (rest s path b))
      alone s path goes b =
          none-from (map step_of s) (map shape_of (rest s path b))
          (λ j c e. let v : (x : Node) × (slice_get (rest s path b) j ≡ Some x) × (shape_of x ≡ c) = there-unmap shape_of (rest s path b) j c e in
          let w : Below child s path b 0 (length bs) v.0 = below child s path b 0 (b + 1) bs from-zero j v.0 v.1 in
          ap₂ (λ (p t : List LiveStep). steps_eq p t) (sym (append-nil (map step_of s))) (sym (ap (λ (z : Shape). z.steps) v.2) ∙ w.steps)
          ∙ same-front (map step_of s) [] (At (key.Branch w.branch) ∷ w.rest))

      roots : (s : List Step) (path : List ℕ) (goes : Target) (b j : ℕ) (n : Node) (w q : List LiveStep) (k : Key) → slice_get (head s path goes b ∷ rest s path b) j ≡ Some n
          → map step_of n.steps ≡ map step_of s ++ (w ++ At k ∷ q) → HasRoot (head s path goes b ∷ rest s path b) (map step_of s ++ w) k
      roots s path goes b zero n w q k e g =
          let i : head s path goes b ≡ n = cc in
          absurd (empty w (cancel (map step_of s) [] (w ++ At k ∷ q) (append-nil (map step_of s) ∙ ap (λ (x : Node). map step_of x.steps) i ∙ g)))
        where
          empty : (w : List LiveStep) → [] ≡ w ++ At k ∷ q → ⊥
          empty [] u = cc
          empty (x ∷ w) u = cc
      roots s path goes b (suc j) n [] q k e g =
          let v : Below child s path b 0 (length bs) n = below child s path b 0 (b + 1) bs from-zero j n e in
          let c : At k ∷ q ≡ At (key.Branch v.branch) ∷ v.rest = cancel (map step_of s) (At k ∷ q) (At (key.Branch v.branch) ∷ v.rest) (sym g ∙ v.steps) in
          let k_is : k ≡ key.Branch v.branch = cc in
          record {
            at = 0;
            node = head s path goes b;
            there = refl;
            steps = sym (append-nil (map step_of s));
            has_key = ap (λ (i : Key). is_among i (key.Own ∷ keys_of (branch_children 0 (b + 1) bs))) k_is ∙ branch-among 0 (b + 1) v.branch bs v.low v.high;
          }
      roots s path goes b (suc j) n (z ∷ w) q k e g =
          let o : HasRoot (rest s path b) (map step_of s ++ z ∷ w) k = branches-rooted child s path b 0 (b + 1) bs from-zero j n z w q k e g in
          record { at = suc o.at; node = o.node; there = o.there; steps = o.steps; has_key = o.has_key }
