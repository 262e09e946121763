-- The nodes of a replica stand as the network wants.
use Rattle.std.proofs.Common.{◌≡◌, ℕ, zero, suc, ◌+◌, ◌-◌, false, List, [], ◌∷◌, ◌++◌, map, length, Option, Some, None, refl, sym, ap, ap₂, ◌∙◌, subst, arith, append_assoc, append-nil, inl, inr}
use Rattle.std.proofs.Math.ListN.{length-map}
use Rattle.std.proofs.lemmas.List.{map-append}
use Rattle.std.specs.Prelude.{slice_get, ℤ}
use Rattle.std.specs.Option.{option_map}
use Rattle.sn_record.specs.LabelSet.{Labels}
use Rattle.sn_streams.specs.Forks.{Router, Merge as StreamMerge}
use Rattle.sn_streams.specs.Keys.{Key, is_among, AreDistinct}
use Rattle.sn_streams.specs.Keys as key
use Rattle.sn_streams.specs.Trees.{Fork, Series}
use Rattle.sn_tagexpr.specs.declared.expr.TagExpr.{TagExpr}
use Rattle.sn_net.specs.declared.net.Net.{Net}
use Rattle.sn_net.specs.declared.net.Net.TheOpen.{Net-F}
use Rattle.sn_net.specs.declared.net.Net.TheViews.{out-Net}
use Rattle.sn_net.specs.declared.net.Merge.{Merge as MergeKind}
use Rattle.sn_net.specs.Dispatchers.{Network, merge_of, level}
use Rattle.sn_net.specs.Item.{ModelItem}
use Rattle.sn_model.specs.Meaning.{tree}
use Rattle.sn_model.specs.Run.{depth_of, net_of, setting_of}
use Rattle.sn_model.specs.declared.step.Step.{Step}
use Rattle.sn_model.specs.declared.step.Step.TheVariants as step
use Rattle.sn_view.specs.View.{Child, Target, ToNode, ToChild, Node, View, changed_at}
use Rattle.sn_view.specs.Parts.{plan, part_at, part_below, dispatcher, own_child}
use Rattle.sn_view.specs.Next.{form_of}
use Rattle.sn_live.specs.Live.{Step as LiveStep, Left, Right, At, Target as LiveTarget, Out as LiveOut, ToNode as LiveToNode, ToKept}
use Rattle.sn_live.specs.Parts.{part, feeds}
use Rattle.sn_live.specs.Flat.{at_steps, steps_eq}
use Rattle.sn_live.proofs.Within.{at_steps-append, target-append, target-root, from_target}
use Rattle.sn_view.specs.Seen.{step_of, tree_of}
use Rattle.sn_view.specs.Placed.{kind_of, IsFork, Shape, shape_of, Door, door_of, HasSteps, HasKey, Sends, Stands, DistinctSteps, WellPlaced}
use Rattle.sn_view.proofs.Lists.{there-map, there-unmap, there-changed}
use Rattle.sn_view.proofs.Children.{keys_of, keys-of-doors}
use Rattle.sn_view.proofs.Shaping.{Shaped, HasRoot, left-there, right-there, split-there, further, distinct-append, same-front, cancel}
use Rattle.sn_view.proofs.Plans.{all-Shaped}
use Rattle.sn_view.proofs.Standing.{FromOn, part-further, fork-target, kind-of-fork, all-Standing}
use Rattle.sn_view.proofs.Dispatching.{fork-entry}
use Rattle.sn_view.proofs.Unfolds.{one_more}
use Rattle.sn_view.proofs.Growing.{MadeWell, all, f, distinct-more}

length-changed : {X : Type 0} (i : ℕ) (h : X → X) (xs : List X) → length (changed_at i h xs) ≡ length xs
length-changed i h [] = refl
length-changed zero h (x ∷ xs) = refl
length-changed (suc i) h (x ∷ xs) = ap suc (length-changed i h xs)

last-there : {X : Type 0} (xs : List X) (x : X) → slice_get (xs ++ x ∷ []) (length xs) ≡ Some x
last-there [] x = refl
last-there (y ∷ xs) x = last-there xs x

some-net : (o : Option Net) (z : Net-F Net) → option_map out-Net o ≡ Some z → (n : Net) × (o ≡ Some n) × (out-Net n ≡ z)
some-net None z h = cc
some-net (Some n) z h = (n, refl, (let u : out-Net n ≡ z = cc in u))

module _ (g : View) (placed : WellPlaced g) (i : ℕ) (n : Node) (k : Key) (new : List Node) (there : slice_get g.nodes i ≡ Some n) (fork : IsFork (kind_of n.state))
    (none : is_among k (keys_of n.children) ≡ false) (mk : StreamMerge) (r : Router ModelItem) (child : Key → Network)
    (is : at_steps (tree_of g) (map step_of n.steps) ≡ Some (Fork mk r child)) where
  abbrev pre : List LiveStep
  pre = map step_of n.steps

  abbrev len : ℕ
  len = length g.nodes

  abbrev whole : List Shape
  whole = all g placed i n k new there fork none

  abbrev grown_node : Node
  grown_node = f g placed i n k new there fork none n

  stands : Stands (tree_of g) g.run (map shape_of g.nodes) (shape_of n)
  stands = placed.all i (shape_of n) (there-map shape_of g.nodes i n there)

  -- the new nodes are behind the old ones
  pub behind : FromOn whole len (map shape_of new)
  behind j m h =
      ap₂ (λ (ms : List Shape) (c : ℕ). slice_get ms c) (map-append shape_of (changed_at i (f g placed i n k new there fork none) g.nodes) new) place
      ∙ right-there (map shape_of (changed_at i (f g placed i n k new there fork none) g.nodes)) (map shape_of new) j m h
    where
      place : len + j ≡ length (map shape_of (changed_at i (f g placed i n k new there fork none) g.nodes)) + j
      place =
          let a : length (map shape_of (changed_at i (f g placed i n k new there fork none) g.nodes)) ≡ len =
          length-map (changed_at i (f g placed i n k new there fork none) g.nodes) shape_of ∙ length-changed i (f g placed i n k new there fork none) g.nodes in omega (arith, a)

  here-now : slice_get whole i ≡ Some (shape_of grown_node)
  here-now =
      there-map shape_of (changed_at i (f g placed i n k new there fork none) g.nodes ++ new) i grown_node
      (left-there (changed_at i (f g placed i n k new there fork none) g.nodes) new i grown_node (there-changed (f g placed i n k new there fork none) g.nodes i n there))

  -- what the child gives is kept of it
  pub kept-of-child : Sends whole (ToChild i (length n.children)) ((part (tree_of g)).target (pre ++ At k ∷ []))
  kept-of-child =
      subst (λ (v : LiveTarget). Sends whole (ToChild i (length n.children)) v)
      (sym (target-append (tree_of g) pre (At k ∷ []) (Fork mk r child) is
      ∙ ap (λ (v : LiveTarget). from_target ((part (tree_of g)).target pre) pre v) (fork-target g.run mk r child k ∙ ap (feeds (ToKept [] k) (At k)) (target-root (child k)))))
      (at n.children refl)
    where
      door : Door
      door = door_of (one_more k len)

      own : HasKey (map door_of n.children) 0 key.Own
      own = stands.own_first fork

      doors-are : map door_of (n.children ++ one_more k len ∷ []) ≡ map door_of n.children ++ door_of (one_more k len) ∷ []
      doors-are = map-append door_of n.children (one_more k len ∷ [])

      distinct-now : AreDistinct (map (λ (d : Door). d.key) (map door_of (n.children ++ one_more k len ∷ [])))
      distinct-now =
          subst AreDistinct (sym (ap (map (λ (d : Door). d.key)) doors-are ∙ map-append (λ (d : Door). d.key) (map door_of n.children) (door_of (one_more k len) ∷ [])))
          (distinct-more (map (λ (d : Door). d.key) (map door_of n.children)) k stands.keys (ap (is_among k) (keys-of-doors n.children) ∙ none))

      at : (cs : List Child) → n.children ≡ cs → Sends whole (ToChild i (length n.children)) (ToKept (pre ++ []) k)
      at [] u = let o : HasKey (map door_of n.children) 0 key.Own = own in let v : slice_get (map door_of n.children) 0 ≡ Some o.0 = o.1 in empty (sym (ap (λ (cs : List Child). slice_get (map door_of cs) 0) u) ∙ v)
        where
          empty : {d : Door} {X : Type 0} → None ≡ Some d → X
          empty v = cc
      at (c ∷ cs) u =
          let e : length n.children ≡ suc (length cs) = ap length u in
          subst (λ (m : ℕ). Sends whole (ToChild i m) (ToKept (pre ++ []) k)) (sym e) (
            shape_of grown_node,
            here-now,
            sym (append-nil pre),
            (
              door_of (one_more k len),
              ap₂ (λ (ds : List Door) (m : ℕ). slice_get ds m) doors-are (sym e ∙ sym (length-map n.children door_of)) ∙ last-there (map door_of n.children) (door_of (one_more k len)),
              refl,
            ),
            (own.0, ap (λ (ds : List Door). slice_get ds 0) doors-are ∙ left-there (map door_of n.children) (door_of (one_more k len) ∷ []) 0 own.0 own.1, own.2),
            distinct-now,
          )

  -- the part of the body
  pub body-part : (z : Net-F Net) (b : Net) → form_of g n ≡ Some z → part_below z 0 ≡ Some b → part_at (net_of g.run) (n.path ++ 0 ∷ []) ≡ Some b
  body-part z b h below =
      let p : (m : Net) × (part_at (net_of g.run) n.path ≡ Some m) × (out-Net m ≡ z) = some-net (part_at (net_of g.run) n.path) z h in
      part-further (net_of g.run) n.path 0 p.0 p.1 ∙ ap (λ (y : Net-F Net). part_below y 0) p.2 ∙ below

-- the replica of a split
module _ (g : View) (placed : WellPlaced g) (i : ℕ) (n : Node) (v : ℤ) (place : ℕ) (merge : MergeKind) (body : Net) (id : ℕ) where
  abbrev replica : List Node
  replica = (plan (depth_of g.run) body).nodes (n.steps ++ step.Value v ∷ []) (n.path ++ 0 ∷ []) (ToChild i (length n.children)) (length g.nodes)

  abbrev shaped : Shaped (tree (setting_of g.run) body) (plan (depth_of g.run) body)
  shaped = all-Shaped (setting_of g.run) body

  pub split-made : (there : slice_get g.nodes i ≡ Some n) (fork : IsFork (kind_of n.state)) (none : is_among (key.Value v) (keys_of n.children) ≡ false) (mk : StreamMerge) (r : Router ModelItem) (child : Key → Network)
      (is : at_steps (tree_of g) (map step_of n.steps) ≡ Some (Fork mk r child)) → form_of g n ≡ Some (Net-F.Split place merge body id) → child (key.Value v) ≡ tree (setting_of g.run) body
      → MadeWell (tree_of g) g.run (all g placed i n (key.Value v) replica there fork none) (map step_of n.steps) (key.Value v) (tree (setting_of g.run) body) (length g.nodes) replica
  split-made there fork none mk r child is h c =
      let st : List Step = n.steps ++ step.Value v ∷ [] in
      let goes : Target = ToChild i (length n.children) in
      let back : FromOn (all g placed i n (key.Value v) replica there fork none) (length g.nodes) (map shape_of replica) = behind g placed i n (key.Value v) replica there fork none mk r child is in
      let one : map step_of st ≡ map step_of n.steps ++ At (key.Value v) ∷ [] = map-append step_of n.steps (step.Value v ∷ []) in
      record {
        first =
            let w : (m : Node) × (slice_get replica 0 ≡ Some m) × (map step_of m.steps ≡ map step_of st ++ (part (tree (setting_of g.run) body)).entry) = shaped.first st (n.path ++ 0 ∷ []) goes (length g.nodes) in (
              shape_of w.0,
              ap (λ (m : ℕ). slice_get (all g placed i n (key.Value v) replica there fork none) m) (omega arith) ∙ back 0 (shape_of w.0) (there-map shape_of replica 0 w.0 w.1),
              w.2 ∙ further n.steps (step.Value v) (part (tree (setting_of g.run) body)).entry,
            );
        distinct = shaped.distinct st (n.path ++ 0 ∷ []) goes (length g.nodes);
        under = λ j m e.
            let w : (q : List LiveStep) × (map step_of m.steps ≡ map step_of st ++ q) × _ = shaped.under st (n.path ++ 0 ∷ []) goes (length g.nodes) j m e in
            (w.0, w.1 ∙ further n.steps (step.Value v) w.0);
        rooted = λ j m r q l e u.
            let o : HasRoot replica (map step_of st ++ r) l = shaped.rooted st (n.path ++ 0 ∷ []) goes (length g.nodes) j m r q l e (u ∙ sym (further n.steps (step.Value v) (r ++ At l ∷ q))) in
            record { at = o.at; node = o.node; there = o.there; steps = o.steps ∙ further n.steps (step.Value v) r; has_key = o.has_key };
        stand = λ j m e. (all-Standing g.run body).stand (tree_of g) (all g placed i n (key.Value v) replica there fork none) st (n.path ++ 0 ∷ []) goes (length g.nodes)
            (body-part g placed i n (key.Value v) replica there fork none mk r child is (Net-F.Split place merge body id) body h refl)
            (ap (at_steps (tree_of g)) one ∙ at_steps-append (tree_of g) (map step_of n.steps) (At (key.Value v) ∷ []) (Fork mk r child) is ∙ ap (λ (t : Network). let o : Option Network = Some t in o) c)
            (subst (λ (s : List LiveStep). Sends (all g placed i n (key.Value v) replica there fork none) goes ((part (tree_of g)).target s)) (sym one) (kept-of-child g placed i n (key.Value v) replica there fork none mk r child is))
            back j m e;
      }

-- the replica of a star, and the tap behind it
module _ (g : View) (placed : WellPlaced g) (i : ℕ) (n : Node) (place : ℕ) (merge : MergeKind) (body : Net) (exit : Labels) (guard : Option TagExpr) (l : ℕ) where
  abbrev T : Network
  T = tree (setting_of g.run) body

  abbrev L : Network
  L = level place merge exit guard (tree (setting_of g.run) body) l

  abbrev base : ℕ
  base = length g.nodes

  abbrev first_steps : List Step
  first_steps = n.steps ++ step.Inside ∷ step.Left ∷ []

  abbrev tap_steps : List Step
  tap_steps = n.steps ++ step.Inside ∷ step.Right ∷ []

  abbrev bodies : List Node
  bodies = (plan (depth_of g.run) body).nodes first_steps (n.path ++ 0 ∷ []) (ToNode (base + (plan (depth_of g.run) body).width)) base

  abbrev tap : Node
  tap = dispatcher merge (n.left - 1) (own_child (base + (plan (depth_of g.run) body).width) ∷ []) tap_steps n.path (ToChild i (length n.children))

  abbrev pub star_nodes : List Node
  star_nodes = bodies ++ tap ∷ []

  abbrev star_shaped : Shaped (tree (setting_of g.run) body) (plan (depth_of g.run) body)
  star_shaped = all-Shaped (setting_of g.run) body

  abbrev q1 : List LiveStep
  q1 = map step_of n.steps ++ At key.Inside ∷ []

  on-left : (q : List LiveStep) → map step_of first_steps ++ q ≡ map step_of n.steps ++ At key.Inside ∷ Left ∷ q
  on-left q = ap (λ (w : List LiveStep). w ++ q) (map-append step_of n.steps (step.Inside ∷ step.Left ∷ [])) ∙ append_assoc (map step_of n.steps) (At key.Inside ∷ Left ∷ []) q

  left-is : map step_of first_steps ≡ q1 ++ Left ∷ []
  left-is = map-append step_of n.steps (step.Inside ∷ step.Left ∷ []) ∙ sym (append_assoc (map step_of n.steps) (At key.Inside ∷ []) (Left ∷ []))

  right-is : map step_of tap_steps ≡ q1 ++ Right ∷ []
  right-is = map-append step_of n.steps (step.Inside ∷ step.Right ∷ []) ∙ sym (append_assoc (map step_of n.steps) (At key.Inside ∷ []) (Right ∷ []))

  tap-is : map step_of tap_steps ≡ map step_of n.steps ++ At key.Inside ∷ Right ∷ []
  tap-is = map-append step_of n.steps (step.Inside ∷ step.Right ∷ [])

  level-entry : (d : ℕ) → (part (level place merge exit guard (tree (setting_of g.run) body) d)).entry ≡ []
  level-entry zero = fork-entry (merge_of merge) _ _
  level-entry (suc d) = fork-entry (merge_of merge) _ _

  only-tap : (j : ℕ) (m : Node) → slice_get (tap ∷ []) j ≡ Some m → tap ≡ m
  only-tap zero m e = cc
  only-tap (suc j) m e = cc

  body-under : (j : ℕ) (m : Node) → slice_get bodies j ≡ Some m → (q : List LiveStep) × (map step_of m.steps ≡ map step_of n.steps ++ At key.Inside ∷ Left ∷ q)
  body-under j m e =
      let w : (q : List LiveStep) × (map step_of m.steps ≡ map step_of first_steps ++ q) × _ = star_shaped.under first_steps (n.path ++ 0 ∷ []) (ToNode (base + (plan (depth_of g.run) body).width)) base j m e in
      (w.0, w.1 ∙ on-left w.0)

  pub star-made : (there : slice_get g.nodes i ≡ Some n) (fork : IsFork (kind_of n.state)) (none : is_among key.Inside (keys_of n.children) ≡ false) (mk : StreamMerge) (r : Router ModelItem) (child : Key → Network)
      (is : at_steps (tree_of g) (map step_of n.steps) ≡ Some (Fork mk r child)) → form_of g n ≡ Some (Net-F.Star place merge body exit guard) → child key.Inside ≡ Series T L → n.left ≡ suc l
      → MadeWell (tree_of g) g.run (all g placed i n key.Inside star_nodes there fork none) (map step_of n.steps) key.Inside (Series T L) base star_nodes
  star-made there fork none mk r child is h c left = record {
    first =
        let w : (m : Node) × (slice_get bodies 0 ≡ Some m) × (map step_of m.steps ≡ map step_of first_steps ++ (part T).entry) = star_shaped.first first_steps (n.path ++ 0 ∷ []) (ToNode (base + (plan (depth_of g.run) body).width)) base in
        (shape_of w.0, ap (λ (m : ℕ). slice_get whole_list m) (omega arith) ∙ back 0 (shape_of w.0) (there-map shape_of star_nodes 0 w.0 (left-there bodies (tap ∷ []) 0 w.0 w.1)), w.2 ∙ on-left (part T).entry);
    distinct = subst DistinctSteps (sym (map-append shape_of bodies (tap ∷ [])))
        (distinct-append (map shape_of bodies) (shape_of tap ∷ []) (star_shaped.distinct first_steps (n.path ++ 0 ∷ []) (ToNode (base + (plan (depth_of g.run) body).width)) base) (tt, tt)
        (λ a x b y u v. apart a x b y (there-unmap shape_of bodies a x u) (there-unmap shape_of (tap ∷ []) b y v)));
    under = λ j m e. elim (split-there bodies (tap ∷ []) j m e) [
      | inl u ↦ (let w : (q : List LiveStep) × (map step_of m.steps ≡ map step_of n.steps ++ At key.Inside ∷ Left ∷ q) = body-under j m u in (Left ∷ w.0, w.1))
      | inr u ↦ (Right ∷ [], ap (λ (x : Node). map step_of x.steps) (sym (only-tap u.0 m u.1)) ∙ tap-is)
    ];
    rooted = λ j m r q o e u. elim (split-there bodies (tap ∷ []) j m e) [
      | inl v ↦ in-body j m r q o v u
      | inr v ↦ in-tap r q o (cancel (map step_of n.steps) (At key.Inside ∷ (r ++ At o ∷ q)) (At key.Inside ∷ Right ∷ []) (sym u ∙ ap (λ (x : Node). map step_of x.steps) (sym (only-tap v.0 m v.1)) ∙ tap-is))
    ];
    stand = λ j m e. elim (split-there bodies (tap ∷ []) j m e) [
      | inl u ↦ (all-Standing g.run body).stand (tree_of g) whole_list first_steps (n.path ++ 0 ∷ []) (ToNode (base + (plan (depth_of g.run) body).width)) base
          (body-part g placed i n key.Inside star_nodes there fork none mk r child is (Net-F.Star place merge body exit guard) body h refl)
          (ap (at_steps (tree_of g)) left-is ∙ at_steps-append (tree_of g) q1 (Left ∷ []) (Series T L) at_series)
          (subst (λ (t : LiveTarget). Sends whole_list (ToNode (base + (plan (depth_of g.run) body).width)) t) (sym to-tap) tap-there)
          (λ k y v. back k y (ap (λ (ms : List Shape). slice_get ms k) (map-append shape_of bodies (tap ∷ [])) ∙ left-there (map shape_of bodies) (shape_of tap ∷ []) k y v)) j m u
      | inr u ↦ subst (λ (x : Node). Stands (tree_of g) g.run whole_list (shape_of x)) (only-tap u.0 m u.1) tap-stands
    ];
  }
    where
      whole_list : List Shape
      whole_list = all g placed i n key.Inside star_nodes there fork none

      back : FromOn whole_list base (map shape_of star_nodes)
      back = behind g placed i n key.Inside star_nodes there fork none mk r child is

      at_series : at_steps (tree_of g) q1 ≡ Some (Series T L)
      at_series = at_steps-append (tree_of g) (map step_of n.steps) (At key.Inside ∷ []) (Fork mk r child) is ∙ ap (λ (t : Network). let o : Option Network = Some t in o) c

      to-tap : (part (tree_of g)).target (map step_of first_steps) ≡ LiveToNode (q1 ++ Right ∷ [])
      to-tap =
          ap (part (tree_of g)).target left-is ∙ target-append (tree_of g) q1 (Left ∷ []) (Series T L) at_series
          ∙ ap₂ (λ (e : List LiveStep) (v : LiveTarget). from_target ((part (tree_of g)).target q1) q1 (feeds (LiveToNode (Right ∷ e)) Left v)) (level-entry l) (target-root T)

      width-is : length bodies ≡ (plan (depth_of g.run) body).width
      width-is = star_shaped.width first_steps (n.path ++ 0 ∷ []) (ToNode (base + (plan (depth_of g.run) body).width)) base

      tap-there : HasSteps whole_list (base + (plan (depth_of g.run) body).width) (q1 ++ Right ∷ [])
      tap-there = (shape_of tap, at-tap, right-is)
        where
          place_is : base + (plan (depth_of g.run) body).width ≡ base + (length bodies + 0)
          place_is = let w : length bodies ≡ (plan (depth_of g.run) body).width = width-is in omega (arith, w)

          at-tap : slice_get whole_list (base + (plan (depth_of g.run) body).width) ≡ Some (shape_of tap)
          at-tap = ap (λ (m : ℕ). slice_get whole_list m) place_is ∙ back (length bodies + 0) (shape_of tap) (there-map shape_of star_nodes (length bodies + 0) tap (right-there bodies (tap ∷ []) 0 tap refl))

      tap-stands : Stands (tree_of g) g.run whole_list (shape_of tap)
      tap-stands = record {
        form = Net-F.Star place merge body exit guard;
        is_form = h;
        fits = ap (at_steps (tree_of g)) right-is ∙ at_steps-append (tree_of g) q1 (Right ∷ []) (Series T L) at_series ∙ ap (λ (d : ℕ). let o : Option Network = Some (level place merge exit guard T d) in o) (omega (arith, left));
        has_kind = kind-of-fork g.run merge (own_child (base + (plan (depth_of g.run) body).width) ∷ []);
        sends = subst (λ (t : LiveTarget). Sends whole_list (ToChild i (length n.children)) t)
            (sym (ap (part (tree_of g)).target right-is ∙ target-append (tree_of g) q1 (Right ∷ []) (Series T L) at_series
            ∙ ap (λ (v : LiveTarget). from_target ((part (tree_of g)).target q1) q1 (feeds LiveOut Right v)) (target-root L)))
            (kept-of-child g placed i n key.Inside star_nodes there fork none mk r child is);
        keys = (refl, tt);
        doors = λ d x e. no-door d x e;
        whole = tt;
        own_first = λ u. (door_of (own_child (base + (plan (depth_of g.run) body).width)), refl, refl);
      }
        where
          no-door : {X : Type 0} (d : ℕ) (x : Door) → slice_get (door_of (own_child (base + (plan (depth_of g.run) body).width)) ∷ []) (suc d) ≡ Some x → X
          no-door d x e = cc

      apart : (a : ℕ) (x : Shape) (b : ℕ) (y : Shape) → (v : Node) × (slice_get bodies a ≡ Some v) × (shape_of v ≡ x) → (w : Node) × (slice_get (tap ∷ []) b ≡ Some w) × (shape_of w ≡ y) → steps_eq x.steps y.steps ≡ false
      apart a x b y (v, hv, ev) (w, hw, ew) =
          let u : (q : List LiveStep) × (map step_of v.steps ≡ map step_of n.steps ++ At key.Inside ∷ Left ∷ q) = body-under a v hv in
          ap₂ (λ (s t : List LiveStep). steps_eq s t) (sym (ap (λ (z : Shape). z.steps) ev) ∙ u.1) (sym (ap (λ (z : Shape). z.steps) ew) ∙ ap (λ (z : Node). map step_of z.steps) (sym (only-tap b w hw)) ∙ tap-is)
          ∙ same-front (map step_of n.steps) (At key.Inside ∷ Left ∷ u.0) (At key.Inside ∷ Right ∷ [])

      in-body : (j : ℕ) (m : Node) (r q : List LiveStep) (o : Key) → slice_get bodies j ≡ Some m → map step_of m.steps ≡ map step_of n.steps ++ At key.Inside ∷ (r ++ At o ∷ q)
          → HasRoot star_nodes (map step_of n.steps ++ At key.Inside ∷ r) o
      in-body j m r q o e u =
          let w : (v : List LiveStep) × (map step_of m.steps ≡ map step_of n.steps ++ At key.Inside ∷ Left ∷ v) = body-under j m e in
          at r (cancel (map step_of n.steps) (At key.Inside ∷ (r ++ At o ∷ q)) (At key.Inside ∷ Left ∷ w.0) (sym u ∙ w.1)) u
        where
          at : (r : List LiveStep) → At key.Inside ∷ (r ++ At o ∷ q) ≡ At key.Inside ∷ Left ∷ (body-under j m e).0 → map step_of m.steps ≡ map step_of n.steps ++ At key.Inside ∷ (r ++ At o ∷ q)
              → HasRoot star_nodes (map step_of n.steps ++ At key.Inside ∷ r) o
          at [] a u = cc
          at (z ∷ r) a u =
              let z_is : z ≡ Left = cc in
              let w : HasRoot bodies (map step_of first_steps ++ r) o =
              star_shaped.rooted first_steps (n.path ++ 0 ∷ []) (ToNode (base + (plan (depth_of g.run) body).width)) base j m r q o e
              (u ∙ ap (λ (t : LiveStep). map step_of n.steps ++ At key.Inside ∷ t ∷ (r ++ At o ∷ q)) z_is ∙ sym (on-left (r ++ At o ∷ q))) in
              record {
                at = w.at;
                node = w.node;
                there = left-there bodies (tap ∷ []) w.at w.node w.there;
                steps = w.steps ∙ on-left r ∙ ap (λ (t : LiveStep). map step_of n.steps ++ At key.Inside ∷ t ∷ r) (sym z_is);
                has_key = w.has_key;
              }

      in-tap : {X : Type 0} (r q : List LiveStep) (o : Key) → At key.Inside ∷ (r ++ At o ∷ q) ≡ At key.Inside ∷ Right ∷ [] → X
      in-tap [] q o a = cc
      in-tap (z ∷ []) q o a = cc
      in-tap (z ∷ y ∷ r) q o a = cc
