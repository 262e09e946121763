-- The nodes of a new child.
use Rattle.std.proofs.Common.{◌≡◌, ℕ, zero, suc, ◌+◌, ◌-◌, Bool, true, false, if◌then◌else◌, List, [], ◌∷◌, ◌++◌, map, length, Option, Some, None, refl, sym, ap, ◌∙◌, subst, append_assoc, ◌⊎◌, inl, inr}
use Rattle.std.proofs.lemmas.List.{map-append}
use Rattle.std.specs.Prelude.{slice_get, Result, Ok, Err, ℤ, pos}
use Rattle.std.specs.Ordering.{int_eq}
use Rattle.std.specs.FinMap.{get}
use Rattle.sn_net.specs.Filter.{tag}
use Rattle.sn_record.specs.LabelSet.{Labels}
use Rattle.sn_record.specs.Record.{Entries, is_match}
use Rattle.sn_streams.specs.Forks.{Router, Merge as StreamMerge}
use Rattle.sn_streams.specs.Keys.{Key, key_eq, is_among}
use Rattle.sn_streams.specs.Keys as key
use Rattle.sn_streams.specs.Trees.{Fork, Series, passing, with_own}
use Rattle.sn_tagexpr.specs.declared.expr.TagExpr.{TagExpr}
use Rattle.sn_tagexpr.specs.declared.fault.ExprFault.{ExprFault}
use Rattle.sn_net.specs.declared.net.Net.{Net}
use Rattle.sn_net.specs.declared.net.Net.TheOpen.{Net-F}
use Rattle.sn_net.specs.declared.net.Merge.{Merge as MergeKind}
use Rattle.sn_net.specs.declared.routing.Key.{Key as NetKey}
use Rattle.sn_net.specs.declared.routing.Key.TheVariants as net_key
use Rattle.sn_tagexpr.specs.Evaluation.{worth}
use Rattle.sn_net.specs.Answer.{tag_number}
use Rattle.sn_record.specs.declared.value.Value.{Value}
use Rattle.sn_net.specs.Cell.{Passing}
use Rattle.sn_net.specs.Dispatchers.{Network, stream_key, router, merge_of, level, level_key, replica_child, inside_child, no_way_inside}
use Rattle.sn_net.specs.Item.{ModelItem, Rec, Fault, Stuck}
use Rattle.sn_net.specs.Route.{of_record, exit_key, guarded, tap_key, split_key, replica_key}
use Rattle.sn_model.specs.Meaning.{Setting, tree}
use Rattle.sn_model.specs.Run.{depth_of, setting_of}
use Rattle.sn_model.specs.declared.step.Step.{Step}
use Rattle.sn_model.specs.declared.step.Step.TheVariants as step
use Rattle.sn_view.specs.View.{Child, ToNode, ToChild, Node, View}
use Rattle.sn_view.specs.Parts.{plan, dispatcher, own_child}
use Rattle.sn_view.specs.Next.{router_of, new_nodes}
use Rattle.sn_live.specs.Live.{Step as LiveStep, Left, Right, At}
use Rattle.sn_live.specs.Flat.{steps_eq, FreshAt}
use Rattle.sn_live.proofs.Arena.{steps_eq-true, steps_eq-refl}
use Rattle.sn_view.specs.Seen.{step_of, seen_node, tree_of}
use Rattle.sn_view.specs.Placed.{kind_of, IsFork, HasKind, fit, Shape, shape_of, Door, door_of, HasKey, Stands, NoneAt, DistinctSteps, RootAt, WellPlaced, UnfoldsWell}
use Rattle.sn_view.proofs.Lists.{there-map, there-unmap}
use Rattle.sn_view.proofs.Children.{keys_of, keys-of-doors, key-among}
use Rattle.sn_view.proofs.Shaping.{split-there, further}
use Rattle.sn_view.proofs.Dispatching.{dispatcher-fresh}
use Rattle.sn_view.proofs.Plans.{all-Shaped}

-- the children of a fork are its own
pub same-children : (m m' : StreamMerge) (r r' : Router ModelItem) (c c' : Key → Network) → Fork m r c ≡ Fork m' r' c' → c ≡ c'
same-children m m' r r' c c' e = cc

never : {X : Type 0} → true ≡ false → X
never e = cc

-- two nodes with the same steps are one
pub same-node : (ms : List Shape) (i j : ℕ) (a b : Shape) → DistinctSteps ms → slice_get ms i ≡ Some a → slice_get ms j ≡ Some b → a.steps ≡ b.steps → a ≡ b
same-node [] i j a b d e h s = cc
same-node (m ∷ ms) zero zero a b d e h s = cc
same-node (m ∷ ms) zero (suc j) a b (n, d) e h s =
    let u : m ≡ a = cc in
    never (sym (steps_eq-refl b.steps) ∙ ap (λ (q : List LiveStep). steps_eq q b.steps) (sym s ∙ sym (ap (λ (x : Shape). x.steps) u)) ∙ none ms j n h)
  where
    none : (ms : List Shape) (j : ℕ) → NoneAt m.steps ms → slice_get ms j ≡ Some b → steps_eq m.steps b.steps ≡ false
    none [] j n h = cc
    none (x ∷ ms) zero (f, n) h = let v : x ≡ b = cc in ap (λ (y : Shape). steps_eq m.steps y.steps) (sym v) ∙ f
    none (x ∷ ms) (suc j) (f, n) h = none ms j n h
same-node (m ∷ ms) (suc i) zero a b (n, d) e h s =
    let u : m ≡ b = cc in
    never (sym (steps_eq-refl a.steps) ∙ ap (λ (q : List LiveStep). steps_eq q a.steps) (s ∙ sym (ap (λ (x : Shape). x.steps) u)) ∙ none ms i n e)
  where
    none : (ms : List Shape) (j : ℕ) → NoneAt m.steps ms → slice_get ms j ≡ Some a → steps_eq m.steps a.steps ≡ false
    none [] j n h = cc
    none (x ∷ ms) zero (f, n) h = let v : x ≡ a = cc in ap (λ (y : Shape). steps_eq m.steps y.steps) (sym v) ∙ f
    none (x ∷ ms) (suc j) (f, n) h = none ms j n h
same-node (m ∷ ms) (suc i) (suc j) a b (n, d) e h s = same-node ms i j a b d e h s

-- a star sends an item past, or inside where a replica is left
record TapCase (k : NetKey) : Type 0 where
  past : (l : ℕ) (place : ℕ) → (stream_key (no_way_inside place k) ≡ key.Own)
  inside : (stream_key k ≡ key.Own) ⊎ (stream_key k ≡ key.Inside)

bypass-case : TapCase net_key.Bypass
bypass-case = record { past = λ l p. refl; inside = inl refl }

inside-case : TapCase net_key.Inside
inside-case = record { past = λ l p. refl; inside = inr refl }

broken-case : (f : _) → TapCase (net_key.Broken f)
broken-case f = record { past = λ l p. refl; inside = inl refl }

tap-case : (place : ℕ) (exit : Labels) (guard : Option TagExpr) (r : Entries) → TapCase (tap_key place exit guard r)
tap-case place exit guard r = at (is_match r exit) guard
  where
    guard-case : (o : Result ℤ ExprFault) → TapCase (guarded place o)
    guard-case (Err f) = broken-case _
    guard-case (Ok n) = on (int_eq n (pos 0))
      where
        on : (b : Bool) → TapCase (if b then net_key.Inside else net_key.Bypass)
        on true = inside-case
        on false = bypass-case

    exit-case : (guard : Option TagExpr) → TapCase (exit_key place guard r)
    exit-case None = bypass-case
    exit-case (Some g) = guard-case (worth (tag_number r) g)

    at : (b : Bool) (guard : Option TagExpr) → TapCase (if b then exit_key place guard r else net_key.Inside)
    at true guard = exit-case guard
    at false guard = inside-case

abbrev pub star_router : ℕ → Labels → Option TagExpr → ℕ → Router ModelItem
star_router place exit guard left = router place (of_record (level_key place exit guard left))

pub star-key : (place : ℕ) (exit : Labels) (guard : Option TagExpr) (left : ℕ) (x : ModelItem)
    → ((star_router place exit guard left).key x ≡ key.Own) ⊎ ((l : ℕ) × (left ≡ suc l) × ((star_router place exit guard left).key x ≡ key.Inside))
star-key place exit guard left (Fault f) = inl refl
star-key place exit guard left (Stuck p) = inl refl
star-key place exit guard zero (Rec r) = inl ((tap-case place exit guard r).past 0 place)
star-key place exit guard (suc l) (Rec r) = elim ((tap-case place exit guard r).inside) [ inl h ↦ inl h | inr h ↦ inr (l, refl, h) ]

abbrev pub split_router : ℕ → ℕ → Router ModelItem
split_router place id = router place (of_record (split_key id))

-- a split sends an item past, or to the replica of a value
pub split-at : (o : Option Value) → (stream_key (replica_key o) ≡ key.Own) ⊎ ((v : ℤ) × (stream_key (replica_key o) ≡ key.Value v))
split-at None = inl refl
split-at (Some value) = inr (_, refl)

module _ (g : View) (placed : WellPlaced g) where
  -- no node stands below a child that is not there
  pub absent : (i : ℕ) (n : Node) (k : Key) → slice_get g.nodes i ≡ Some n → is_among k (keys_of n.children) ≡ false → (j : ℕ) (m : Node) (q : List LiveStep) → slice_get g.nodes j ≡ Some m
      → steps_eq (map step_of n.steps ++ At k ∷ q) (map step_of m.steps) ≡ false
  absent i n k e none j m q h = at (steps_eq (map step_of n.steps ++ At k ∷ q) (map step_of m.steps)) refl
    where
      at : (b : Bool) → steps_eq (map step_of n.steps ++ At k ∷ q) (map step_of m.steps) ≡ b → b ≡ false
      at false u = refl
      at true u =
          let r : RootAt (map shape_of g.nodes) (map step_of n.steps) k =
          placed.rooted j (shape_of m) (map step_of n.steps) q k (there-map shape_of g.nodes j m h) (sym (steps_eq-true (map step_of n.steps ++ At k ∷ q) (map step_of m.steps) u)) in
          let s : r.1 ≡ shape_of n = same-node (map shape_of g.nodes) r.0 i r.1 (shape_of n) placed.distinct r.2 (there-map shape_of g.nodes i n e) r.3 in
          never (sym r.4 ∙ ap (λ (x : Shape). is_among k (map (λ (d : Door). d.key) x.doors)) s ∙ ap (is_among k) (keys-of-doors n.children) ∙ none)

  pub own-there : (i : ℕ) (n : Node) → slice_get g.nodes i ≡ Some n → IsFork (kind_of n.state) → is_among key.Own (keys_of n.children) ≡ true
  own-there i n e f =
      let h : HasKey (map door_of n.children) 0 key.Own = (placed.all i (shape_of n) (there-map shape_of g.nodes i n e)).own_first f in
      let c : (x : Child) × (slice_get n.children 0 ≡ Some x) × (door_of x ≡ h.0) = there-unmap door_of n.children 0 h.0 h.1 in
      ap (λ (k : Key). is_among k (keys_of n.children)) (sym (ap (λ (d : Door). d.key) c.2 ∙ h.2)) ∙ key-among n.children 0 c.0 c.1

  abbrev Below : Node → Key → Network → List Node → Type 0
  Below n k child new = (j : ℕ) (m : Node) → slice_get new j ≡ Some m → (q : List LiveStep) × (map step_of m.steps ≡ map step_of n.steps ++ At k ∷ q) × FreshAt child q (seen_node m)

  two-further : (p : List Step) (x y : Step) (q : List LiveStep) → map step_of (p ++ x ∷ y ∷ []) ++ q ≡ map step_of p ++ step_of x ∷ step_of y ∷ q
  two-further p x y q = ap (λ (w : List LiveStep). w ++ q) (map-append step_of p (x ∷ y ∷ [])) ∙ append_assoc (map step_of p) (step_of x ∷ step_of y ∷ []) q

  module _ (i : ℕ) (n : Node) where
    -- the replica of a star, and the tap behind it
    of_star : (place : ℕ) (merge : MergeKind) (body : Net) (exit : Labels) (guard : Option TagExpr) (l : ℕ) (base : ℕ) → n.left ≡ suc l
        → Below n key.Inside (Series (tree (setting_of g.run) body) (level place merge exit guard (tree (setting_of g.run) body) l)) (new_nodes (depth_of g.run) (Some (Net-F.Star place merge body exit guard)) key.Inside i n base)
    of_star place merge body exit guard l base left j m e = at (split-there bodies (tap ∷ []) j m e)
      where
        s : Setting
        s = setting_of g.run

        bodies : List Node
        bodies = (plan (depth_of g.run) body).nodes (n.steps ++ step.Inside ∷ step.Left ∷ []) (n.path ++ 0 ∷ []) (ToNode (base + (plan (depth_of g.run) body).width)) base

        tap : Node
        tap = dispatcher merge (n.left - 1) (own_child (base + (plan (depth_of g.run) body).width) ∷ []) (n.steps ++ step.Inside ∷ step.Right ∷ []) n.path (ToChild i (length n.children))

        fresh-tap : (d : ℕ) → FreshAt (level place merge exit guard (tree (setting_of g.run) body) d) [] (seen_node tap)
        fresh-tap zero = dispatcher-fresh merge (n.left - 1) (own_child (base + (plan (depth_of g.run) body).width) ∷ []) (n.steps ++ step.Inside ∷ step.Right ∷ []) n.path (ToChild i (length n.children)) (refl, tt)
        fresh-tap (suc d) = dispatcher-fresh merge (n.left - 1) (own_child (base + (plan (depth_of g.run) body).width) ∷ []) (n.steps ++ step.Inside ∷ step.Right ∷ []) n.path (ToChild i (length n.children)) (refl, tt)

        only : (l : ℕ) → slice_get (tap ∷ []) l ≡ Some m → tap ≡ m
        only zero u = cc
        only (suc l) u = cc

        at : (slice_get bodies j ≡ Some m) ⊎ ((c : ℕ) × (slice_get (tap ∷ []) c ≡ Some m))
            → (q : List LiveStep) × (map step_of m.steps ≡ map step_of n.steps ++ At key.Inside ∷ q) × FreshAt (Series (tree (setting_of g.run) body) (level place merge exit guard (tree (setting_of g.run) body) l)) q (seen_node m)
        at (inl u) =
            let f : (q : List LiveStep) × (map step_of m.steps ≡ map step_of (n.steps ++ step.Inside ∷ step.Left ∷ []) ++ q) × FreshAt (tree (setting_of g.run) body) q (seen_node m) =
            (all-Shaped (setting_of g.run) body).under (n.steps ++ step.Inside ∷ step.Left ∷ []) (n.path ++ 0 ∷ []) (ToNode (base + (plan (depth_of g.run) body).width)) base j m u in
            (Left ∷ f.0, f.1 ∙ two-further n.steps step.Inside step.Left f.0, f.2)
        at (inr u) =
            let v : tap ≡ m = only u.0 u.1 in (
              Right ∷ [],
              ap (λ (x : Node). map step_of x.steps) (sym v) ∙ map-append step_of n.steps (step.Inside ∷ step.Right ∷ []),
              subst (λ (x : Node). FreshAt (level place merge exit guard (tree (setting_of g.run) body) l) [] (seen_node x)) v (fresh-tap l),
            )

    -- the replica of a split
    of_split : (place : ℕ) (merge : MergeKind) (body : Net) (id : ℕ) (v : ℤ) (base : ℕ)
        → Below n (key.Value v) (tree (setting_of g.run) body) (new_nodes (depth_of g.run) (Some (Net-F.Split place merge body id)) (key.Value v) i n base)
    of_split place merge body id v base j m e =
        let f : (q : List LiveStep) × (map step_of m.steps ≡ map step_of (n.steps ++ step.Value v ∷ []) ++ q) × FreshAt (tree (setting_of g.run) body) q (seen_node m) =
        (all-Shaped (setting_of g.run) body).under (n.steps ++ step.Value v ∷ []) (n.path ++ 0 ∷ []) (ToChild i (length n.children)) base j m e in
        (f.0, f.1 ∙ further n.steps (step.Value v) f.0, f.2)

    module _ (x : ModelItem) (merge : StreamMerge) (r : Router ModelItem) (child : Key → Network) (e : slice_get g.nodes i ≡ Some n)
        (fork : IsFork (kind_of n.state)) (none : is_among (r.key x) (keys_of n.children) ≡ false) where
      abbrev Made : Net-F Net → Type 0
      Made form = Below n (r.key x) (child (r.key x)) (new_nodes (depth_of g.run) (Some form) (r.key x) i n (length g.nodes))

      not-past : {X : Type 0} → r.key x ≡ key.Own → X
      not-past h = never (sym (own-there i n e fork) ∙ ap (λ (k : Key). is_among k (keys_of n.children)) (sym h) ∙ none)

      at-key : (form : Net-F Net) (k : Key) (t : Network) → r.key x ≡ k → child k ≡ t → Below n k t (new_nodes (depth_of g.run) (Some form) k i n (length g.nodes)) → Made form
      at-key form k t h c b =
          let P : Key → Type 0 = λ j. Below n j (child j) (new_nodes (depth_of g.run) (Some form) j i n (length g.nodes)) in
          subst P (sym h) (let Q : Network → Type 0 = λ u. Below n k u (new_nodes (depth_of g.run) (Some form) k i n (length g.nodes)) in subst Q (sym c) b)

      by-form : (form : Net-F Net) (count : ℕ) → HasKind form count (kind_of n.state) → Fork merge r child ≡ fit (setting_of g.run) form n.left → router_of (Some form) n.left ≡ Some r → Made form
      by-form (Net-F.Box place number) count k eq routes = cc
      by-form (Net-F.Filter filter) count k eq routes = cc
      by-form (Net-F.Sync place patterns) count k eq routes = cc
      by-form (Net-F.Serial first second) count k eq routes = absurd k
      by-form (Net-F.Choice place m branches faces) count k eq routes = λ j y h. nothing-there j y h
        where
          nothing-there : {X : Type 0} (j : ℕ) (y : Node) → slice_get [] j ≡ Some y → X
          nothing-there j y h = cc
      by-form (Net-F.Star place m body exit guard) count k eq routes =
          let same : star_router place exit guard n.left ≡ r = cc in
          at (star-key place exit guard n.left x) same
        where
          at : ((star_router place exit guard n.left).key x ≡ key.Own) ⊎ ((l : ℕ) × (n.left ≡ suc l) × ((star_router place exit guard n.left).key x ≡ key.Inside)) → star_router place exit guard n.left ≡ r → Made (Net-F.Star place m body exit guard)
          at (inl h) same = not-past (ap (λ (q : Router ModelItem). q.key x) (sym same) ∙ h)
          at (inr (l, left, h)) same =
              let t : Network = Series (tree (setting_of g.run) body) (level place m exit guard (tree (setting_of g.run) body) l) in
              let eq' : Fork merge r child ≡ level place m exit guard (tree (setting_of g.run) body) (suc l) = eq ∙ ap (level place m exit guard (tree (setting_of g.run) body)) left in
              let c : child ≡ with_own (star_router place exit guard (suc l)) Passing (inside_child t (passing (star_router place exit guard (suc l)) Passing)) =
              same-children merge (merge_of m) r (star_router place exit guard (suc l)) child (with_own (star_router place exit guard (suc l)) Passing (inside_child t (passing (star_router place exit guard (suc l)) Passing))) eq' in
              at-key (Net-F.Star place m body exit guard) key.Inside t (ap (λ (q : Router ModelItem). q.key x) (sym same) ∙ h) (ap (λ (f : Key → Network). f key.Inside) c)
              (of_star place m body exit guard l (length g.nodes) left)
      by-form (Net-F.Split place m body id) count k eq routes =
          let same : split_router place id ≡ r = cc in at x refl same
        where
          c : child ≡ with_own (split_router place id) Passing (replica_child (tree (setting_of g.run) body) (passing (split_router place id) Passing))
          c = same-children merge (merge_of m) r (split_router place id) child
              (with_own (split_router place id) Passing (replica_child (tree (setting_of g.run) body) (passing (split_router place id) Passing))) eq

          past : (y : ModelItem) → x ≡ y → split_router place id ≡ r → (split_router place id).key y ≡ key.Own → Made (Net-F.Split place m body id)
          past y u same h = not-past (ap (λ (q : Router ModelItem). q.key x) (sym same) ∙ ap (split_router place id).key u ∙ h)

          at : (y : ModelItem) → x ≡ y → split_router place id ≡ r → Made (Net-F.Split place m body id)
          at (Fault f) u same = past (Fault f) u same refl
          at (Stuck p) u same = past (Stuck p) u same refl
          at (Rec y) u same = elim (split-at (get y (tag id))) [
            | inl h ↦ past (Rec y) u same h
            | inr h ↦ at-key (Net-F.Split place m body id) (key.Value h.0) (tree (setting_of g.run) body)
                (ap (λ (q : Router ModelItem). q.key x) (sym same) ∙ ap (split_router place id).key u ∙ h.1)
                (ap (λ (f : Key → Network). f (key.Value h.0)) c) (of_split place m body id h.0 (length g.nodes))
          ]

  pub unfolds-well : UnfoldsWell g
  unfolds-well i n x merge r child e is routes fork none =
      let s : Stands (tree_of g) g.run (map shape_of g.nodes) (shape_of n) = placed.all i (shape_of n) (there-map shape_of g.nodes i n e) in
      let eq : Fork merge r child ≡ fit (setting_of g.run) s.form n.left = (let u : Some (Fork merge r child) ≡ Some (fit (setting_of g.run) s.form n.left) = sym is ∙ s.fits in cc) in (
        absent i n (r.key x) e none,
        (let P : Option (Net-F Net) → Type 0 = λ o. Below n (r.key x) (child (r.key x)) (new_nodes (depth_of g.run) o (r.key x) i n (length g.nodes)) in
            subst P (sym s.is_form)
            (by-form i n x merge r child e fork none s.form (length (shape_of n).doors) s.has_kind eq (ap (λ (o : Option (Net-F Net)). router_of o n.left) (sym s.is_form) ∙ routes))),
      )
