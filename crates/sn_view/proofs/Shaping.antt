-- The nodes that the plan of a network makes: where they stand, and that nothing came in at them.
use Rattle.std.proofs.Common.{◌≡◌, ℕ, zero, suc, ◌+◌, true, false, ◌&&◌, List, [], ◌∷◌, ◌++◌, map, length, Some, refl, sym, ap, ap₂, ◌∙◌, subst, arith, append_assoc, append-nil, length-append, ◌⊎◌, inl, inr}
use Rattle.std.proofs.lemmas.List.{map-append}
use Rattle.std.specs.Prelude.{slice_get}
use Rattle.sn_streams.specs.Keys.{Key, is_among}
use Rattle.sn_streams.specs.Trees.{Series}
use Rattle.sn_net.specs.Dispatchers.{Network}
use Rattle.sn_model.specs.declared.step.Step.{Step}
use Rattle.sn_model.specs.declared.step.Step.TheVariants as step
use Rattle.sn_view.specs.View.{Target, ToNode, Node}
use Rattle.sn_view.specs.Parts.{Plan, serial_plan}
use Rattle.sn_live.specs.Live.{Step as LiveStep, Left, Right, At}
use Rattle.sn_live.specs.Parts.{part}
use Rattle.sn_live.specs.Flat.{steps_eq, FreshAt}
use Rattle.sn_live.proofs.Arena.{step_eq-refl}
use Rattle.sn_view.specs.Seen.{step_of, seen_node}
use Rattle.sn_view.specs.Placed.{Shape, shape_of, NoneAt, DistinctSteps}
use Rattle.sn_view.proofs.Lists.{there-unmap}
use Rattle.sn_view.proofs.Children.{keys_of}

-- lists one behind the other
module _ {X : Type 0} where
  pub left-there : (xs ys : List X) (j : ℕ) (m : X) → slice_get xs j ≡ Some m → slice_get (xs ++ ys) j ≡ Some m
  left-there [] ys j m e = cc
  left-there (x ∷ xs) ys zero m e = e
  left-there (x ∷ xs) ys (suc j) m e = left-there xs ys j m e

  pub right-there : (xs ys : List X) (j : ℕ) (m : X) → slice_get ys j ≡ Some m → slice_get (xs ++ ys) (length xs + j) ≡ Some m
  right-there [] ys j m e = ap (λ (i : ℕ). slice_get ys i) zero-plus ∙ e
    where
      zero-plus : 0 + j ≡ j
      zero-plus = omega arith
  right-there (x ∷ xs) ys j m e = ap (λ (i : ℕ). slice_get (x ∷ (xs ++ ys)) i) suc-plus ∙ right-there xs ys j m e
    where
      suc-plus : suc (length xs) + j ≡ suc (length xs + j)
      suc-plus = omega arith

  pub split-there : (xs ys : List X) (j : ℕ) (m : X) → slice_get (xs ++ ys) j ≡ Some m → (slice_get xs j ≡ Some m) ⊎ ((i : ℕ) × (slice_get ys i ≡ Some m))
  split-there [] ys j m e = inr (j, e)
  split-there (x ∷ xs) ys zero m e = inl e
  split-there (x ∷ xs) ys (suc j) m e = split-there xs ys j m e

  pub cancel : (s a b : List X) → s ++ a ≡ s ++ b → a ≡ b
  cancel [] a b e = e
  cancel (x ∷ s) a b e = cancel s a b (let u : s ++ a ≡ s ++ b = cc in u)

pub same-front : (s p r : List LiveStep) → steps_eq (s ++ p) (s ++ r) ≡ steps_eq p r
same-front [] p r = refl
same-front (x ∷ s) p r = ap (λ b. b && steps_eq (s ++ p) (s ++ r)) (step_eq-refl x) ∙ same-front s p r

-- one step more
pub further : (s : List Step) (x : Step) (q : List LiveStep) → map step_of (s ++ x ∷ []) ++ q ≡ map step_of s ++ step_of x ∷ q
further s x q = ap (λ (p : List LiveStep). p ++ q) (map-append step_of s (x ∷ [])) ∙ append_assoc (map step_of s) (step_of x ∷ []) q

none-append : (s : List LiveStep) (xs ys : List Shape) → NoneAt s xs → NoneAt s ys → NoneAt s (xs ++ ys)
none-append s [] ys a b = b
none-append s (x ∷ xs) ys (a, c) b = (a, none-append s xs ys c b)

pub none-from : (s : List LiveStep) (ys : List Shape) → ((j : ℕ) (m : Shape) → slice_get ys j ≡ Some m → steps_eq s m.steps ≡ false) → NoneAt s ys
none-from s [] h = tt
none-from s (y ∷ ys) h = (h 0 y refl, none-from s ys (λ j m e. h (suc j) m e))

pub distinct-append : (xs ys : List Shape) → DistinctSteps xs → DistinctSteps ys
    → ((i : ℕ) (x : Shape) (j : ℕ) (y : Shape) → slice_get xs i ≡ Some x → slice_get ys j ≡ Some y → steps_eq x.steps y.steps ≡ false) → DistinctSteps (xs ++ ys)
distinct-append [] ys d e h = e
distinct-append (x ∷ xs) ys (a, d) e h =
    (none-append x.steps xs ys a (none-from x.steps ys (λ j y u. h 0 x j y refl u)), distinct-append xs ys d e (λ i z j y u v. h (suc i) z j y u v))

-- the place of nodes
pub record HasRoot (ns : List Node) (s : List LiveStep) (k : Key) : Type 0 where
  pub at : ℕ
  pub node : Node
  pub there : slice_get ns at ≡ Some node
  pub steps : map step_of node.steps ≡ s
  pub has_key : is_among k (keys_of node.children) ≡ true

pub record Shaped (u : Network) (p : Plan) : Type 0 where
  pub width : (s : List Step) (path : List ℕ) (goes : Target) (b : ℕ) → length (p.nodes s path goes b) ≡ p.width
  pub first : (s : List Step) (path : List ℕ) (goes : Target) (b : ℕ) → (m : Node) × (slice_get (p.nodes s path goes b) 0 ≡ Some m) × (map step_of m.steps ≡ map step_of s ++ (part u).entry)
  pub under : (s : List Step) (path : List ℕ) (goes : Target) (b j : ℕ) (m : Node) → slice_get (p.nodes s path goes b) j ≡ Some m
      → (q : List LiveStep) × (map step_of m.steps ≡ map step_of s ++ q) × FreshAt u q (seen_node m)
  pub distinct : (s : List Step) (path : List ℕ) (goes : Target) (b : ℕ) → DistinctSteps (map shape_of (p.nodes s path goes b))
  pub rooted : (s : List Step) (path : List ℕ) (goes : Target) (b j : ℕ) (m : Node) (r q : List LiveStep) (k : Key) → slice_get (p.nodes s path goes b) j ≡ Some m
      → map step_of m.steps ≡ map step_of s ++ (r ++ At k ∷ q) → HasRoot (p.nodes s path goes b) (map step_of s ++ r) k

-- one node alone
module _ (n : List Step → List ℕ → Target → ℕ → Node) (steps : (s : List Step) (path : List ℕ) (goes : Target) (b : ℕ) → (n s path goes b).steps ≡ s) where
  abbrev one_plan : Plan
  one_plan = record { width = 1; nodes = λ s path goes b. n s path goes b ∷ [] }

  only : (s : List Step) (path : List ℕ) (goes : Target) (b j : ℕ) (m : Node) → slice_get (n s path goes b ∷ []) j ≡ Some m → n s path goes b ≡ m
  only s path goes b zero m e = cc
  only s path goes b (suc j) m e = cc

  no-more : (s : List LiveStep) (r q : List LiveStep) (k : Key) → s ≡ s ++ (r ++ At k ∷ q) → ⊥
  no-more s r q k e = empty r (cancel s [] (r ++ At k ∷ q) (append-nil s ∙ e))
    where
      empty : (r : List LiveStep) → [] ≡ r ++ At k ∷ q → ⊥
      empty [] h = cc
      empty (x ∷ r) h = cc

  pub one-Shaped : (u : Network) → (part u).entry ≡ [] → ((s : List Step) (path : List ℕ) (goes : Target) (b : ℕ) → FreshAt u [] (seen_node (n s path goes b))) → Shaped u one_plan
  one-Shaped u entry fresh = record {
    width = λ s path goes b. refl;
    first = λ s path goes b. (n s path goes b, refl, ap (map step_of) (steps s path goes b) ∙ sym (ap (λ (q : List LiveStep). map step_of s ++ q) entry ∙ append-nil (map step_of s)));
    under = λ s path goes b j m e.
        let i : n s path goes b ≡ m = only s path goes b j m e in (
          [],
          ap (λ (x : Node). map step_of x.steps) (sym i) ∙ ap (map step_of) (steps s path goes b) ∙ sym (append-nil (map step_of s)),
          subst (λ (x : Node). FreshAt u [] (seen_node x)) i (fresh s path goes b),
        );
    distinct = λ s path goes b. (tt, tt);
    rooted = λ s path goes b j m r q k e h.
        let i : n s path goes b ≡ m = only s path goes b j m e in
        absurd (no-more (map step_of s) r q k (sym (ap (λ (x : Node). map step_of x.steps) (sym i) ∙ ap (map step_of) (steps s path goes b)) ∙ h));
  }

-- two in series
module _ (a b : Network) (p q : Plan) (x : Shaped a p) (y : Shaped b q) where
  abbrev lefts : List Step → List ℕ → Target → ℕ → List Node
  lefts s path goes n = p.nodes (s ++ step.Left ∷ []) (path ++ 0 ∷ []) (ToNode (n + p.width)) n

  abbrev rights : List Step → List ℕ → Target → ℕ → List Node
  rights s path goes n = q.nodes (s ++ step.Right ∷ []) (path ++ 1 ∷ []) goes (n + p.width)

  left-under : (s : List Step) (path : List ℕ) (goes : Target) (n j : ℕ) (m : Node) → slice_get (lefts s path goes n) j ≡ Some m
      → (w : List LiveStep) × (map step_of m.steps ≡ map step_of s ++ Left ∷ w) × FreshAt a w (seen_node m)
  left-under s path goes n j m e =
      let u : (w : List LiveStep) × (map step_of m.steps ≡ map step_of (s ++ step.Left ∷ []) ++ w) × FreshAt a w (seen_node m) =
      x.under (s ++ step.Left ∷ []) (path ++ 0 ∷ []) (ToNode (n + p.width)) n j m e in (u.0, u.1 ∙ further s step.Left u.0, u.2)

  right-under : (s : List Step) (path : List ℕ) (goes : Target) (n j : ℕ) (m : Node) → slice_get (rights s path goes n) j ≡ Some m
      → (w : List LiveStep) × (map step_of m.steps ≡ map step_of s ++ Right ∷ w) × FreshAt b w (seen_node m)
  right-under s path goes n j m e =
      let u : (w : List LiveStep) × (map step_of m.steps ≡ map step_of (s ++ step.Right ∷ []) ++ w) × FreshAt b w (seen_node m) =
      y.under (s ++ step.Right ∷ []) (path ++ 1 ∷ []) goes (n + p.width) j m e in (u.0, u.1 ∙ further s step.Right u.0, u.2)

  pub series-Shaped : Shaped (Series a b) (serial_plan p q)
  series-Shaped = record {
    width = λ s path goes n. length-append (lefts s path goes n) (rights s path goes n)
        ∙ ap₂ (λ (i j : ℕ). i + j) (x.width (s ++ step.Left ∷ []) (path ++ 0 ∷ []) (ToNode (n + p.width)) n) (y.width (s ++ step.Right ∷ []) (path ++ 1 ∷ []) goes (n + p.width));
    first = λ s path goes n.
        let u : (m : Node) × (slice_get (lefts s path goes n) 0 ≡ Some m) × (map step_of m.steps ≡ map step_of (s ++ step.Left ∷ []) ++ (part a).entry) =
        x.first (s ++ step.Left ∷ []) (path ++ 0 ∷ []) (ToNode (n + p.width)) n in
        (u.0, left-there (lefts s path goes n) (rights s path goes n) 0 u.0 u.1, u.2 ∙ further s step.Left (part a).entry);
    under = λ s path goes n j m e. elim (split-there (lefts s path goes n) (rights s path goes n) j m e) [
      | inl h ↦ (let u : (w : List LiveStep) × (map step_of m.steps ≡ map step_of s ++ Left ∷ w) × FreshAt a w (seen_node m) = left-under s path goes n j m h in (Left ∷ u.0, u.1, u.2))
      | inr h ↦ (let u : (w : List LiveStep) × (map step_of m.steps ≡ map step_of s ++ Right ∷ w) × FreshAt b w (seen_node m) = right-under s path goes n h.0 m h.1 in (Right ∷ u.0, u.1, u.2))
    ];
    distinct = λ s path goes n.
        subst DistinctSteps (sym (map-append shape_of (lefts s path goes n) (rights s path goes n)))
        (distinct-append (map shape_of (lefts s path goes n)) (map shape_of (rights s path goes n))
        (x.distinct (s ++ step.Left ∷ []) (path ++ 0 ∷ []) (ToNode (n + p.width)) n) (y.distinct (s ++ step.Right ∷ []) (path ++ 1 ∷ []) goes (n + p.width))
        (λ i c j d h k. apart s path goes n i c j d (there-unmap shape_of (lefts s path goes n) i c h) (there-unmap shape_of (rights s path goes n) j d k)));
    rooted = λ s path goes n j m r w k e h. elim (split-there (lefts s path goes n) (rights s path goes n) j m e) [
      | inl g ↦ in-left s path goes n j m r w k g h
      | inr g ↦ in-right s path goes n g.0 m r w k g.1 h
    ];
  }
    where
      apart : (s : List Step) (path : List ℕ) (goes : Target) (n i : ℕ) (c : Shape) (j : ℕ) (d : Shape)
          → (v : Node) × (slice_get (lefts s path goes n) i ≡ Some v) × (shape_of v ≡ c) → (v : Node) × (slice_get (rights s path goes n) j ≡ Some v) × (shape_of v ≡ d)
          → steps_eq c.steps d.steps ≡ false
      apart s path goes n i c j d (v, hv, ev) (w, hw, ew) =
          let l : (t : List LiveStep) × (map step_of v.steps ≡ map step_of s ++ Left ∷ t) × FreshAt a t (seen_node v) = left-under s path goes n i v hv in
          let r : (t : List LiveStep) × (map step_of w.steps ≡ map step_of s ++ Right ∷ t) × FreshAt b t (seen_node w) = right-under s path goes n j w hw in
          ap₂ (λ (o t : List LiveStep). steps_eq o t) (sym (ap (λ (z : Shape). z.steps) ev) ∙ l.1) (sym (ap (λ (z : Shape). z.steps) ew) ∙ r.1)
          ∙ same-front (map step_of s) (Left ∷ l.0) (Right ∷ r.0)

      in-left : (s : List Step) (path : List ℕ) (goes : Target) (n j : ℕ) (m : Node) (r w : List LiveStep) (k : Key) → slice_get (lefts s path goes n) j ≡ Some m
          → map step_of m.steps ≡ map step_of s ++ (r ++ At k ∷ w) → HasRoot (lefts s path goes n ++ rights s path goes n) (map step_of s ++ r) k
      in-left s path goes n j m r w k e h =
          let l : (t : List LiveStep) × (map step_of m.steps ≡ map step_of s ++ Left ∷ t) × FreshAt a t (seen_node m) = left-under s path goes n j m e in
          at r (cancel (map step_of s) (r ++ At k ∷ w) (Left ∷ l.0) (sym h ∙ l.1)) h
        where
          at : (r : List LiveStep) → r ++ At k ∷ w ≡ Left ∷ (left-under s path goes n j m e).0 → map step_of m.steps ≡ map step_of s ++ (r ++ At k ∷ w)
              → HasRoot (lefts s path goes n ++ rights s path goes n) (map step_of s ++ r) k
          at [] i h = cc
          at (z ∷ r) i h =
              let z_is : z ≡ Left = cc in
              let f : HasRoot (lefts s path goes n) (map step_of (s ++ step.Left ∷ []) ++ r) k =
              x.rooted (s ++ step.Left ∷ []) (path ++ 0 ∷ []) (ToNode (n + p.width)) n j m r w k e
              (h ∙ ap (λ (o : LiveStep). map step_of s ++ o ∷ (r ++ At k ∷ w)) z_is ∙ sym (further s step.Left (r ++ At k ∷ w))) in
              record {
                at = f.at;
                node = f.node;
                there = left-there (lefts s path goes n) (rights s path goes n) f.at f.node f.there;
                steps = f.steps ∙ further s step.Left r ∙ ap (λ (o : LiveStep). map step_of s ++ o ∷ r) (sym z_is);
                has_key = f.has_key;
              }

      in-right : (s : List Step) (path : List ℕ) (goes : Target) (n j : ℕ) (m : Node) (r w : List LiveStep) (k : Key) → slice_get (rights s path goes n) j ≡ Some m
          → map step_of m.steps ≡ map step_of s ++ (r ++ At k ∷ w) → HasRoot (lefts s path goes n ++ rights s path goes n) (map step_of s ++ r) k
      in-right s path goes n j m r w k e h =
          let l : (t : List LiveStep) × (map step_of m.steps ≡ map step_of s ++ Right ∷ t) × FreshAt b t (seen_node m) = right-under s path goes n j m e in
          at r (cancel (map step_of s) (r ++ At k ∷ w) (Right ∷ l.0) (sym h ∙ l.1)) h
        where
          at : (r : List LiveStep) → r ++ At k ∷ w ≡ Right ∷ (right-under s path goes n j m e).0 → map step_of m.steps ≡ map step_of s ++ (r ++ At k ∷ w)
              → HasRoot (lefts s path goes n ++ rights s path goes n) (map step_of s ++ r) k
          at [] i h = cc
          at (z ∷ r) i h =
              let z_is : z ≡ Right = cc in
              let f : HasRoot (rights s path goes n) (map step_of (s ++ step.Right ∷ []) ++ r) k =
              y.rooted (s ++ step.Right ∷ []) (path ++ 1 ∷ []) goes (n + p.width) j m r w k e
              (h ∙ ap (λ (o : LiveStep). map step_of s ++ o ∷ (r ++ At k ∷ w)) z_is ∙ sym (further s step.Right (r ++ At k ∷ w))) in
              record {
                at = length (lefts s path goes n) + f.at;
                node = f.node;
                there = right-there (lefts s path goes n) (rights s path goes n) f.at f.node f.there;
                steps = f.steps ∙ further s step.Right r ∙ ap (λ (o : LiveStep). map step_of s ++ o ∷ r) (sym z_is);
                has_key = f.has_key;
              }
