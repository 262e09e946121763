-- A change at one index of the list of nodes.
use Rattle.std.proofs.Common.{◌≡◌, ℕ, zero, suc, Bool, true, false, cond, List, [], ◌∷◌, ◌++◌, Option, Some, None, ◌&&◌, refl, sym, ap, ap₂, ◌∙◌, subst}
use Rattle.std.proofs.Math.Path.{fun_ext}
use Rattle.sn_streams.specs.Trees.{Tree}
use Rattle.sn_streams.proofs.Keys.{key_eq-refl, same_key}
use Rattle.sn_live.specs.Entries.{Entry}
use Rattle.sn_live.specs.Live.{Step, Left, Right, At, Node, Live, sub, step_eq, change, graft, subs, Target, Out, ToNode, ToKept, waits_more, keeps_more, send, left_over}
use Rattle.sn_live.specs.Parts.{part}
use Rattle.sn_live.specs.Flat.{Flat, steps_eq, look, node_at, at_index, NoneAt, Distinct, sent_to, IsAt, at_steps}
use Rattle.sn_live.proofs.Places.{lifts}

pub step_eq-true : (s t : Step) → step_eq s t ≡ true → s ≡ t
step_eq-true Left Left h = refl
step_eq-true Right Right h = refl
step_eq-true (At j) (At k) h = ap At (same_key j k h)
step_eq-true Left Right h = cc
step_eq-true Left (At k) h = cc
step_eq-true Right Left h = cc
step_eq-true Right (At k) h = cc
step_eq-true (At j) Left h = cc
step_eq-true (At j) Right h = cc

both : (a b : Bool) → (a && b) ≡ true → (a ≡ true) × (b ≡ true)
both true b h = (refl, h)
both false b h = cc

pub steps_eq-true : (q u : List Step) → steps_eq q u ≡ true → q ≡ u
steps_eq-true [] [] h = refl
steps_eq-true (s ∷ q) (t ∷ u) h =
    let e : (step_eq s t ≡ true) × (steps_eq q u ≡ true) = both (step_eq s t) (steps_eq q u) h in
    ap₂ (λ (a : Step) (b : List Step). a ∷ b) (step_eq-true s t e.0) (steps_eq-true q u e.1)
steps_eq-true [] (t ∷ u) h = cc
steps_eq-true (s ∷ q) [] h = cc

pub step_eq-refl : (s : Step) → step_eq s s ≡ true
step_eq-refl Left = refl
step_eq-refl Right = refl
step_eq-refl (At k) = key_eq-refl k

pub steps_eq-refl : (q : List Step) → steps_eq q q ≡ true
steps_eq-refl [] = refl
steps_eq-refl (s ∷ q) = ap₂ (λ a b. a && b) (step_eq-refl s) (steps_eq-refl q)

module _ {A S : Type 0} where
  -- a change at some steps is one there and none elsewhere
  pub change-is : (s : List Step) (h : Node A S → Node A S) (f : Live A S) (q : List Step) → change s h f q ≡ cond (steps_eq q s) (h (f q)) (f q)
  change-is [] h f [] = refl
  change-is [] h f (t ∷ u) = refl
  change-is (s ∷ q) h f [] = refl
  change-is (s ∷ q) h f (t ∷ u) = at (step_eq t s) (change-is q h (sub f t) u)
    where
      at : (b : Bool) → change q h (sub f t) u ≡ cond (steps_eq u q) (h (f (t ∷ u))) (f (t ∷ u))
          → cond b (change q h (sub f t) u) (f (t ∷ u)) ≡ cond (b && steps_eq u q) (h (f (t ∷ u))) (f (t ∷ u))
      at true e = e
      at false e = refl

  none_there : (s : List Step) (ns : List (Flat A S)) (i : ℕ) (m : Flat A S) → NoneAt s ns → node_at ns i ≡ Some m → steps_eq s m.steps ≡ false
  none_there s [] i m h e = cc
  none_there s (n ∷ ns) zero m (h, g) e =
      let P : Option (Flat A S) → Type 0 = λ o. elim o [ Some k ↦ steps_eq s k.steps ≡ false | None ↦ ⊥ ] in subst P e h
  none_there s (n ∷ ns) (suc i) m (h, g) e = none_there s ns i m g e

  pub look-index : (base : Live A S) (ns : List (Flat A S)) (i : ℕ) (m : Flat A S) (h : Node A S → Node A S) → Distinct ns → node_at ns i ≡ Some m
      → (q : List Step) → look base (at_index i h ns) q ≡ change m.steps h (look base ns) q
  look-index base ns i m h d e q = at ns i d e ∙ sym (change-is m.steps h (look base ns) q)
    where
      at : (ns : List (Flat A S)) (i : ℕ) → Distinct ns → node_at ns i ≡ Some m → look base (at_index i h ns) q ≡ cond (steps_eq q m.steps) (h (look base ns q)) (look base ns q)
      at [] i d e = cc
      at (n ∷ ns) zero d e =
          let u : n ≡ m = cc in
          first (steps_eq q n.steps)
          ∙ ap (λ (k : Flat A S). cond (steps_eq q k.steps) (h (look base (n ∷ ns) q)) (look base (n ∷ ns) q)) u
        where
          first : (b : Bool) → cond b (h n.node) (look base ns q) ≡ cond b (h (cond b n.node (look base ns q))) (cond b n.node (look base ns q))
          first true = refl
          first false = refl
      at (n ∷ ns) (suc i) (g, d) e =
          ap (λ (k : Node A S). cond (steps_eq q n.steps) n.node k) (at ns i d e)
          ∙ later (steps_eq q n.steps) (steps_eq q m.steps) (λ t.
          let P : List Step → Type 0 = λ s. steps_eq s m.steps ≡ false in
          subst P (sym (steps_eq-true q n.steps t)) (none_there n.steps ns i m g e))
        where
          later : (b v : Bool) → (b ≡ true → v ≡ false) → cond b n.node (cond v (h (look base ns q)) (look base ns q)) ≡ cond v (h (cond b n.node (look base ns q))) (cond b n.node (look base ns q))
          later true true f = let u : true ≡ false = f refl in cc
          later true false f = refl
          later false v f = refl

  -- the node of a part changed in its place
  pub graft-change : (s : List Step) (h : Node A S → Node A S) (f : Live A S) (q : List Step) → graft s (change [] h (subs s f)) f q ≡ change s h f q
  graft-change [] h f q = refl
  graft-change (s ∷ r) h f [] = refl
  graft-change (s ∷ r) h f (t ∷ u) = at (step_eq t s) refl (graft-change r h (sub f s) u)
    where
      at : (b : Bool) → step_eq t s ≡ b → graft r (change [] h (subs r (sub f s))) (sub f s) u ≡ change r h (sub f s) u
          → cond b (graft r (change [] h (subs r (sub f s))) (sub f t) u) (f (t ∷ u)) ≡ cond b (change r h (sub f t) u) (f (t ∷ u))
      at true e g =
          let P : Step → Type 0 = λ v. graft r (change [] h (subs r (sub f s))) (sub f v) u ≡ change r h (sub f v) u in
          subst P (sym (step_eq-true t s e)) g
      at false e g = refl

  look-sent : (base : Live A S) (ns : List (Flat A S)) (t : Target) (j : ℕ) (o : List (Entry A)) → Distinct ns → IsAt ns j t → look base (sent_to t j o ns) ≡ send t o (look base ns)
  look-sent base ns Out j o d e = refl
  look-sent base ns (ToNode s) j o d (m, e, g) =
      fun_ext (look-index base ns j m (waits_more o) d e) ∙ ap (λ (r : List Step). change r (waits_more o) (look base ns)) g
  look-sent base ns (ToKept s k) j o d (m, e, g) =
      fun_ext (look-index base ns j m (keeps_more k o) d e) ∙ ap (λ (r : List Step). change r (keeps_more k o) (look base ns)) g

  NoneAt-change : (s : List Step) (ns : List (Flat A S)) (i : ℕ) (h : Node A S → Node A S) → NoneAt s ns → NoneAt s (at_index i h ns)
  NoneAt-change s [] i h d = d
  NoneAt-change s (n ∷ ns) zero h d = d
  NoneAt-change s (n ∷ ns) (suc i) h (d, e) = (d, NoneAt-change s ns i h e)

  pub Distinct-change : (ns : List (Flat A S)) (i : ℕ) (h : Node A S → Node A S) → Distinct ns → Distinct (at_index i h ns)
  Distinct-change [] i h d = d
  Distinct-change (n ∷ ns) zero h d = d
  Distinct-change (n ∷ ns) (suc i) h (d, e) = (NoneAt-change n.steps ns i h d, Distinct-change ns i h e)

  -- a change below the steps s
  pub below : (s e : List Step) (h : Node A S → Node A S) (g f : Live A S) (q : List Step) → graft s (change e h g) f q ≡ change (s ++ e) h (graft s g f) q
  below [] e h g f q = refl
  below (t ∷ s) e h g f [] = refl
  below (t ∷ s) e h g f (v ∷ u) = at (step_eq v t) (below s e h g (sub f v) u)
    where
      at : (b : Bool) → graft s (change e h g) (sub f v) u ≡ change (s ++ e) h (graft s g (sub f v)) u
          → cond b (graft s (change e h g) (sub f v) u) (f (v ∷ u)) ≡ cond b (change (s ++ e) h (λ w. cond b (graft s g (sub f v) w) (f (v ∷ w))) u) (cond b (graft s g (sub f v) u) (f (v ∷ u)))
      at true k = k
      at false k = refl

  -- A node that changes by itself and sends what it emits: a move of the whole.
  pub flat-move : (t : Tree A S) (base : Live A S) (ns : List (Flat A S)) (i : ℕ) (n : Flat A S) (u : Tree A S) (h : Node A S → Node A S) (o : List (Entry A)) (j : ℕ)
      → Distinct ns → node_at ns i ≡ Some n → at_steps t n.steps ≡ Some u → IsAt (at_index i h ns) j ((part t).target n.steps)
      → (part u).moves (subs n.steps (look base ns)) o (change [] h (subs n.steps (look base ns)))
      → (part t).moves (look base ns) (left_over ((part t).target n.steps) o) (look base (sent_to ((part t).target n.steps) j o (at_index i h ns)))
  flat-move t base ns i n u h o j d e is at m =
      let P : Live A S → Type 0 = λ l. (part t).moves (look base ns) (left_over ((part t).target n.steps) o) l in
      subst P
      (ap (send ((part t).target n.steps) o) (fun_ext (graft-change n.steps h (look base ns)) ∙ sym (fun_ext (look-index base ns i n h d e)))
      ∙ sym (look-sent base (at_index i h ns) ((part t).target n.steps) j o (Distinct-change ns i h d) at))
      (lifts t n.steps u (look base ns) o (change [] h (subs n.steps (look base ns))) is m)
