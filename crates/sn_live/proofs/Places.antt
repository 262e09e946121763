-- What happens to a component, and to where it sends, happens to the whole.
use Rattle.std.proofs.Common.{◌≡◌, Bool, true, false, cond, List, [], ◌∷◌, ◌++◌, Some, refl, sym, ap, ◌∙◌, subst, append-nil, inl, inr}
use Rattle.sn_streams.specs.Forks.{Router, Merge, Free, Deterministic}
use Rattle.sn_streams.specs.Keys.{Key, key_eq}
use Rattle.sn_streams.specs.Trees.{Tree, Component, Series, Fork}
use Rattle.sn_streams.proofs.Keys.{key_eq-refl}
use Rattle.sn_live.specs.Entries.{Entry}
use Rattle.sn_live.specs.Live.{Step, Left, Right, At, Node, Live, sub, change, graft, subs, Target, Out, ToNode, ToKept, stands, waits_more, keeps_more, send, left_over}
use Rattle.sn_live.specs.Parts.{Part, part, feeds, series_part, only_kid, only_kept, same_place, Inner, Within, turn_part, free_part, fork_part, One, several}
use Rattle.sn_live.specs.Flat.{at_steps}
use Rattle.sn_live.proofs.Pushing.{pushed-nothing}

module _ {A S : Type 0} where
  pub picked : (b : Bool) (f g : Live A S) → b ≡ true → (λ (u : List Step). cond b (f u) (g u)) ≡ f
  picked b f g e = let F : Bool → Live A S = λ v u. cond v (f u) (g u) in ap F e

  pub left_alone : (b : Bool) (f g : Live A S) → b ≡ false → (λ (u : List Step). cond b (f u) (g u)) ≡ g
  left_alone b f g e = let F : Bool → Live A S = λ v u. cond v (f u) (g u) in ap F e

  pub change-kid : (k : Key) (q : List Step) (h : Node A S → Node A S) (f : Live A S) → sub (change (At k ∷ q) h f) (At k) ≡ change q h (sub f (At k))
  change-kid k q h f = picked (key_eq k k) (change q h (sub f (At k))) (sub f (At k)) (key_eq-refl k)

  pub change-other : (k j : Key) (q : List Step) (h : Node A S → Node A S) (f : Live A S) → key_eq j k ≡ false → sub (change (At k ∷ q) h f) (At j) ≡ sub f (At j)
  change-other k j q h f e = left_alone (key_eq j k) (change q h (sub f (At j))) (sub f (At j)) e

  pub graft-kid : (k : Key) (q : List Step) (g f : Live A S) → sub (graft (At k ∷ q) g f) (At k) ≡ graft q g (sub f (At k))
  graft-kid k q g f = picked (key_eq k k) (graft q g (sub f (At k))) (sub f (At k)) (key_eq-refl k)

  pub graft-other : (k j : Key) (q : List Step) (g f : Live A S) → key_eq j k ≡ false → sub (graft (At k ∷ q) g f) (At j) ≡ sub f (At j)
  graft-other k j q g f e = left_alone (key_eq j k) (graft q g (sub f (At j))) (sub f (At j)) e

  -- what one kid does inside, as facts on the states of the dispatcher
  record Alone (c : Key → Part A S) (k : Key) (f : Live A S) (p : List (Entry A)) (f' : Live A S) : Type 0 where
    kid_moves : (c k).moves (sub f (At k)) p (sub f' (At k))
    others : only_kid k f f'
    waits : (f' []).waiting ≡ (f []).waiting
    decides : (f' []).decisions ≡ (f []).decisions
    kept_is : (f' []).kept k ≡ (f []).kept k ++ p
    kept_others : only_kept k (f []) (f' [])
    stands_is : (j : Key) → stands (f' []) j ≡ stands (f []) j
    place_is : same_place f f'

  module _ (c : Key → Part A S) where
    quiet : (k : Key) (q s : List Step) (h : Node A S → Node A S) (f : Live A S) (g : Live A S)
        → (c k).moves (sub f (At k)) [] (change s h (graft q g (sub f (At k))))
        → Alone c k f [] (change (At k ∷ s) h (graft (At k ∷ q) g f))
    quiet k q s h f g m = record {
      kid_moves = let P : Live A S → Type 0 = λ l. (c k).moves (sub f (At k)) [] l in
          subst P (sym (change-kid k s h (graft (At k ∷ q) g f) ∙ ap (change s h) (graft-kid k q g f))) m;
      others = λ j ne. change-other k j s h (graft (At k ∷ q) g f) ne ∙ graft-other k j q g f ne;
      waits = refl;
      decides = refl;
      kept_is = sym (append-nil ((f []).kept k));
      kept_others = λ j ne. refl;
      stands_is = λ j. refl;
      place_is = (refl, refl);
    }

    alone : (k : Key) (q : List Step) (f : Live A S) (o : List (Entry A)) (g : Live A S) (t : Target)
        → (c k).moves (sub f (At k)) (left_over t o) (send t o (graft q g (sub f (At k))))
        → (p : List (Entry A)) × Alone c k f p (send (feeds (ToKept [] k) (At k) t) o (graft (At k ∷ q) g f)) × (left_over (feeds (ToKept [] k) (At k) t) o ≡ [])
    alone k q f o g Out h = (
      o,
      record {
        kid_moves = let P : Live A S → Type 0 = λ l. (c k).moves (sub f (At k)) o l in subst P (sym (graft-kid k q g f)) h;
        others = λ j ne. graft-other k j q g f ne;
        waits = refl;
        decides = refl;
        kept_is = let F : Bool → List (Entry A) = λ b. cond b ((f []).kept k ++ o) ((f []).kept k) in ap F (key_eq-refl k);
        kept_others = λ j ne. let F : Bool → List (Entry A) = λ b. cond b ((f []).kept j ++ o) ((f []).kept j) in ap F ne;
        stands_is = λ j. refl;
        place_is = (refl, refl);
      },
      refl,
    )
    alone k q f o g (ToNode s) h = ([], quiet k q s (waits_more o) f g h, refl)
    alone k q f o g (ToKept s i) h = ([], quiet k q s (keeps_more i o) f g h, refl)

  -- a move behind the first part, behind the second, or behind a key
  left : (a b : Part A S) (q : List Step) (f : Live A S) (o : List (Entry A)) (g : Live A S) (t : Target)
      → a.moves (sub f Left) (left_over t o) (send t o (graft q g (sub f Left)))
      → (series_part a b).moves f (left_over (feeds (ToNode (Right ∷ b.entry)) Left t) o) (send (feeds (ToNode (Right ∷ b.entry)) Left t) o (graft (Left ∷ q) g f))
  left a b q f o g Out h = inl (o, h, refl, refl)
  left a b q f o g (ToNode s) h = inl ([], h, sym (pushed-nothing b (sub f Right)), refl)
  left a b q f o g (ToKept s k) h = inl ([], h, sym (pushed-nothing b (sub f Right)), refl)

  right : (a b : Part A S) (q : List Step) (f : Live A S) (o : List (Entry A)) (g : Live A S) (t : Target)
      → b.moves (sub f Right) (left_over t o) (send t o (graft q g (sub f Right)))
      → (series_part a b).moves f (left_over (feeds Out Right t) o) (send (feeds Out Right t) o (graft (Right ∷ q) g f))
  right a b q f o g Out h = inr (h, refl)
  right a b q f o g (ToNode s) h = inr (h, refl)
  right a b q f o g (ToKept s k) h = inr (h, refl)

  kid : (merge : Merge) (r : Router A) (c : Key → Part A S) (k : Key) (q : List Step) (f : Live A S) (o : List (Entry A)) (g : Live A S) (t : Target)
      → (c k).moves (sub f (At k)) (left_over t o) (send t o (graft q g (sub f (At k))))
      → (several (fork_part merge r c)).moves f (left_over (feeds (ToKept [] k) (At k) t) o) (send (feeds (ToKept [] k) (At k) t) o (graft (At k ∷ q) g f))
  kid Free r c k q f o g t h =
      let u : (p : List (Entry A)) × Alone c k f p (send (feeds (ToKept [] k) (At k) t) o (graft (At k ∷ q) g f)) × (left_over (feeds (ToKept [] k) (At k) t) o ≡ []) =
      alone c k q f o g t h in
      let P : List (Entry A) → Type 0 = λ w. (several (free_part r c)).moves f w (send (feeds (ToKept [] k) (At k) t) o (graft (At k ∷ q) g f)) in
      subst P (sym u.2) (One [] _ (Within k u.0 u.1.kid_moves u.1.others u.1.place_is u.1.waits u.1.stands_is u.1.kept_is u.1.kept_others))
  kid Deterministic r c k q f o g t h =
      let u : (p : List (Entry A)) × Alone c k f p (send (feeds (ToKept [] k) (At k) t) o (graft (At k ∷ q) g f)) × (left_over (feeds (ToKept [] k) (At k) t) o ≡ []) =
      alone c k q f o g t h in
      let P : List (Entry A) → Type 0 = λ w. (several (turn_part r c)).moves f w (send (feeds (ToKept [] k) (At k) t) o (graft (At k ∷ q) g f)) in
      subst P (sym u.2) (One [] _ (Inner k u.0 u.1.kid_moves u.1.others u.1.waits u.1.decides u.1.kept_is u.1.kept_others))

  -- A move of the tree behind some steps is a move of the whole.
  pub lifts : (t : Tree A S) (q : List Step) (u : Tree A S) (f : Live A S) (o : List (Entry A)) (g : Live A S) → at_steps t q ≡ Some u
      → (part u).moves (subs q f) o g → (part t).moves f (left_over ((part t).target q) o) (send ((part t).target q) o (graft q g f))
  lifts (Component m s) [] u f o g e h =
      let i : u ≡ Component m s = cc in let P : Tree A S → Type 0 = λ v. (part v).moves f o g in subst P i h
  lifts (Series a b) [] u f o g e h =
      let i : u ≡ Series a b = cc in let P : Tree A S → Type 0 = λ v. (part v).moves f o g in subst P i h
  lifts (Fork Free r child) [] u f o g e h =
      let i : u ≡ Fork Free r child = cc in let P : Tree A S → Type 0 = λ v. (part v).moves f o g in subst P i h
  lifts (Fork Deterministic r child) [] u f o g e h =
      let i : u ≡ Fork Deterministic r child = cc in let P : Tree A S → Type 0 = λ v. (part v).moves f o g in subst P i h
  lifts (Series a b) (Left ∷ q) u f o g e h = left (part a) (part b) q f o g ((part a).target q) (lifts a q u (sub f Left) o g e h)
  lifts (Series a b) (Right ∷ q) u f o g e h = right (part a) (part b) q f o g ((part b).target q) (lifts b q u (sub f Right) o g e h)
  lifts (Fork Free r child) (At k ∷ q) u f o g e h =
      kid Free r (λ j. part (child j)) k q f o g ((part (child k)).target q) (lifts (child k) q u (sub f (At k)) o g e h)
  lifts (Fork Deterministic r child) (At k ∷ q) u f o g e h =
      kid Deterministic r (λ j. part (child j)) k q f o g ((part (child k)).target q) (lifts (child k) q u (sub f (At k)) o g e h)
  lifts (Component m s) (x ∷ q) u f o g e h = cc
  lifts (Series a b) (At k ∷ q) u f o g e h = cc
  lifts (Fork merge r child) (Left ∷ q) u f o g e h = cc
  lifts (Fork merge r child) (Right ∷ q) u f o g e h = cc
