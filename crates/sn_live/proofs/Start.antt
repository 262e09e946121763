-- What a tree that nothing came in at can give is what its merges allow.
use Rattle.std.proofs.Common.{◌≡◌, ℕ, zero, suc, Bool, true, false, cond, List, [], ◌∷◌, ◌++◌, map, length, get_or, pred, refl, sym, ap, ap₂, ◌∙◌, subst}
use Rattle.std.proofs.Math.Path.{fun_ext}
use Rattle.sn_streams.specs.Forks.{Relation, exactly, InSeries, Router, items_of, by_segment, by_item, in_turn, Merge, Free, Deterministic, Forked}
use Rattle.sn_streams.specs.Keys.{Key, key_eq}
use Rattle.sn_streams.specs.Machines.{Machine, emitted, after, transduced}
use Rattle.sn_streams.specs.Segments.{Segments, joined, singles, first_segment, other_segments}
use Rattle.sn_streams.specs.Trees.{Tree, Component, Series, Fork, Allows}
use Rattle.sn_streams.proofs.LastBorder.{added, removed}
use Rattle.sn_streams.proofs.Shuffles.{same_streams}
use Rattle.sn_streams.proofs.Silence.{silent_tree}
use Rattle.sn_streams.proofs.Trees.{tree_keeps}
use Rattle.sn_live.specs.Entries.{Entry, carry, apart}
use Rattle.sn_live.specs.Live.{Live, stands}
use Rattle.sn_live.specs.Parts.{Part, component_part, series_part, keys, served, unserved, by_keys, padded, kids, turns_of, FreshFork, turn_part, free_part, fork_part, part}
use Rattle.sn_live.proofs.Free.{fresh-stands}

module _ {A : Type 0} where
  abbrev last : Segments A
  last = [] ∷ []

  length-last : (xss : Segments A) → length (xss ++ last) ≡ suc (length xss)
  length-last [] = refl
  length-last (xs ∷ xss) = ap suc (length-last xss)

  at_last : (xss : Segments A) → get_or (xss ++ last) (length xss) [] ≡ []
  at_last [] = refl
  at_last (xs ∷ xss) = at_last xss

  split_last : (n : ℕ) (yss : Segments A) → length yss ≡ suc n → get_or yss n [] ≡ [] → (zss : Segments A) × (yss ≡ zss ++ last)
  split_last n [] l e = cc
  split_last zero (ys ∷ []) l e = ([], ap (λ (q : List A). q ∷ []) e)
  split_last zero (ys ∷ (zs ∷ yss)) l e = cc
  split_last (suc n) (ys ∷ yss) l e =
      let u : (zss : Segments A) × (yss ≡ zss ++ last) = split_last n yss (ap pred l) e in (ys ∷ u.0, ap (λ (q : Segments A). ys ∷ q) u.1)

  apart-singles : (xs : List A) → apart xs ≡ singles xs ++ last
  apart-singles [] = refl
  apart-singles (x ∷ xs) = ap (λ (q : Segments A). (x ∷ []) ∷ q) (apart-singles xs)

  -- by keys or by items
  by_keys-items : (r : Router A) (z : Key → Segments A) (xss : Segments A) → by_keys z (keys r xss) ≡ transduced (in_turn r) z xss
  by_keys-items r z [] = refl
  by_keys-items r z (xs ∷ xss) =
      ap₂ (λ (a : List A) (b : Segments A). a ∷ b) (front z xs)
      (ap (λ (u : Key → Segments A). by_keys u (keys r xss)) (left z xs) ∙ by_keys-items r (after (in_turn r) z xs) xss)
    where
      front : (y : Key → Segments A) (q : List A) → served y (map r.key q) ≡ emitted (in_turn r) y q
      front y [] = refl
      front y (x ∷ q) = ap (λ (g : List A). first_segment (y (r.key x)) ++ g) (front ((in_turn r).next y x) q)

      left : (y : Key → Segments A) (q : List A) → unserved y (map r.key q) ≡ after (in_turn r) y q
      left y [] = refl
      left y (x ∷ q) = left ((in_turn r).next y x) q

  -- a segment without items behind the answers makes no difference
  abbrev Alike : (Key → Segments A) → (Key → Segments A) → Type 0
  Alike z z' = (k : Key) (n : ℕ) → get_or (z k) n [] ≡ get_or (z' k) n []

  behind-last : (n : ℕ) (z : Segments A) → get_or (z ++ last) n [] ≡ get_or z n []
  behind-last zero [] = refl
  behind-last (suc n) [] = refl
  behind-last zero (x ∷ z) = refl
  behind-last (suc n) (x ∷ z) = behind-last n z

  first-is : (z : Segments A) → first_segment z ≡ get_or z 0 []
  first-is [] = refl
  first-is (x ∷ z) = refl

  others-are : (n : ℕ) (z : Segments A) → get_or (other_segments z) n [] ≡ get_or z (suc n) []
  others-are n [] = refl
  others-are n (x ∷ z) = refl

  module _ (r : Router A) where
    Alike-next : (z z' : Key → Segments A) (x : A) → Alike z z' → Alike ((in_turn r).next z x) ((in_turn r).next z' x)
    Alike-next z z' x h k n = at (key_eq k (r.key x)) (z k) (z' k) (h k)
      where
        at : (b : Bool) (u v : Segments A) → ((m : ℕ) → get_or u m [] ≡ get_or v m []) → get_or (cond b (other_segments u) u) n [] ≡ get_or (cond b (other_segments v) v) n []
        at true u v g = others-are n u ∙ g (suc n) ∙ sym (others-are n v)
        at false u v g = g n

    emitted-alike : (z z' : Key → Segments A) (xs : List A) → Alike z z' → emitted (in_turn r) z xs ≡ emitted (in_turn r) z' xs
    emitted-alike z z' [] h = refl
    emitted-alike z z' (x ∷ xs) h =
        ap₂ (λ (a b : List A). a ++ b) (first-is (z (r.key x)) ∙ h (r.key x) 0 ∙ sym (first-is (z' (r.key x))))
        (emitted-alike ((in_turn r).next z x) ((in_turn r).next z' x) xs (Alike-next z z' x h))

    after-alike : (z z' : Key → Segments A) (xs : List A) → Alike z z' → Alike (after (in_turn r) z xs) (after (in_turn r) z' xs)
    after-alike z z' [] h = h
    after-alike z z' (x ∷ xs) h = after-alike ((in_turn r).next z x) ((in_turn r).next z' x) xs (Alike-next z z' x h)

    pub in_turn-alike : (z z' : Key → Segments A) (xss : Segments A) → Alike z z' → transduced (in_turn r) z xss ≡ transduced (in_turn r) z' xss
    in_turn-alike z z' [] h = refl
    in_turn-alike z z' (xs ∷ xss) h =
        ap₂ (λ (a : List A) (b : Segments A). a ∷ b) (emitted-alike z z' xs h)
        (in_turn-alike (after (in_turn r) z xs) (after (in_turn r) z' xs) xss (after-alike z z' xs h))

tree-shrinks : {A S : Type 0} (t : Tree A S) (xss yss : Segments A) → Allows t (xss ++ ([] ∷ [])) yss → (zss : Segments A) × (yss ≡ zss ++ ([] ∷ [])) × Allows t xss zss
tree-shrinks {A} t xss yss h =
    let u : (zss : Segments A) × (yss ≡ zss ++ ([] ∷ [])) =
    split_last (length xss) yss (tree_keeps t (xss ++ ([] ∷ [])) yss h ∙ length-last xss) (silent_tree t (length xss) (xss ++ ([] ∷ [])) yss h (at_last xss)) in
    (u.0, u.1, removed t xss u.0 (let P : Segments A → Type 0 = λ q. Allows t (xss ++ ([] ∷ [])) q in subst P u.1 h))

pub record Same {A S : Type 0} (p : Part A S) (a : Relation A) : Type 0 where
  pub into : (f : Live A S) (xss yss : Segments A) → p.fresh f → p.res f xss yss → a xss yss
  pub back : (f : Live A S) (xss yss : Segments A) → p.fresh f → a xss yss → p.res f xss yss

component-Same : {A S : Type 0} (m : Machine A S) (s : S) → Same (component_part m s) (exactly (transduced m s))
component-Same {A} {S} m s = record {
  into = λ f xss yss (hw, hs) h. h ∙ ap₂ (λ (z : S) (w : List (Entry A)). transduced m z (carry w xss)) hs hw;
  back = λ f xss yss (hw, hs) h. h ∙ ap₂ (λ (z : S) (w : List (Entry A)). transduced m z (carry w xss)) (sym hs) (sym hw);
}

series-Same : {A S : Type 0} (p q : Part A S) (a b : Relation A) → Same p a → Same q b → Same (series_part p q) (InSeries a b)
series-Same p q a b u v = record {
  into = λ f xss yss (n, m) h. record { between = h.between; from_first = u.into _ xss h.between n h.from_first; from_second = v.into _ h.between yss m h.from_second };
  back = λ f xss yss (n, m) h. record { between = h.between; from_first = u.back _ xss h.between n h.from_first; from_second = v.back _ h.between yss m h.from_second };
}

module _ {A S : Type 0} (r : Router A) (child : Key → Tree A S) (c : Key → Part A S) (p : (k : Key) → Same (c k) (Allows (child k))) where
  abbrev a : Key → Relation A
  a k = Allows (child k)

  free-Same : Same (free_part r c) (Forked Free r a)
  free-Same = record {
    into = λ f xss yss n (zss, h, s).
        let W : List (Entry A) → Type 0 = λ w. (k : Key) → (c k).res (kids f k) (by_segment r k (carry w xss)) (zss k) in
        let h' : (k : Key) → (c k).res (kids f k) (by_segment r k xss) (zss k) = subst W n.waits h in
        record {
          answers = zss;
          answered = λ k. (p k).into (kids f k) (by_segment r k xss) (zss k) (n.kids_fresh k) (h' k);
          shuffled = same_streams yss (padded (stands (f [])) ((f []).kept) zss) zss (none f n zss) s;
        };
    back = λ f xss yss n h.
        let W : List (Entry A) → Type 0 = λ w. (k : Key) → (c k).res (kids f k) (by_segment r k (carry w xss)) (h.answers k) in (
          h.answers,
          subst W (sym n.waits) (λ k. (p k).back (kids f k) (by_segment r k xss) (h.answers k) (n.kids_fresh k) (h.answered k)),
          same_streams yss h.answers (padded (stands (f [])) ((f []).kept) h.answers) (λ k. sym (none f n h.answers k)) h.shuffled,
        );
  }
    where
      none : (f : Live A S) → FreshFork c f → (zss : Key → Segments A) (k : Key) → padded (stands (f [])) ((f []).kept) zss k ≡ zss k
      none f n zss k = ap₂ (λ (m : ℕ) (w : List (Entry A)). padded (λ j. m) (λ j. w) zss k) (fresh-stands c f n k) (n.keeps k)

  turn-Same : Same (turn_part r c) (Forked Deterministic r a)
  turn-Same = record {
    into = λ f xss yss n h. went xss yss (kids f) n.kids_fresh (state f xss yss n h);
    back = λ f xss yss n h. unstate f xss yss n (came xss yss (kids f) n.kids_fresh h);
  }
    where
      none : Key → List (Entry A)
      none k = []

      state : (f : Live A S) (xss yss : Segments A) → FreshFork c f → (turn_part r c).res f xss yss → turns_of r c [] [] none (kids f) xss yss
      state f xss yss n h =
          let P : List (Entry A) → Type 0 = λ w. turns_of r c w [] none (kids f) xss yss in subst P n.waits
          (let Q : List (Entry Key) → Type 0 = λ d. turns_of r c ((f []).waiting) d none (kids f) xss yss in subst Q n.decides
          (let R : (Key → List (Entry A)) → Type 0 = λ q. turns_of r c ((f []).waiting) ((f []).decisions) q (kids f) xss yss in subst R (fun_ext n.keeps) h))

      unstate : (f : Live A S) (xss yss : Segments A) → FreshFork c f → turns_of r c [] [] none (kids f) xss yss → (turn_part r c).res f xss yss
      unstate f xss yss n h =
          let P : List (Entry A) → Type 0 = λ w. turns_of r c w ((f []).decisions) ((f []).kept) (kids f) xss yss in subst P (sym n.waits)
          (let Q : List (Entry Key) → Type 0 = λ d. turns_of r c [] d ((f []).kept) (kids f) xss yss in subst Q (sym n.decides)
          (let R : (Key → List (Entry A)) → Type 0 = λ q. turns_of r c [] [] q (kids f) xss yss in subst R (sym (fun_ext n.keeps)) h))

      went : (xss yss : Segments A) (kid : Key → Live A S) → ((k : Key) → (c k).fresh (kid k)) → turns_of r c [] [] none kid xss yss → Forked Deterministic r a xss yss
      went xss yss kid n (zss, h, e) =
          let u : (k : Key) → (uss : Segments A) × (zss k ≡ uss ++ ([] ∷ [])) × a k (by_item r k xss) uss =
          λ k. tree-shrinks (child k) (by_item r k xss) (zss k)
          (let P : Segments A → Type 0 = λ q. a k q (zss k) in
          subst P (apart-singles (items_of r k (joined xss))) ((p k).into (kid k) (apart (items_of r k (joined xss))) (zss k) (n k) (h k))) in
          record {
            answers = λ k. (u k).0;
            answered = λ k. (u k).2;
            in_order = e ∙ by_keys-items r zss xss
                ∙ in_turn-alike r zss (λ k. (u k).0) xss (λ k i. ap (λ (q : Segments A). get_or q i []) ((u k).1) ∙ behind-last i ((u k).0));
          }

      came : (xss yss : Segments A) (kid : Key → Live A S) → ((k : Key) → (c k).fresh (kid k)) → Forked Deterministic r a xss yss → turns_of r c [] [] none kid xss yss
      came xss yss kid n h = (
        (λ k. h.answers k ++ ([] ∷ [])),
        (λ k. (p k).back (kid k) (apart (items_of r k (joined xss))) (h.answers k ++ ([] ∷ [])) (n k)
            (let P : Segments A → Type 0 = λ q. a k q (h.answers k ++ ([] ∷ [])) in
            subst P (sym (apart-singles (items_of r k (joined xss)))) (added (child k) (by_item r k xss) (h.answers k) (h.answered k)))),
        h.in_order ∙ in_turn-alike r h.answers (λ k. h.answers k ++ ([] ∷ [])) xss (λ k i. sym (behind-last i (h.answers k)))
            ∙ sym (by_keys-items r (λ k. h.answers k ++ ([] ∷ [])) xss),
      )

  fork-Same : (m : Merge) → Same (fork_part m r c) (Forked m r a)
  fork-Same Free = free-Same
  fork-Same Deterministic = turn-Same

pub part-Same : {A S : Type 0} (t : Tree A S) → Same (part t) (Allows t)
part-Same (Component m s) = component-Same m s
part-Same (Series a b) = series-Same (part a) (part b) (Allows a) (Allows b) (part-Same a) (part-Same b)
part-Same (Fork merge r child) =
    let s : Same (fork_part merge r (λ k. part (child k))) (Forked merge r (λ k. Allows (child k))) =
    fork-Same r child (λ k. part (child k)) (λ k. part-Same (child k)) merge in
    record { into = s.into; back = s.back }
