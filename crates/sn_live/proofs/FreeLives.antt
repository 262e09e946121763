-- Every state that is reached has an answer: free forks, and all trees.
use Rattle.std.proofs.Common.{◌≡◌, ℕ, suc, ◌+◌, Bool, true, false, cond, List, [], ◌∷◌, ◌++◌, map, length, refl, sym, ap, ap₂, ◌∙◌, subst, arith, inl, inr}
use Rattle.sn_streams.specs.Forks.{Router, by_segment, Merge, Free, Deterministic}
use Rattle.sn_streams.specs.Keys.{Key, Own, key_eq, is_among}
use Rattle.sn_streams.specs.Segments.{Segments, joined}
use Rattle.sn_streams.specs.Shuffles.{SegmentShuffles}
use Rattle.sn_streams.specs.Trees.{Tree, Component, Series, Fork}
use Rattle.sn_streams.proofs.Keys.{same_key}
use Rattle.sn_streams.proofs.Shuffles.{shuffles-length}
use Rattle.sn_live.specs.Entries.{Entry, It, Mark, carry, IsOpen, pad, count, Silent}
use Rattle.sn_live.specs.Live.{At, Live, sub, stands}
use Rattle.sn_live.specs.Parts.{Part, pushed, keys, padded, FreshFork, free_part, fork_part, Several, One, Then, several, part, share_for, FreeSane, FreeMove, Routed, Epoch, Within, Takes, Passes, Closing, Makes}
use Rattle.sn_live.proofs.Streams.{carry-open, count-append, length-carry, length-pad, length-by_segment, by_segment-open, by_segment-silent, pad-silent, by_key}
use Rattle.sn_live.proofs.Weaves.{shuffles-silent, shuffles-exist, among-append, by_segment-none}
use Rattle.sn_live.proofs.Pushing.{pushed-nothing}
use Rattle.sn_live.proofs.Turns.{Core}
use Rattle.sn_live.proofs.Lives.{Lives, component-Lives, series-Lives, turn-Lives}
use Rattle.sn_live.proofs.Free.{fresh-stands, part-Core}

-- what a child gets of an item has no mark
count-share : {A : Type 0} (r : Router A) (k : Key) (x : A) → count (share_for r k (It x)) ≡ 0
count-share r k x = at (key_eq k (r.key x))
  where
    at : (v : Bool) → count (cond v (It x ∷ []) []) ≡ 0
    at true = refl
    at false = refl

-- a child that the item does not go to gets nothing
nothing-share : {A : Type 0} (r : Router A) (k : Key) (x : A) (keys : List Key) → is_among (r.key x) keys ≡ true → is_among k keys ≡ false → share_for r k (It x) ≡ []
nothing-share {A} r k x keys there absent = at (key_eq k (r.key x)) refl
  where
    impossible : true ≡ false → ⊥
    impossible e = cc

    at : (b : Bool) → key_eq k (r.key x) ≡ b → cond b (It x ∷ []) [] ≡ []
    at true e = absurd (impossible (sym there ∙ ap (λ (j : Key). is_among j keys) (sym (same_key k (r.key x) e)) ∙ absent))
    at false e = refl

not_made_before : (b v : Bool) → cond b true v ≡ false → v ≡ false
not_made_before true v h = cc
not_made_before false v h = h

is_other : (b v : Bool) → cond b true v ≡ false → b ≡ false
is_other true v h = cc
is_other false v h = refl

module _ {A S : Type 0} (r : Router A) (c : Key → Part A S) (x : (k : Key) → Lives (c k)) (p : (k : Key) → Core (c k)) where
  free-still : (f : Live A S) (o : List (Entry A)) (f' : Live A S) → FreshFork c f → FreeMove r c f f' o → ⊥
  free-still f o f' n (Routed x there hw hp hk hn hs) = let u : (f []).waiting ≡ [] = n.waits in cc
  free-still f o f' n (Epoch hw hm ha hk m) = let u : (f []).waiting ≡ [] = n.waits in cc
  free-still f o f' n (Within k q m others hp hw hn hk ho) = (x k).still (sub f (At k)) q (sub f' (At k)) (n.kids_fresh k) m
  free-still f o f' n (Takes k y here hk ho hp hw hn hs) = let u : (f []).kept k ≡ [] = n.keeps k in cc
  free-still f o f' n (Passes k here hk ho hp hw hn hno hs) = let u : (f []).kept k ≡ [] = n.keeps k in cc
  free-still f o f' n (Closing e hm ha hk hw hs) = let u : (f []).ahead ≡ 0 = n.level in omega (arith, ha, u)
  free-still f o f' n (Makes k e w hc n1 n2 others hm ha hk hw hn) = let u : (f []).waiting ≡ [] = n.waits in cc

  abbrev Aligned : Live A S → Key → Type 0
  Aligned f k = stands (f []) k + (count ((f []).kept k) + (c k).marks (sub f (At k))) ≡ (f []).ahead

  abbrev Absent : Live A S → Key → Type 0
  Absent f k = is_among k ((f []).made) ≡ false → (c k).fresh (sub f (At k)) × ((f []).kept k ≡ [])

  -- where only what waits of k's output and k's epoch differ
  one_kept : (f f' : Live A S) (k : Key) → FreeSane c f → ((f' []).made ≡ (f []).made) → ((f' []).ahead ≡ (f []).ahead)
      → ((f []).kept k ≡ [] → ⊥)
      → stands (f' []) k + count ((f' []).kept k) ≡ stands (f []) k + count ((f []).kept k)
      → ((j : Key) → key_eq j k ≡ false → stands (f' []) j ≡ stands (f []) j)
      → ((j : Key) → key_eq j k ≡ false → (f' []).kept j ≡ (f []).kept j)
      → ((j : Key) → sub f' (At j) ≡ sub f (At j)) → FreeSane c f'
  one_kept f f' k s hm ha full sum hn ho hs = record {
    kids_sane = λ j. subst ((c j).sane) (sym (hs j)) (s.kids_sane j);
    absent = by_key (Absent f') k
        (λ t. absurd (full ((s.absent k (ap (λ (q : List Key). is_among k q) (sym hm) ∙ t)).1)))
        (λ j ne t. let u : (c j).fresh (sub f (At j)) × ((f []).kept j ≡ []) = s.absent j (ap (λ (q : List Key). is_among j q) (sym hm) ∙ t) in
        (subst ((c j).fresh) (sym (hs j)) u.0, ho j ne ∙ u.1));
    aligned = by_key (Aligned f') k
        (let a : Aligned f k = s.aligned k in
        let b : (c k).marks (sub f' (At k)) ≡ (c k).marks (sub f (At k)) = ap ((c k).marks) (hs k) in
        omega arith)
        (λ j ne.
        let a : Aligned f j = s.aligned j in
        let b : (c j).marks (sub f' (At j)) ≡ (c j).marks (sub f (At j)) = ap ((c j).marks) (hs j) in
        let d : count ((f' []).kept j) ≡ count ((f []).kept j) = ap count (ho j ne) in
        let e : stands (f' []) j ≡ stands (f []) j = hn j ne in
        omega arith);
  }

  free-sane : (f : Live A S) (o : List (Entry A)) (f' : Live A S) → FreeMove r c f f' o → FreeSane c f → FreeSane c f'
  free-sane f o f' (Routed y there hw hp hk hn hs) s = record {
    kids_sane = λ k. subst ((c k).sane) (sym (hs k)) ((x k).put_sane (share_for r k (It y)) (sub f (At k)) (s.kids_sane k));
    absent = λ k t.
        let t' : is_among k ((f []).made) ≡ false = ap (λ (q : List Key). is_among k q) (sym hp.0) ∙ t in
        let u : (c k).fresh (sub f (At k)) × ((f []).kept k ≡ []) = s.absent k t' in (
          subst ((c k).fresh)
              (sym (hs k ∙ ap (λ (w : List (Entry A)). pushed (c k) w (sub f (At k))) (nothing-share r k y ((f []).made) there t') ∙ pushed-nothing (c k) (sub f (At k)))) u.0,
          ap (λ (q : Key → List (Entry A)). q k) hk ∙ u.1,
        );
    aligned = λ k.
        let a : Aligned f k = s.aligned k in
        let b : (c k).marks (sub f' (At k)) ≡ (c k).marks (sub f (At k)) + count (share_for r k (It y)) =
        ap ((c k).marks) (hs k) ∙ (x k).put_marks (share_for r k (It y)) (sub f (At k)) in
        let d : count (share_for r k (It y)) ≡ 0 = count-share r k y in
        let g : count ((f' []).kept k) ≡ count ((f []).kept k) = ap (λ (q : Key → List (Entry A)). count (q k)) hk in
        let i : stands (f' []) k ≡ stands (f []) k = hn k in
        let j : (f' []).ahead ≡ (f []).ahead = hp.1 in
        omega arith;
  }
  free-sane f o f' (Epoch hw hm ha hk m) s = record {
    kids_sane = λ k. elim (m k) [
      | inl t ↦ subst ((c k).sane) (sym t.kid_is) ((x k).put_sane (Mark ∷ []) (sub f (At k)) (s.kids_sane k))
      | inr n ↦ subst ((c k).sane) (sym n.after) ((x k).new_sane (sub f (At k)) n.before)
    ];
    absent = λ k t.
        let t' : is_among k ((f []).made) ≡ false = ap (λ (q : List Key). is_among k q) (sym hm) ∙ t in
        elim (m k) [
          | inl g ↦ absurd
              (let a : stands (f []) k ≡ (f []).ahead = (let F : Bool → ℕ = λ b. cond b ((f []).lead k) ((f []).ahead) in ap F t') in
              let b : stands (f' []) k ≡ (f' []).ahead = (let F : Bool → ℕ = λ b. cond b ((f' []).lead k) ((f' []).ahead) in ap F t) in
              let d : stands (f' []) k ≡ stands (f []) k = g.epoch_is in
              omega (arith, ha, a, b, d))
          | inr n ↦ (subst ((c k).fresh) (sym n.after) n.before, ap (λ (q : Key → List (Entry A)). q k) hk ∙ n.nothing)
        ];
    aligned = λ k.
        let a : Aligned f k = s.aligned k in
        let g : count ((f' []).kept k) ≡ count ((f []).kept k) = ap (λ (q : Key → List (Entry A)). count (q k)) hk in
        elim (m k) [
          | inl t ↦
              (let b : (c k).marks (sub f' (At k)) ≡ (c k).marks (sub f (At k)) + 1 = ap ((c k).marks) t.kid_is ∙ (x k).put_marks (Mark ∷ []) (sub f (At k)) in
              let d : stands (f' []) k ≡ stands (f []) k = t.epoch_is in
              omega (arith, a, b, d, g, ha))
          | inr n ↦
              (let b : (c k).marks (sub f' (At k)) ≡ (c k).marks (sub f (At k)) = ap ((c k).marks) n.after in
              let d : stands (f' []) k ≡ suc (stands (f []) k) = n.epoch_is in
              omega (arith, a, b, d, g, ha))
        ];
  }
  free-sane f o f' (Within k q m others hp hw hn hk ho) s = record {
    kids_sane = by_key (λ j. (c j).sane (sub f' (At j))) k
        ((x k).move_sane (sub f (At k)) q (sub f' (At k)) m (s.kids_sane k))
        (λ j t. subst ((c j).sane) (sym (others j t)) (s.kids_sane j));
    absent = by_key (Absent f') k
        (λ t. absurd ((x k).still (sub f (At k)) q (sub f' (At k)) ((s.absent k (ap (λ (l : List Key). is_among k l) (sym hp.0) ∙ t)).0) m))
        (λ j ne t. let u : (c j).fresh (sub f (At j)) × ((f []).kept j ≡ []) = s.absent j (ap (λ (l : List Key). is_among j l) (sym hp.0) ∙ t) in
        (subst ((c j).fresh) (sym (others j ne)) u.0, ho j ne ∙ u.1));
    aligned = by_key (Aligned f') k
        (let a : Aligned f k = s.aligned k in
        let b : (c k).marks (sub f (At k)) ≡ count q + (c k).marks (sub f' (At k)) = (x k).move_marks (sub f (At k)) q (sub f' (At k)) m (s.kids_sane k) in
        let d : count ((f' []).kept k) ≡ count ((f []).kept k) + count q = ap count hk ∙ count-append ((f []).kept k) q in
        let e : stands (f' []) k ≡ stands (f []) k = hn k in
        let g : (f' []).ahead ≡ (f []).ahead = hp.1 in
        omega arith)
        (λ j ne.
        let a : Aligned f j = s.aligned j in
        let b : (c j).marks (sub f' (At j)) ≡ (c j).marks (sub f (At j)) = ap ((c j).marks) (others j ne) in
        let d : count ((f' []).kept j) ≡ count ((f []).kept j) = ap count (ho j ne) in
        let e : stands (f' []) j ≡ stands (f []) j = hn j in
        let g : (f' []).ahead ≡ (f []).ahead = hp.1 in
        omega arith);
  }
  free-sane f o f' (Takes k y here hk ho hp hw hn hs) s =
      one_kept f f' k s hp.0 hp.1 (λ e. full e) (ap₂ (λ (n i : ℕ). n + i) (hn k) (sym (ap count hk))) (λ j ne. hn j) ho hs
    where
      full : (f []).kept k ≡ [] → ⊥
      full e = cc
  free-sane f o f' (Passes k here hk ho hp hw hn hno hs) s =
      one_kept f f' k s hp.0 hp.1 (λ e. full e)
      (let a : count ((f []).kept k) ≡ suc (count ((f' []).kept k)) = ap count hk in omega (arith, a, hn)) hno ho hs
    where
      full : (f []).kept k ≡ [] → ⊥
      full e = cc
  free-sane f o f' (Closing e hm ha hk hw hs) s = record {
    kids_sane = λ j. subst ((c j).sane) (sym (hs j)) (s.kids_sane j);
    absent = λ j t. let u : (c j).fresh (sub f (At j)) × ((f []).kept j ≡ []) = s.absent j (ap (λ (q : List Key). is_among j q) (sym hm) ∙ t) in
        (subst ((c j).fresh) (sym (hs j)) u.0, ap (λ (q : Key → List (Entry A)). q j) hk ∙ u.1);
    aligned = λ j.
        let a : Aligned f j = s.aligned j in
        let b : (c j).marks (sub f' (At j)) ≡ (c j).marks (sub f (At j)) = ap ((c j).marks) (hs j) in
        let d : count ((f' []).kept j) ≡ count ((f []).kept j) = ap (λ (q : Key → List (Entry A)). count (q j)) hk in
        let g : stands (f []) j ≡ suc (stands (f' []) j) = e j in
        omega arith;
  }
  free-sane f o f' (Makes k e w hc n n' others hm ha hk hw hn) s = record {
    kids_sane = by_key (λ j. (c j).sane (sub f' (At j))) k ((x k).new_sane (sub f' (At k)) n') (λ j t. subst ((c j).sane) (sym (others j t)) (s.kids_sane j));
    absent = λ j t.
        let g : is_among j (k ∷ (f []).made) ≡ false = sym (hm j) ∙ t in
        let u : (c j).fresh (sub f (At j)) × ((f []).kept j ≡ []) = s.absent j (not_made_before (key_eq j k) (is_among j ((f []).made)) g) in (
          subst ((c j).fresh) (sym (others j (is_other (key_eq j k) (is_among j ((f []).made)) g))) u.0,
          ap (λ (q : Key → List (Entry A)). q j) hk ∙ u.1,
        );
    aligned = λ j.
        let a : Aligned f j = s.aligned j in
        let b : (c j).marks (sub f' (At j)) ≡ (c j).marks (sub f (At j)) =
        by_key (λ i. (c i).marks (sub f' (At i)) ≡ (c i).marks (sub f (At i))) k
        ((x k).new_marks (sub f' (At k)) n' ∙ sym ((x k).new_marks (sub f (At k)) n)) (λ i ne. ap ((c i).marks) (others i ne)) j in
        let d : count ((f' []).kept j) ≡ count ((f []).kept j) = ap (λ (q : Key → List (Entry A)). count (q j)) hk in
        let g : stands (f' []) j ≡ stands (f []) j = hn j in
        omega arith;
  }

  free-marks : (f : Live A S) (o : List (Entry A)) (f' : Live A S) → FreeMove r c f f' o
      → count ((f []).waiting) + (f []).ahead ≡ count o + (count ((f' []).waiting) + (f' []).ahead)
  free-marks f o f' (Routed x there hw hp hk hn hs) =
      let a : count ((f []).waiting) ≡ count ((f' []).waiting) = ap count hw in
      let b : (f' []).ahead ≡ (f []).ahead = hp.1 in omega arith
  free-marks f o f' (Epoch hw hm ha hk m) =
      let a : count ((f []).waiting) ≡ suc (count ((f' []).waiting)) = ap count hw in omega arith
  free-marks f o f' (Within k q m others hp hw hn hk ho) =
      let a : count ((f' []).waiting) ≡ count ((f []).waiting) = ap count hw in
      let b : (f' []).ahead ≡ (f []).ahead = hp.1 in omega arith
  free-marks f o f' (Takes k y here hk ho hp hw hn hs) =
      let a : count ((f' []).waiting) ≡ count ((f []).waiting) = ap count hw in
      let b : (f' []).ahead ≡ (f []).ahead = hp.1 in omega arith
  free-marks f o f' (Passes k here hk ho hp hw hn hno hs) =
      let a : count ((f' []).waiting) ≡ count ((f []).waiting) = ap count hw in
      let b : (f' []).ahead ≡ (f []).ahead = hp.1 in omega arith
  free-marks f o f' (Closing e hm ha hk hw hs) =
      let a : count ((f' []).waiting) ≡ count ((f []).waiting) = ap count hw in omega arith
  free-marks f o f' (Makes k e w hc n n' others hm ha hk hw hn) =
      let a : count ((f' []).waiting) ≡ count ((f []).waiting) = ap count hw in omega arith

  module _ (f : Live A S) (xss : Segments A) (s : FreeSane c f) where
    full_length : (zss : Key → Segments A) → ((k : Key) → (c k).res (sub f (At k)) (by_segment r k (carry ((f []).waiting) xss)) (zss k))
        → (k : Key) → length (padded (stands (f [])) ((f []).kept) zss k) ≡ (f []).ahead + (count ((f []).waiting) + length xss)
    full_length zss h k =
        let a : length (zss k) ≡ (c k).marks (sub f (At k)) + length (by_segment r k (carry ((f []).waiting) xss)) =
        (x k).len (sub f (At k)) (by_segment r k (carry ((f []).waiting) xss)) (zss k) (s.kids_sane k) (h k) in
        let b : length (by_segment r k (carry ((f []).waiting) xss)) ≡ count ((f []).waiting) + length xss =
        length-by_segment r k (carry ((f []).waiting) xss) ∙ length-carry ((f []).waiting) xss in
        let d : length (carry ((f []).kept k) (zss k)) ≡ count ((f []).kept k) + length (zss k) = length-carry ((f []).kept k) (zss k) in
        let e : length (pad (stands (f []) k) (carry ((f []).kept k) (zss k))) ≡ stands (f []) k + length (carry ((f []).kept k) (zss k)) =
        length-pad (stands (f []) k) (carry ((f []).kept k) (zss k)) in
        let g : Aligned f k = s.aligned k in
        omega arith

    free-some : IsOpen xss → (yss : Segments A) × (free_part r c).res f xss yss
    free-some o =
        let u : (k : Key) → (zss : Segments A) × (c k).res (sub f (At k)) (by_segment r k (carry ((f []).waiting) xss)) zss =
        λ k. (x k).some (sub f (At k)) (by_segment r k (carry ((f []).waiting) xss)) (s.kids_sane k)
        (by_segment-open r k (carry ((f []).waiting) xss) (carry-open ((f []).waiting) xss o)) in
        let v : (yss : Segments A) × SegmentShuffles yss (padded (stands (f [])) ((f []).kept) (λ k. (u k).0)) =
        shuffles-exist ((f []).ahead + (count ((f []).waiting) + length xss))
        ((f []).made ++ map r.key (joined (carry ((f []).waiting) xss)))
        (padded (stands (f [])) ((f []).kept) (λ k. (u k).0))
        (full_length (λ k. (u k).0) (λ k. (u k).1))
        (λ k t. none k (among-append ((f []).made) (map r.key (joined (carry ((f []).waiting) xss))) k t) ((u k).0) ((u k).1)) in
        (v.0, ((λ k. (u k).0), (λ k. (u k).1), v.1))
      where
        none : (k : Key) → (is_among k ((f []).made) ≡ false) × (is_among k (map r.key (joined (carry ((f []).waiting) xss))) ≡ false)
            → (z : Segments A) → (c k).res (sub f (At k)) (by_segment r k (carry ((f []).waiting) xss)) z → Silent (pad (stands (f []) k) (carry ((f []).kept k) z))
        none k (t, t') z h =
            let a : (c k).fresh (sub f (At k)) × ((f []).kept k ≡ []) = s.absent k t in
            let b : Silent z = (x k).idle (sub f (At k)) (by_segment r k (carry ((f []).waiting) xss)) z a.0 h
            (by_segment-none r k (carry ((f []).waiting) xss) t') in
            pad-silent (stands (f []) k) (carry ((f []).kept k) z)
            (let Q : List (Entry A) → Type 0 = λ w. Silent (carry w z) in subst Q (sym a.1) b)

  pub free-Lives : Lives (free_part r c)
  free-Lives = record {
    len = λ f xss yss s (zss, h, sh).
        let a : length yss ≡ length (padded (stands (f [])) ((f []).kept) zss Own) = shuffles-length yss (padded (stands (f [])) ((f []).kept) zss) Own sh in
        let b : length (padded (stands (f [])) ((f []).kept) zss Own) ≡ (f []).ahead + (count ((f []).waiting) + length xss) = full_length f xss s zss h Own in
        omega (arith, a, b);
    some = λ f xss s o. free-some f xss s o;
    idle = λ f xss yss n (zss, h, sh) em.
        shuffles-silent yss (padded (stands (f [])) ((f []).kept) zss)
        (λ k.
        let w : Silent (carry ((f []).waiting) xss) = (let P : List (Entry A) → Type 0 = λ q. Silent (carry q xss) in subst P (sym n.waits) em) in
        pad-silent (stands (f []) k) (carry ((f []).kept k) (zss k))
        (let Q : List (Entry A) → Type 0 = λ q. Silent (carry q (zss k)) in
        subst Q (sym (n.keeps k)) ((x k).idle (sub f (At k)) (by_segment r k (carry ((f []).waiting) xss)) (zss k) (n.kids_fresh k) (h k) (by_segment-silent r k (carry ((f []).waiting) xss) w)))) sh;
    new_sane = λ f n. record {
      kids_sane = λ k. (x k).new_sane (sub f (At k)) (n.kids_fresh k);
      absent = λ k t. (n.kids_fresh k, n.keeps k);
      aligned = λ k.
          let a : (c k).marks (sub f (At k)) ≡ 0 = (x k).new_marks (sub f (At k)) (n.kids_fresh k) in
          let b : stands (f []) k ≡ 0 = fresh-stands c f n k in
          let d : count ((f []).kept k) ≡ 0 = ap count (n.keeps k) in
          let e : (f []).ahead ≡ 0 = n.level in
          omega (arith, a, b, d, e);
    };
    new_marks = λ f n. let a : count ((f []).waiting) ≡ 0 = ap count n.waits in let b : (f []).ahead ≡ 0 = n.level in omega arith;
    still = free-still;
    put_sane = λ o f s. record { kids_sane = s.kids_sane; absent = s.absent; aligned = s.aligned };
    put_marks = λ o f. let a : count ((f []).waiting ++ o) ≡ count ((f []).waiting) + count o = count-append ((f []).waiting) o in omega arith;
    move_sane = free-sane;
    move_marks = λ f o f' m s. free-marks f o f' m;
  }

  pub fork-Lives : (m : Merge) → Lives (fork_part m r c)
  fork-Lives Free = free-Lives
  fork-Lives Deterministic = turn-Lives r c x p

module _ {A S : Type 0} (p : Part A S) (x : Lives p) where
  several-still : (f : Live A S) (o : List (Entry A)) (f' : Live A S) → p.fresh f → Several p.moves f o f' → ⊥
  several-still f _ _ n (One q g m) = x.still f q g n m
  several-still f _ _ n (Then q q' mid f' ms m) = several-still f q mid n ms

  several-sane : (f : Live A S) (o : List (Entry A)) (f' : Live A S) → Several p.moves f o f' → p.sane f → p.sane f'
  several-sane f _ _ (One q g m) s = x.move_sane f q g m s
  several-sane f _ _ (Then q q' mid f' ms m) s = x.move_sane mid q' f' m (several-sane f q mid ms s)

  several-marks : (f : Live A S) (o : List (Entry A)) (f' : Live A S) → Several p.moves f o f' → p.sane f → p.marks f ≡ count o + p.marks f'
  several-marks f _ _ (One q g m) s = x.move_marks f q g m s
  several-marks f _ _ (Then q q' mid f' ms m) s =
      let a : p.marks f ≡ count q + p.marks mid = several-marks f q mid ms s in
      let b : p.marks mid ≡ count q' + p.marks f' = x.move_marks mid q' f' m (several-sane f q mid ms s) in
      let d : count (q ++ q') ≡ count q + count q' = count-append q q' in
      omega arith

  pub several-Lives : Lives (several p)
  several-Lives = record {
    len = x.len;
    some = x.some;
    idle = x.idle;
    new_sane = x.new_sane;
    new_marks = x.new_marks;
    still = several-still;
    put_sane = x.put_sane;
    put_marks = x.put_marks;
    move_sane = several-sane;
    move_marks = several-marks;
  }

pub part-Lives : {A S : Type 0} (t : Tree A S) → Lives (part t)
part-Lives (Component m s) = component-Lives m s
part-Lives (Series a b) = series-Lives (part a) (part b) (part-Lives a) (part-Lives b) (part-Core a)
part-Lives (Fork merge r child) = several-Lives (fork_part merge r (λ k. part (child k))) (fork-Lives r (λ k. part (child k)) (λ k. part-Lives (child k)) (λ k. part-Core (child k)) merge)
