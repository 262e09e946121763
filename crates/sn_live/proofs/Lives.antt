-- Every state that is reached has an answer.
use Rattle.std.proofs.Common.{◌≡◌, ℕ, zero, suc, ◌+◌, Bool, true, false, cond, List, [], ◌∷◌, ◌++◌, length, refl, sym, ap, ap₂, ◌∙◌, subst, arith, zero-add, inl, inr}
use Rattle.sn_streams.specs.Forks.{Router, items_of}
use Rattle.sn_streams.specs.Keys.{Key, key_eq}
use Rattle.sn_streams.specs.Machines.{Machine, transduced}
use Rattle.sn_streams.specs.Segments.{Segments, joined}
use Rattle.sn_streams.proofs.Keys.{key_eq-refl}
use Rattle.sn_streams.proofs.Machines.{length-transduced}
use Rattle.sn_live.specs.Entries.{Entry, It, Mark, carry, IsOpen, apart, count, Silent}
use Rattle.sn_live.specs.Live.{Left, Right, At, Live, sub}
use Rattle.sn_live.specs.Parts.{Part, pushed, component_part, emits_for, series_part, keys, by_keys, kept_before, FreshFork, turn_part, key_of, group_for, decided, TurnSane, TurnMove, Routes, Inner, Gives, Closes, Marks, Unfolds}
use Rattle.sn_live.proofs.Streams.{apart-open, count-append, length-carry, count-items, length-keys, length-by_keys, transduced-silent, by_keys-silent, length-by_keys, by_key}
use Rattle.sn_live.proofs.Turns.{Core}

pub record Lives {A S : Type 0} (p : Part A S) : Type 0 where
  pub len : (f : Live A S) (xss yss : Segments A) → p.sane f → p.res f xss yss → length yss ≡ p.marks f + length xss
  pub some : (f : Live A S) (xss : Segments A) → p.sane f → IsOpen xss → (yss : Segments A) × p.res f xss yss
  pub idle : (f : Live A S) (xss yss : Segments A) → p.fresh f → p.res f xss yss → Silent xss → Silent yss
  pub new_sane : (f : Live A S) → p.fresh f → p.sane f
  pub new_marks : (f : Live A S) → p.fresh f → p.marks f ≡ 0
  pub still : (f : Live A S) (o : List (Entry A)) (f' : Live A S) → p.fresh f → p.moves f o f' → ⊥
  pub put_sane : (o : List (Entry A)) (f : Live A S) → p.sane f → p.sane (pushed p o f)
  pub put_marks : (o : List (Entry A)) (f : Live A S) → p.marks (pushed p o f) ≡ p.marks f + count o
  pub move_sane : (f : Live A S) (o : List (Entry A)) (f' : Live A S) → p.moves f o f' → p.sane f → p.sane f'
  pub move_marks : (f : Live A S) (o : List (Entry A)) (f' : Live A S) → p.moves f o f' → p.sane f → p.marks f ≡ count o + p.marks f'

component-marks : {A S : Type 0} (m : Machine A S) (s : S) (e : Entry A) (w : List (Entry A)) → count (e ∷ w) ≡ count (emits_for m s e) + count w
component-marks m s (It x) w = sym (ap (λ (n : ℕ). n + count w) (count-items (m.emits s x)) ∙ zero-add (count w))
component-marks m s Mark w = omega arith

pub component-Lives : {A S : Type 0} (m : Machine A S) (z : S) → Lives (component_part m z)
component-Lives {A} {S} m z = record {
  len = λ f xss yss s h. ap length h ∙ length-transduced m (f []).state (carry ((f []).waiting) xss) ∙ length-carry ((f []).waiting) xss;
  some = λ f xss s o. (transduced m (f []).state (carry ((f []).waiting) xss), refl);
  idle = λ f xss yss (hw, hs) h e.
      subst Silent (sym (h ∙ ap (λ (w : List (Entry A)). transduced m (f []).state (carry w xss)) hw)) (transduced-silent m (f []).state xss e);
  new_sane = λ f n. tt;
  new_marks = λ f (hw, hs). ap count hw;
  still = λ f o f' (nw, ns) (e, hw, hs, ho). nothing e ((f []).waiting) ((f' []).waiting) nw hw;
  put_sane = λ o f s. tt;
  put_marks = λ o f. count-append ((f []).waiting) o;
  move_sane = λ f o f' m s. tt;
  move_marks = λ f o f' (e, hw, hs, ho) s.
      ap count hw ∙ component-marks m (f []).state e ((f' []).waiting) ∙ ap (λ (q : List (Entry A)). count q + count ((f' []).waiting)) (sym ho);
}
  where
    nothing : (e : Entry A) (u w : List (Entry A)) → u ≡ [] → u ≡ e ∷ w → ⊥
    nothing e u w g h = cc

pub series-Lives : {A S : Type 0} (a b : Part A S) → Lives a → Lives b → Core a → Lives (series_part a b)
series-Lives {A} {S} a b x y c = record {
  len = λ f xss yss (s, t) h.
      let u : length h.between ≡ a.marks (sub f Left) + length xss = x.len (sub f Left) xss h.between s h.from_first in
      let v : length yss ≡ b.marks (sub f Right) + length h.between = y.len (sub f Right) h.between yss t h.from_second in
      omega arith;
  some = λ f xss (s, t) o.
      let u : (zss : Segments A) × a.res (sub f Left) xss zss = x.some (sub f Left) xss s o in
      let v : (yss : Segments A) × b.res (sub f Right) u.0 yss = y.some (sub f Right) u.0 t (c.opens (sub f Left) xss u.0 u.1 o) in
      (v.0, record { between = u.0; from_first = u.1; from_second = v.1 });
  idle = λ f xss yss (n, m) h e. y.idle (sub f Right) h.between yss m h.from_second (x.idle (sub f Left) xss h.between n h.from_first e);
  new_sane = λ f (n, m). (x.new_sane (sub f Left) n, y.new_sane (sub f Right) m);
  new_marks = λ f (n, m). let u : a.marks (sub f Left) ≡ 0 = x.new_marks (sub f Left) n in let v : b.marks (sub f Right) ≡ 0 = y.new_marks (sub f Right) m in omega arith;
  still = λ f o f' (n, k) m. elim m [ inl l ↦ x.still (sub f Left) l.0 (sub f' Left) n l.1 | inr g ↦ y.still (sub f Right) o (sub f' Right) k g.0 ];
  put_sane = λ o f (s, t). (x.put_sane o (sub f Left) s, t);
  put_marks = λ o f.
      let u : a.marks (pushed a o (sub f Left)) ≡ a.marks (sub f Left) + count o = x.put_marks o (sub f Left) in omega arith;
  move_sane = λ f o f' m (s, t). elim m [
    | inl l ↦ (x.move_sane (sub f Left) l.0 (sub f' Left) l.1 s, subst b.sane (sym l.2) (y.put_sane l.0 (sub f Right) t))
    | inr g ↦ (subst a.sane (sym g.1) s, y.move_sane (sub f Right) o (sub f' Right) g.0 t)
  ];
  move_marks = λ f o f' m (s, t). elim m [
    | inl l ↦
        (let u : a.marks (sub f Left) ≡ count l.0 + a.marks (sub f' Left) = x.move_marks (sub f Left) l.0 (sub f' Left) l.1 s in
        let v : b.marks (sub f' Right) ≡ b.marks (sub f Right) + count l.0 = ap b.marks l.2 ∙ y.put_marks l.0 (sub f Right) in
        let w : count o ≡ 0 = ap count l.3 in omega arith)
    | inr g ↦
        (let u : b.marks (sub f Right) ≡ count o + b.marks (sub f' Right) = y.move_marks (sub f Right) o (sub f' Right) g.0 t in
        let v : a.marks (sub f' Left) ≡ a.marks (sub f Left) = ap a.marks g.1 in omega arith)
  ];
}

decided-append : (k : Key) (a b : List (Entry Key)) → decided k (a ++ b) ≡ decided k a + decided k b
decided-append k [] b = sym (zero-add (decided k b))
decided-append k (It j ∷ a) b = at (key_eq k j) (decided-append k a b)
  where
    at : (v : Bool) → decided k (a ++ b) ≡ decided k a + decided k b → cond v (suc (decided k (a ++ b))) (decided k (a ++ b)) ≡ cond v (suc (decided k a)) (decided k a) + decided k b
    at true h = omega arith
    at false h = h
decided-append k (Mark ∷ a) b = decided-append k a b

decided-place : {A : Type 0} (r : Router A) (k : Key) (e : Entry A) → decided k (key_of r e ∷ []) ≡ count (group_for r k e)
decided-place r k (It x) = at (key_eq k (r.key x))
  where
    at : (v : Bool) → cond v (suc zero) zero ≡ count (cond v (It x ∷ Mark ∷ []) [])
    at true = refl
    at false = refl
decided-place r k Mark = refl

count-place : {A : Type 0} (r : Router A) (e : Entry A) (w : List (Entry A)) → count (e ∷ w) ≡ count (key_of r e ∷ []) + count w
count-place r (It x) w = sym (zero-add (count w))
count-place r Mark w = omega arith

module _ {A S : Type 0} (r : Router A) (c : Key → Part A S) (x : (k : Key) → Lives (c k)) (p : (k : Key) → Core (c k)) where
  turn-still : (f : Live A S) (o : List (Entry A)) (f' : Live A S) → FreshFork c f → TurnMove r c f f' o → ⊥
  turn-still f o f' n (Routes e hw hd hk hs) = let u : (f []).waiting ≡ [] = n.waits in cc
  turn-still f o f' n (Inner k q m others hw hd hk ho) = (x k).still (sub f (At k)) q (sub f' (At k)) (n.kids_fresh k) m
  turn-still f o f' n (Gives k y ds hd hd' hk ho hw hs) = let u : (f []).decisions ≡ [] = n.decides in cc
  turn-still f o f' n (Closes k hd hk ho hw hs) = let u : (f []).decisions ≡ [] = n.decides in cc
  turn-still f o f' n (Marks hd hk hw hs) = let u : (f []).decisions ≡ [] = n.decides in cc
  turn-still f o f' n (Unfolds k e w hc n1 n2 others hw hd hk) = let u : (f []).waiting ≡ [] = n.waits in cc

  abbrev Group : Live A S → Key → Type 0
  Group f k = decided k ((f []).decisions) ≡ count ((f []).kept k) + (c k).marks (sub f (At k))

  turn-sane : (f : Live A S) (o : List (Entry A)) (f' : Live A S) → TurnMove r c f f' o → TurnSane c f → TurnSane c f'
  turn-sane f o f' (Routes e hw hd hk hs) s = record {
    kids_sane = λ k. subst ((c k).sane) (sym (hs k)) ((x k).put_sane (group_for r k e) (sub f (At k)) (s.kids_sane k));
    groups = λ k.
        let a : decided k ((f' []).decisions) ≡ decided k ((f []).decisions) + count (group_for r k e) =
        ap (decided k) hd ∙ decided-append k ((f []).decisions) (key_of r e ∷ []) ∙ ap (λ (n : ℕ). decided k ((f []).decisions) + n) (decided-place r k e) in
        let b : count ((f' []).kept k) ≡ count ((f []).kept k) = ap (λ (q : Key → List (Entry A)). count (q k)) hk in
        let d : (c k).marks (sub f' (At k)) ≡ (c k).marks (sub f (At k)) + count (group_for r k e) =
        ap ((c k).marks) (hs k) ∙ (x k).put_marks (group_for r k e) (sub f (At k)) in
        let g : Group f k = s.groups k in
        omega arith;
  }
  turn-sane f o f' (Inner k q m others hw hd hk ho) s = record {
    kids_sane = by_key (λ j. (c j).sane (sub f' (At j))) k
        ((x k).move_sane (sub f (At k)) q (sub f' (At k)) m (s.kids_sane k))
        (λ j t. subst ((c j).sane) (sym (others j t)) (s.kids_sane j));
    groups = by_key (Group f') k
        (let a : decided k ((f' []).decisions) ≡ decided k ((f []).decisions) = ap (decided k) hd in
        let b : count ((f' []).kept k) ≡ count ((f []).kept k) + count q = ap count hk ∙ count-append ((f []).kept k) q in
        let d : (c k).marks (sub f (At k)) ≡ count q + (c k).marks (sub f' (At k)) = (x k).move_marks (sub f (At k)) q (sub f' (At k)) m (s.kids_sane k) in
        let g : Group f k = s.groups k in
        omega arith)
        (λ j t. ap (decided j) hd ∙ s.groups j
        ∙ ap₂ (λ (u : List (Entry A)) (v : Live A S). count u + (c j).marks v) (sym (ho j t)) (sym (others j t)));
  }
  turn-sane f o f' (Gives k y ds hd hd' hk ho hw hs) s = record {
    kids_sane = λ j. subst ((c j).sane) (sym (hs j)) (s.kids_sane j);
    groups = λ j.
        ap (decided j) (hd' ∙ sym hd) ∙ s.groups j
        ∙ ap₂ (λ (n : ℕ) (v : Live A S). n + (c j).marks v)
        (by_key (λ l. count ((f []).kept l) ≡ count ((f' []).kept l)) k (ap count hk) (λ l t. ap count (sym (ho l t))) j) (sym (hs j));
  }
  turn-sane f o f' (Closes k hd hk ho hw hs) s = record {
    kids_sane = λ j. subst ((c j).sane) (sym (hs j)) (s.kids_sane j);
    groups = by_key (Group f') k
        (let a : decided k ((f []).decisions) ≡ suc (decided k ((f' []).decisions)) =
        ap (decided k) hd ∙ (let F : Bool → ℕ = λ b. cond b (suc (decided k ((f' []).decisions))) (decided k ((f' []).decisions)) in ap F (key_eq-refl k)) in
        let b : count ((f []).kept k) ≡ suc (count ((f' []).kept k)) = ap count hk in
        let d : (c k).marks (sub f' (At k)) ≡ (c k).marks (sub f (At k)) = ap ((c k).marks) (hs k) in
        let g : Group f k = s.groups k in
        omega arith)
        (λ j t.
        let a : decided j ((f []).decisions) ≡ decided j ((f' []).decisions) =
        ap (decided j) hd ∙ (let F : Bool → ℕ = λ b. cond b (suc (decided j ((f' []).decisions))) (decided j ((f' []).decisions)) in ap F t) in
        sym a ∙ s.groups j ∙ ap₂ (λ (u : List (Entry A)) (v : Live A S). count u + (c j).marks v) (sym (ho j t)) (sym (hs j)));
  }
  turn-sane f o f' (Marks hd hk hw hs) s = record {
    kids_sane = λ j. subst ((c j).sane) (sym (hs j)) (s.kids_sane j);
    groups = λ j. sym (ap (decided j) hd) ∙ s.groups j
        ∙ ap₂ (λ (u : Key → List (Entry A)) (v : Live A S). count (u j) + (c j).marks v) (sym hk) (sym (hs j));
  }
  turn-sane f o f' (Unfolds k e w hc n n' others hw hd hk) s = record {
    kids_sane = by_key (λ j. (c j).sane (sub f' (At j))) k ((x k).new_sane (sub f' (At k)) n') (λ j t. subst ((c j).sane) (sym (others j t)) (s.kids_sane j));
    groups = by_key (Group f') k
        (let a : decided k ((f' []).decisions) ≡ decided k ((f []).decisions) = ap (decided k) hd in
        let b : count ((f' []).kept k) ≡ count ((f []).kept k) = ap (λ (q : Key → List (Entry A)). count (q k)) hk in
        let d : (c k).marks (sub f' (At k)) ≡ 0 = (x k).new_marks (sub f' (At k)) n' in
        let d' : (c k).marks (sub f (At k)) ≡ 0 = (x k).new_marks (sub f (At k)) n in
        let g : Group f k = s.groups k in
        omega arith)
        (λ j t. ap (decided j) hd ∙ s.groups j
        ∙ ap₂ (λ (u : Key → List (Entry A)) (v : Live A S). count (u j) + (c j).marks v) (sym hk) (sym (others j t)));
  }

  turn-marks : (f : Live A S) (o : List (Entry A)) (f' : Live A S) → TurnMove r c f f' o
      → count ((f []).waiting) + count ((f []).decisions) ≡ count o + (count ((f' []).waiting) + count ((f' []).decisions))
  turn-marks f o f' (Routes e hw hd hk hs) =
      let a : count ((f []).waiting) ≡ count (key_of r e ∷ []) + count ((f' []).waiting) = ap count hw ∙ count-place r e ((f' []).waiting) in
      let b : count ((f' []).decisions) ≡ count ((f []).decisions) + count (key_of r e ∷ []) = ap count hd ∙ count-append ((f []).decisions) (key_of r e ∷ []) in
      omega arith
  turn-marks f o f' (Inner k q m others hw hd hk ho) =
      let a : count ((f' []).waiting) ≡ count ((f []).waiting) = ap count hw in
      let b : count ((f' []).decisions) ≡ count ((f []).decisions) = ap count hd in omega arith
  turn-marks f o f' (Gives k y ds hd hd' hk ho hw hs) =
      let a : count ((f' []).waiting) ≡ count ((f []).waiting) = ap count hw in
      let b : count ((f' []).decisions) ≡ count ((f []).decisions) = ap count (hd' ∙ sym hd) in omega arith
  turn-marks f o f' (Closes k hd hk ho hw hs) =
      let a : count ((f' []).waiting) ≡ count ((f []).waiting) = ap count hw in
      let b : count ((f []).decisions) ≡ count ((f' []).decisions) = ap count hd in omega arith
  turn-marks f o f' (Marks hd hk hw hs) =
      let a : count ((f' []).waiting) ≡ count ((f []).waiting) = ap count hw in
      let b : count ((f []).decisions) ≡ suc (count ((f' []).decisions)) = ap count hd in omega arith
  turn-marks f o f' (Unfolds k e w hc n n' others hw hd hk) =
      let a : count ((f' []).waiting) ≡ count ((f []).waiting) = ap count hw in
      let b : count ((f' []).decisions) ≡ count ((f []).decisions) = ap count hd in omega arith

  pub turn-Lives : Lives (turn_part r c)
  turn-Lives = record {
    len = λ f xss yss s (zss, h, e).
        let a : length yss ≡ length (carry ((f []).decisions) (keys r (carry ((f []).waiting) xss))) =
        ap length e ∙ length-by_keys (kept_before ((f []).kept) zss) (carry ((f []).decisions) (keys r (carry ((f []).waiting) xss))) in
        let b : length (carry ((f []).decisions) (keys r (carry ((f []).waiting) xss))) ≡ count ((f []).decisions) + length (keys r (carry ((f []).waiting) xss)) =
        length-carry ((f []).decisions) (keys r (carry ((f []).waiting) xss)) in
        let d : length (keys r (carry ((f []).waiting) xss)) ≡ count ((f []).waiting) + length xss =
        length-keys r (carry ((f []).waiting) xss) ∙ length-carry ((f []).waiting) xss in
        omega arith;
    some = λ f xss s o.
        let u : (k : Key) → (zss : Segments A) × (c k).res (sub f (At k)) (apart (items_of r k (joined (carry ((f []).waiting) xss)))) zss =
        λ k. (x k).some (sub f (At k)) (apart (items_of r k (joined (carry ((f []).waiting) xss)))) (s.kids_sane k) (apart-open (items_of r k (joined (carry ((f []).waiting) xss)))) in (
          by_keys (kept_before ((f []).kept) (λ k. (u k).0)) (carry ((f []).decisions) (keys r (carry ((f []).waiting) xss))),
          ((λ k. (u k).0), (λ k. (u k).1), refl),
        );
    idle = λ f xss yss n (zss, h, e) em.
        subst Silent
        (sym (e ∙ ap₂ (λ (w : List (Entry A)) (ds : List (Entry Key)). by_keys (kept_before ((f []).kept) zss) (carry ds (keys r (carry w xss)))) n.waits n.decides))
        (by_keys-silent r (kept_before ((f []).kept) zss) xss em);
    new_sane = λ f n. record {
      kids_sane = λ k. (x k).new_sane (sub f (At k)) (n.kids_fresh k);
      groups = λ k.
          let a : (c k).marks (sub f (At k)) ≡ 0 = (x k).new_marks (sub f (At k)) (n.kids_fresh k) in
          let b : count ((f []).kept k) ≡ 0 = ap count (n.keeps k) in
          let d : decided k ((f []).decisions) ≡ 0 = ap (decided k) n.decides in
          omega arith;
    };
    new_marks = λ f n. let a : count ((f []).waiting) ≡ 0 = ap count n.waits in let b : count ((f []).decisions) ≡ 0 = ap count n.decides in omega arith;
    still = turn-still;
    put_sane = λ o f s. record { kids_sane = s.kids_sane; groups = s.groups };
    put_marks = λ o f. let a : count ((f []).waiting ++ o) ≡ count ((f []).waiting) + count o = count-append ((f []).waiting) o in omega arith;
    move_sane = turn-sane;
    move_marks = λ f o f' m s. turn-marks f o f' m;
  }
