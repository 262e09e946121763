-- After a move, what can still come could come before: components, series, deterministic forks.
use Rattle.std.proofs.Common.{◌≡◌, Bool, true, false, cond, if◌then◌else◌, List, [], ◌∷◌, ◌++◌, refl, sym, ap, ap₂, ◌∙◌, subst, inl, inr}
use Rattle.std.proofs.Math.Path.{fun_ext}
use Rattle.sn_streams.specs.Forks.{Relation, Router, items_of}
use Rattle.sn_streams.specs.Keys.{Key, key_eq}
use Rattle.sn_streams.specs.Machines.{Machine, transduced}
use Rattle.sn_streams.specs.Segments.{Segments, joined, first_segment, other_segments}
use Rattle.sn_streams.proofs.Keys.{same_key}
use Rattle.sn_live.specs.Entries.{Entry, It, Mark, push, carry, items, IsOpen, apart}
use Rattle.sn_live.specs.Live.{Left, Right, Live, sub}
use Rattle.sn_live.specs.Parts.{Part, pushed, component_part, state_after, emits_for, series_part, keys, taken, by_keys, kept_before, turns_of, kids, key_of, group_for, TurnMove, Routes, Inner, Gives, Closes, Marks, Unfolds, turn_part, FreshFork}
use Rattle.sn_live.proofs.Streams.{carry-append, carry-open, apart-open, transduced-push, transduced-open, keys-carry, keys-open, apart-carry, first-push, other-push, by_keys-push, by_keys-open, by_key, cond-same}

pub record Core {A S : Type 0} (p : Part A S) : Type 0 where
  pub puts : (o : List (Entry A)) (f : Live A S) (xss yss : Segments A) → p.res (pushed p o f) xss yss → p.res f (carry o xss) yss
  pub opens : (f : Live A S) (xss yss : Segments A) → p.res f xss yss → IsOpen xss → IsOpen yss
  pub keeps : (f : Live A S) (o : List (Entry A)) (f' : Live A S) (xss yss : Segments A) → p.moves f o f' → IsOpen xss → p.res f' xss yss → p.res f xss (carry o yss)
  -- an empty segment first, to one that is fresh, gives an empty one first
  pub leads : (f : Live A S) (xss yss : Segments A) → p.fresh f → p.res f xss yss → p.res f ([] ∷ xss) ([] ∷ yss)
  -- all that are fresh give the same
  pub renews : (f f' : Live A S) (xss yss : Segments A) → p.fresh f → p.fresh f' → p.res f' xss yss → p.res f xss yss

module _ {A S : Type 0} (m : Machine A S) (z : S) where
  eaten : (s : S) (e : Entry A) (xss : Segments A) → transduced m s (carry (e ∷ []) xss) ≡ carry (emits_for m s e) (transduced m (state_after m s e) xss)
  eaten s (It x) xss = transduced-push m s x xss
  eaten s Mark xss = refl

  pub component-Core : Core (component_part m z)
  component-Core = record {
    puts = λ o f xss yss h.
        h ∙ ap (transduced m (f []).state) (carry-append ((f []).waiting) o xss);
    opens = λ f xss yss h o. let P : Segments A → Type 0 = λ q. IsOpen q in
        subst P (sym h) (transduced-open m (f []).state (carry ((f []).waiting) xss) (carry-open ((f []).waiting) xss o));
    keeps = λ f o f' xss yss (e, hw, hs, ho) i h.
        ap₂ (λ (p : List (Entry A)) (q : Segments A). carry p q) ho
        (h ∙ ap (λ (s : S). transduced m s (carry ((f' []).waiting) xss)) hs)
        ∙ sym (eaten (f []).state e (carry ((f' []).waiting) xss))
        ∙ ap (transduced m (f []).state) (sym (carry-append (e ∷ []) ((f' []).waiting) xss) ∙ ap (λ (w : List (Entry A)). carry w xss) (sym hw));
    leads = λ f xss yss (hw, hs) h.
        ap (λ (q : Segments A). [] ∷ q) (h ∙ ap (λ (w : List (Entry A)). transduced m (f []).state (carry w xss)) hw)
        ∙ ap (λ (w : List (Entry A)). transduced m (f []).state (carry w ([] ∷ xss))) (sym hw);
    renews = λ f f' xss yss (hw, hs) (hw', hs') h.
        h ∙ ap₂ (λ (s : S) (w : List (Entry A)). transduced m s (carry w xss)) (hs' ∙ sym hs) (hw' ∙ sym hw);
  }

pub series-Core : {A S : Type 0} (a b : Part A S) → Core a → Core b → Core (series_part a b)
series-Core {A} {S} a b p q = record {
  puts = λ o f xss yss h. record { between = h.between; from_first = p.puts o (sub f Left) xss h.between h.from_first; from_second = h.from_second };
  opens = λ f xss yss h i. q.opens (sub f Right) h.between yss h.from_second (p.opens (sub f Left) xss h.between h.from_first i);
  keeps = λ f o f' xss yss m i h.
      elim m [
        | inl l ↦ record {
          between = carry l.0 h.between;
          from_first = p.keeps (sub f Left) l.0 (sub f' Left) xss h.between l.1 i h.from_first;
          from_second = (let P : List (Entry A) → Type 0 = λ w. b.res (sub f Right) (carry l.0 h.between) (carry w yss) in
              subst P (sym l.3) (q.puts l.0 (sub f Right) h.between yss
              (let Q : Live A S → Type 0 = λ g. b.res g h.between yss in subst Q l.2 h.from_second)));
        }
        | inr g ↦ record {
          between = h.between;
          from_first = (let Q : Live A S → Type 0 = λ k. a.res k xss h.between in subst Q g.1 h.from_first);
          from_second = q.keeps (sub f Right) o (sub f' Right) h.between yss g.0 (p.opens (sub f' Left) xss h.between h.from_first i) h.from_second;
        }
      ];
  leads = λ f xss yss (n, m) h. record {
    between = [] ∷ h.between;
    from_first = p.leads (sub f Left) xss h.between n h.from_first;
    from_second = q.leads (sub f Right) h.between yss m h.from_second;
  };
  renews = λ f f' xss yss (n, m) (n', m') h. record {
    between = h.between;
    from_first = p.renews (sub f Left) (sub f' Left) xss h.between n n' h.from_first;
    from_second = q.renews (sub f Right) (sub f' Right) h.between yss m m' h.from_second;
  };
}

module _ {A S : Type 0} (r : Router A) (c : Key → Part A S) (p : (k : Key) → Core (c k)) where
  -- the residue of a deterministic dispatcher at each of its moves
  abbrev Res : List (Entry A) → List (Entry Key) → (Key → List (Entry A)) → (Key → Live A S) → Relation A
  Res = turns_of r c

  turn-routes : (e : Entry A) (w : List (Entry A)) (ds : List (Entry Key)) (kept : Key → List (Entry A)) (kid : Key → Live A S) (xss yss : Segments A) → IsOpen xss
      → Res w (ds ++ key_of r e ∷ []) kept (λ k. pushed (c k) (group_for r k e) (kid k)) xss yss → Res (e ∷ w) ds kept kid xss yss
  turn-routes e w ds kept kid xss yss i (zss, h, y) = (
    zss,
    (λ k. let P : Segments A → Type 0 = λ q. (c k).res (kid k) q (zss k) in
        subst P (sym (ap (λ (q : Segments A). apart (items_of r k (joined q))) (carry-append (e ∷ []) w xss) ∙ apart-carry r k e (carry w xss) (carry-open w xss i)))
        ((p k).puts (group_for r k e) (kid k) (apart (items_of r k (joined (carry w xss)))) (zss k) (h k))),
    y ∙ ap (by_keys (kept_before kept zss))
        (carry-append ds (key_of r e ∷ []) (keys r (carry w xss)) ∙ ap (carry ds) (sym (ap (keys r) (carry-append (e ∷ []) w xss) ∙ keys-carry r e (carry w xss)))),
  )

  -- what a kid emits stands before what it still gives
  abbrev more : Key → List (Entry A) → (Key → Segments A) → Key → Segments A
  more k o zss j = if key_eq j k then carry o (zss j) else zss j

  turn-inner : (k : Key) (o : List (Entry A)) (w : List (Entry A)) (ds : List (Entry Key)) (kept kept' : Key → List (Entry A)) (kid kid' : Key → Live A S) (xss yss : Segments A) → IsOpen xss
      → (c k).moves (kid k) o (kid' k) → ((j : Key) → key_eq j k ≡ false → kid' j ≡ kid j)
      → kept' k ≡ kept k ++ o → ((j : Key) → key_eq j k ≡ false → kept' j ≡ kept j)
      → Res w ds kept' kid' xss yss → Res w ds kept kid xss yss
  turn-inner k o w ds kept kept' kid kid' xss yss i m others e others' (zss, h, y) = (
    more k o zss,
    (λ j. at j (key_eq j k) refl),
    y ∙ ap (λ (z : Key → Segments A). by_keys z (carry ds (keys r (carry w xss)))) (fun_ext (λ j. same j (key_eq j k) refl)),
  )
    where
      at : (j : Key) (b : Bool) → key_eq j k ≡ b → (c j).res (kid j) (apart (items_of r j (joined (carry w xss)))) (cond b (carry o (zss j)) (zss j))
      at j true t =
          let P : Key → Type 0 = λ l. (c l).res (kid l) (apart (items_of r l (joined (carry w xss)))) (carry o (zss l)) in
          subst P (sym (same_key j k t))
          ((p k).keeps (kid k) o (kid' k) (apart (items_of r k (joined (carry w xss)))) (zss k) m (apart-open (items_of r k (joined (carry w xss)))) (h k))
      at j false t = let P : Live A S → Type 0 = λ g. (c j).res g (apart (items_of r j (joined (carry w xss)))) (zss j) in subst P (others j t) (h j)

      same : (j : Key) (b : Bool) → key_eq j k ≡ b → carry (kept' j) (zss j) ≡ carry (kept j) (cond b (carry o (zss j)) (zss j))
      same j true t =
          let P : Key → Type 0 = λ l. carry (kept' l) (zss l) ≡ carry (kept l) (carry o (zss l)) in
          subst P (sym (same_key j k t)) (ap (λ (q : List (Entry A)). carry q (zss k)) e ∙ carry-append (kept k) o (zss k))
      same j false t = ap (λ (q : List (Entry A)). carry q (zss j)) (others' j t)

  kept-open : (w : List (Entry A)) (kept : Key → List (Entry A)) (kid : Key → Live A S) (xss : Segments A) (zss : Key → Segments A)
      → ((k : Key) → (c k).res (kid k) (apart (items_of r k (joined (carry w xss)))) (zss k)) → (k : Key) → IsOpen (kept_before kept zss k)
  kept-open w kept kid xss zss h k =
      carry-open (kept k) (zss k) ((p k).opens (kid k) (apart (items_of r k (joined (carry w xss)))) (zss k) (h k) (apart-open (items_of r k (joined (carry w xss)))))

  -- the group of k that is served
  serves : (z : Key → Segments A) (k : Key) (kss : List (List Key)) → by_keys z (push k kss) ≡ carry (items (first_segment (z k))) (by_keys (taken z k) kss)
  serves z k kss = by_keys-push z k kss

  turn-gives : (k : Key) (y : A) (w : List (Entry A)) (ds : List (Entry Key)) (kept kept' : Key → List (Entry A)) (kid : Key → Live A S) (xss yss : Segments A) → IsOpen xss
      → kept k ≡ It y ∷ kept' k → ((j : Key) → key_eq j k ≡ false → kept' j ≡ kept j)
      → Res w (It k ∷ ds) kept' kid xss yss → Res w (It k ∷ ds) kept kid xss (push y yss)
  turn-gives k y w ds kept kept' kid xss yss i e others (zss, h, a) = (
    zss,
    h,
    ap (push y) (a ∙ serves (kept_before kept' zss) k (carry ds (keys r (carry w xss))))
        ∙ ap₂ (λ (q : List A) (u : Key → Segments A). carry (items q) (by_keys u (carry ds (keys r (carry w xss))))) (sym front) (sym (fun_ext back))
        ∙ sym (serves (kept_before kept zss) k (carry ds (keys r (carry w xss)))),
  )
    where
      front : first_segment ((kept_before kept zss) k) ≡ y ∷ first_segment ((kept_before kept' zss) k)
      front = ap (λ (q : List (Entry A)). first_segment (carry q (zss k))) e ∙ first-push y ((kept_before kept' zss) k) (kept-open w kept' kid xss zss h k)

      back : (j : Key) → taken (kept_before kept zss) k j ≡ taken (kept_before kept' zss) k j
      back j =
          cond-same (key_eq j k) (other_segments ((kept_before kept zss) j)) (other_segments ((kept_before kept' zss) j)) ((kept_before kept zss) j) ((kept_before kept' zss) j)
          (λ t. let P : Key → Type 0 = λ l. other_segments ((kept_before kept zss) l) ≡ other_segments ((kept_before kept' zss) l) in
          subst P (sym (same_key j k t))
          (ap (λ (q : List (Entry A)). other_segments (carry q (zss k))) e ∙ other-push y ((kept_before kept' zss) k)))
          (λ t. ap (λ (q : List (Entry A)). carry q (zss j)) (sym (others j t)))

  turn-closes : (k : Key) (w : List (Entry A)) (ds : List (Entry Key)) (kept kept' : Key → List (Entry A)) (kid : Key → Live A S) (xss yss : Segments A)
      → kept k ≡ Mark ∷ kept' k → ((j : Key) → key_eq j k ≡ false → kept' j ≡ kept j)
      → Res w ds kept' kid xss yss → Res w (It k ∷ ds) kept kid xss yss
  turn-closes k w ds kept kept' kid xss yss e others (zss, h, a) = (
    zss,
    h,
    a ∙ ap₂ (λ (q : List A) (u : Key → Segments A). carry (items q) (by_keys u (carry ds (keys r (carry w xss)))))
        (sym (ap (λ (q : List (Entry A)). first_segment (carry q (zss k))) e)) (sym (fun_ext back))
        ∙ sym (serves (kept_before kept zss) k (carry ds (keys r (carry w xss)))),
  )
    where
      back : (j : Key) → taken (kept_before kept zss) k j ≡ (kept_before kept' zss) j
      back j =
          part (key_eq j k) ((kept_before kept zss) j) ((kept_before kept' zss) j)
          (λ t. let P : Key → Type 0 = λ l. other_segments ((kept_before kept zss) l) ≡ (kept_before kept' zss) l in
          subst P (sym (same_key j k t)) (ap (λ (q : List (Entry A)). other_segments (carry q (zss k))) e))
          (λ t. ap (λ (q : List (Entry A)). carry q (zss j)) (sym (others j t)))
        where
          part : (b : Bool) (x y : Segments A) → (b ≡ true → other_segments x ≡ y) → (b ≡ false → x ≡ y) → cond b (other_segments x) x ≡ y
          part true x y f g = f refl
          part false x y f g = g refl

  -- the same, of states
  same-state : (w w' : List (Entry A)) (ds ds' : List (Entry Key)) (kept kept' : Key → List (Entry A)) (kid kid' : Key → Live A S) (xss yss : Segments A)
      → w ≡ w' → ds ≡ ds' → kept ≡ kept' → kid ≡ kid' → Res w ds kept kid xss yss → Res w' ds' kept' kid' xss yss
  same-state w w' ds ds' kept kept' kid kid' xss yss a b d e h =
      let P : List (Entry A) → Type 0 = λ q. Res q ds' kept' kid' xss yss in subst P a
      (let Q : List (Entry Key) → Type 0 = λ q. Res w q kept' kid' xss yss in subst Q b
      (let R : (Key → List (Entry A)) → Type 0 = λ q. Res w ds q kid' xss yss in subst R d
      (let T : (Key → Live A S) → Type 0 = λ q. Res w ds kept q xss yss in subst T e h)))

  turn-keeps : (f : Live A S) (o : List (Entry A)) (f' : Live A S) (xss yss : Segments A) → TurnMove r c f f' o → IsOpen xss → (turn_part r c).res f' xss yss → (turn_part r c).res f xss (carry o yss)
  turn-keeps f o f' xss yss (Routes e hw hd hk hs) i h =
      same-state (e ∷ (f' []).waiting) ((f []).waiting) ((f []).decisions) ((f []).decisions) ((f []).kept) ((f []).kept) (kids f) (kids f) xss yss (sym hw) refl refl refl
      (turn-routes e ((f' []).waiting) ((f []).decisions) ((f []).kept) (kids f) xss yss i
      (same-state ((f' []).waiting) ((f' []).waiting) ((f' []).decisions) ((f []).decisions ++ key_of r e ∷ []) ((f' []).kept) ((f []).kept) (kids f') (λ k. pushed (c k) (group_for r k e) (kids f k)) xss yss
      refl hd hk (fun_ext hs) h))
  turn-keeps f o f' xss yss (Inner k q m others hw hd hk ho) i h =
      turn-inner k q ((f []).waiting) ((f []).decisions) ((f []).kept) ((f' []).kept) (kids f) (kids f') xss yss i m others hk ho
      (same-state ((f' []).waiting) ((f []).waiting) ((f' []).decisions) ((f []).decisions) ((f' []).kept) ((f' []).kept) (kids f') (kids f') xss yss hw hd refl refl h)
  turn-keeps f o f' xss yss (Gives k y ds hd hd' hk ho hw hs) i h =
      same-state ((f []).waiting) ((f []).waiting) (It k ∷ ds) ((f []).decisions) ((f []).kept) ((f []).kept) (kids f) (kids f) xss (push y yss) refl (sym hd) refl refl
      (turn-gives k y ((f []).waiting) ds ((f []).kept) ((f' []).kept) (kids f) xss yss i hk ho
      (same-state ((f' []).waiting) ((f []).waiting) ((f' []).decisions) (It k ∷ ds) ((f' []).kept) ((f' []).kept) (kids f') (kids f) xss yss hw hd' refl (fun_ext hs) h))
  turn-keeps f o f' xss yss (Closes k hd hk ho hw hs) i h =
      same-state ((f []).waiting) ((f []).waiting) (It k ∷ (f' []).decisions) ((f []).decisions) ((f []).kept) ((f []).kept) (kids f) (kids f) xss yss refl (sym hd) refl refl
      (turn-closes k ((f []).waiting) ((f' []).decisions) ((f []).kept) ((f' []).kept) (kids f) xss yss hk ho
      (same-state ((f' []).waiting) ((f []).waiting) ((f' []).decisions) ((f' []).decisions) ((f' []).kept) ((f' []).kept) (kids f') (kids f) xss yss hw refl refl (fun_ext hs) h))
  turn-keeps f o f' xss yss (Marks hd hk hw hs) i h =
      same-state ((f []).waiting) ((f []).waiting) (Mark ∷ (f' []).decisions) ((f []).decisions) ((f []).kept) ((f []).kept) (kids f) (kids f) xss ([] ∷ yss) refl (sym hd) refl refl
      (marks (same-state ((f' []).waiting) ((f []).waiting) ((f' []).decisions) ((f' []).decisions) ((f' []).kept) ((f []).kept) (kids f') (kids f) xss yss hw refl hk (fun_ext hs) h))
    where
      marks : Res ((f []).waiting) ((f' []).decisions) ((f []).kept) (kids f) xss yss → Res ((f []).waiting) (Mark ∷ (f' []).decisions) ((f []).kept) (kids f) xss ([] ∷ yss)
      marks (zss, g, a) = (zss, g, ap (λ (q : Segments A). [] ∷ q) a)
  turn-keeps f o f' xss yss (Unfolds k e w hc n n' others hw hd hk) i h =
      unfolds (same-state ((f' []).waiting) ((f []).waiting) ((f' []).decisions) ((f []).decisions) ((f' []).kept) ((f []).kept) (kids f') (kids f') xss yss hw hd hk refl h)
    where
      unfolds : Res ((f []).waiting) ((f []).decisions) ((f []).kept) (kids f') xss yss → Res ((f []).waiting) ((f []).decisions) ((f []).kept) (kids f) xss yss
      unfolds (zss, g, a) = (
        zss,
        by_key (λ j. (c j).res (kids f j) (apart (items_of r j (joined (carry ((f []).waiting) xss)))) (zss j)) k
            ((p k).renews (kids f k) (kids f' k) (apart (items_of r k (joined (carry ((f []).waiting) xss)))) (zss k) n n' (g k))
            (λ j t. let P : Live A S → Type 0 = λ l. (c j).res l (apart (items_of r j (joined (carry ((f []).waiting) xss)))) (zss j) in subst P (others j t) (g j)),
        a,
      )

  pub turn-Core : Core (turn_part r c)
  turn-Core = record {
    puts = λ o f xss yss (zss, h, a). (
      zss,
      (λ k. let P : Segments A → Type 0 = λ q. (c k).res (kids f k) (apart (items_of r k (joined q))) (zss k) in subst P (carry-append ((f []).waiting) o xss) (h k)),
      a ∙ ap (λ (q : Segments A). by_keys (kept_before ((f []).kept) zss) (carry ((f []).decisions) (keys r q))) (carry-append ((f []).waiting) o xss),
    );
    opens = λ f xss yss (zss, h, a) i.
        let P : Segments A → Type 0 = λ q. IsOpen q in
        subst P (sym a) (by_keys-open (kept_before ((f []).kept) zss) (carry ((f []).decisions) (keys r (carry ((f []).waiting) xss)))
        (carry-open ((f []).decisions) (keys r (carry ((f []).waiting) xss)) (keys-open r (carry ((f []).waiting) xss) (carry-open ((f []).waiting) xss i))));
    keeps = turn-keeps;
    leads = λ f xss yss n h.
        fresh-state f ([] ∷ xss) ([] ∷ yss) n (leads xss yss (kids f) (state-fresh f xss yss n h));
    renews = λ f f' xss yss n n' h. fresh-state f xss yss n (renewed f f' xss yss n n' (state-fresh f' xss yss n' h));
  }
    where
      none : Key → List (Entry A)
      none k = []

      fresh-state : (f : Live A S) (xss yss : Segments A) → FreshFork c f → Res [] [] none (kids f) xss yss → (turn_part r c).res f xss yss
      fresh-state f xss yss n h = same-state [] ((f []).waiting) [] ((f []).decisions) none ((f []).kept) (kids f) (kids f) xss yss (sym n.waits) (sym n.decides) (sym (fun_ext n.keeps)) refl h

      state-fresh : (f : Live A S) (xss yss : Segments A) → FreshFork c f → (turn_part r c).res f xss yss → Res [] [] none (kids f) xss yss
      state-fresh f xss yss n h = same-state ((f []).waiting) [] ((f []).decisions) [] ((f []).kept) none (kids f) (kids f) xss yss n.waits n.decides (fun_ext n.keeps) refl h

      leads : (xss yss : Segments A) (kid : Key → Live A S) → Res [] [] none kid xss yss → Res [] [] none kid ([] ∷ xss) ([] ∷ yss)
      leads xss yss kid (zss, h, a) = (zss, h, ap (λ (q : Segments A). [] ∷ q) a)

      renewed : (f f' : Live A S) (xss yss : Segments A) → FreshFork c f → FreshFork c f' → Res [] [] none (kids f') xss yss → Res [] [] none (kids f) xss yss
      renewed f f' xss yss n n' (zss, h, a) =
          (zss, (λ k. (p k).renews (kids f k) (kids f' k) (apart (items_of r k (joined xss))) (zss k) (n.kids_fresh k) (n'.kids_fresh k) (h k)), a)
