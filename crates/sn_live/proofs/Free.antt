-- After a move, what can still come could come before: free forks, and all trees.
use Rattle.std.proofs.Common.{◌≡◌, ℕ, suc, Bool, true, false, cond, if◌then◌else◌, List, [], ◌∷◌, ◌++◌, refl, sym, ap, ap₂, ◌∙◌, subst, ◌⊎◌, inl, inr}
use Rattle.std.proofs.Math.Path.{fun_ext}
use Rattle.sn_streams.specs.Forks.{Relation, Router, by_segment, Merge, Free, Deterministic}
use Rattle.sn_streams.specs.Keys.{Key, Own, key_eq, replaced_at, is_among}
use Rattle.sn_streams.specs.Segments.{Segments}
use Rattle.sn_streams.specs.Shuffles.{SegmentShuffles}
use Rattle.sn_streams.specs.Trees.{Tree, Component, Series, Fork}
use Rattle.sn_streams.proofs.Keys.{key_eq-refl, same_key}
use Rattle.sn_streams.proofs.Shuffles.{same_lists, same_streams}
use Rattle.sn_live.specs.Entries.{Entry, It, Mark, push, carry, IsOpen, pad}
use Rattle.sn_live.specs.Live.{Live, stands}
use Rattle.sn_live.specs.Parts.{Part, pushed, kids, padded, freely_of, share_for, Told, NotYet, FreeMove, Routed, Epoch, Within, Takes, Passes, Closing, Makes, FreshFork, free_part, fork_part, Several, One, Then, several, part}
use Rattle.sn_live.proofs.Streams.{carry-append, carry-open, by_segment-carry, by_segment-open, pad-suc, pad-open, by_key}
use Rattle.sn_live.proofs.Turns.{Core, component-Core, series-Core, turn-Core}

module _ {A : Type 0} where
  pub shuffles-open : (yss : Segments A) (f : Key → Segments A) (k : Key) → SegmentShuffles yss f → IsOpen (f k) → IsOpen yss
  shuffles-open [] f k s o = let P : Segments A → Type 0 = λ q. IsOpen q in subst P (s k) o
  shuffles-open (ys ∷ yss) f k s o = tt

  -- an item of k that comes out first
  pub shuffles-push : (k : Key) (y : A) (yss : Segments A) (f f' : Key → Segments A)
      → f k ≡ push y (f' k) → ((j : Key) → key_eq j k ≡ false → f j ≡ f' j) → SegmentShuffles yss f' → SegmentShuffles (push y yss) f
  shuffles-push k y [] f f' e others s = λ j. at j (key_eq j k) refl
    where
      at : (j : Key) (b : Bool) → key_eq j k ≡ b → f j ≡ []
      at j true t = ap f (same_key j k t) ∙ e ∙ ap (push y) (s k)
      at j false t = others j t ∙ s j
  shuffles-push k y (ys ∷ yss) f f' e others (h, t, eq, s, ss) = (
    replaced_at h k (y ∷ h k),
    t,
    (λ j. at j (key_eq j k) refl),
    (k, h k, ap (λ (b : Bool). cond b (y ∷ h k) (h k)) (key_eq-refl k), same_lists ys h (replaced_at (replaced_at h k (y ∷ h k)) k (h k)) same s),
    ss,
  )
    where
      at : (j : Key) (b : Bool) → key_eq j k ≡ b → f j ≡ cond b (y ∷ h k) (h j) ∷ t j
      at j true u =
          let P : Key → Type 0 = λ l. f l ≡ (y ∷ h k) ∷ t l in
          subst P (sym (same_key j k u)) (e ∙ ap (push y) (eq k))
      at j false u = others j u ∙ eq j

      same : (j : Key) → h j ≡ replaced_at (replaced_at h k (y ∷ h k)) k (h k) j
      same j = on (key_eq j k) refl
        where
          on : (b : Bool) → key_eq j k ≡ b → h j ≡ cond b (h k) (cond b (y ∷ h k) (h j))
          on true u = ap h (same_key j k u)
          on false u = refl

-- no child of a fresh fork is ahead
pub fresh-stands : {A S : Type 0} (c : Key → Part A S) (f : Live A S) → FreshFork c f → (k : Key) → stands (f []) k ≡ 0
fresh-stands c f n k = at (is_among k ((f []).made))
  where
    at : (b : Bool) → cond b ((f []).lead k) ((f []).ahead) ≡ 0
    at true = n.leads k
    at false = n.level

module _ {A S : Type 0} (r : Router A) (c : Key → Part A S) (p : (k : Key) → Core (c k)) where
  abbrev Res : List (Entry A) → (Key → ℕ) → (Key → List (Entry A)) → (Key → Live A S) → Relation A
  Res = freely_of r c

  same-state : (w w' : List (Entry A)) (epoch epoch' : Key → ℕ) (kept kept' : Key → List (Entry A)) (kid kid' : Key → Live A S) (xss yss : Segments A)
      → w ≡ w' → epoch ≡ epoch' → kept ≡ kept' → kid ≡ kid' → Res w epoch kept kid xss yss → Res w' epoch' kept' kid' xss yss
  same-state w w' epoch epoch' kept kept' kid kid' xss yss a b d e h =
      let P : List (Entry A) → Type 0 = λ q. Res q epoch' kept' kid' xss yss in subst P a
      (let Q : (Key → ℕ) → Type 0 = λ q. Res w q kept' kid' xss yss in subst Q b
      (let R : (Key → List (Entry A)) → Type 0 = λ q. Res w epoch q kid' xss yss in subst R d
      (let T : (Key → Live A S) → Type 0 = λ q. Res w epoch kept q xss yss in subst T e h)))

  free-routes : (e : Entry A) (w : List (Entry A)) (epoch : Key → ℕ) (kept : Key → List (Entry A)) (kid : Key → Live A S) (xss yss : Segments A)
      → Res w epoch kept (λ k. pushed (c k) (share_for r k e) (kid k)) xss yss → Res (e ∷ w) epoch kept kid xss yss
  free-routes e w epoch kept kid xss yss (zss, h, s) = (
    zss,
    (λ k. let P : Segments A → Type 0 = λ q. (c k).res (kid k) q (zss k) in
        subst P (sym (ap (by_segment r k) (carry-append (e ∷ []) w xss) ∙ by_segment-carry r k e (carry w xss)))
        ((p k).puts (share_for r k e) (kid k) (by_segment r k (carry w xss)) (zss k) (h k))),
    s,
  )

  -- a mark that comes in: each kid gets it, or begins an epoch later
  abbrev Marked : (Key → ℕ) → (Key → ℕ) → (Key → List (Entry A)) → (Key → Live A S) → (Key → Live A S) → Key → Type 0
  Marked epoch epoch' kept kid kid' k = Told (c k) (kid k) (kid' k) (epoch k) (epoch' k) ⊎ NotYet (c k) (kid k) (kid' k) (kept k) (epoch k) (epoch' k)

  free-epoch : (w : List (Entry A)) (epoch epoch' : Key → ℕ) (kept : Key → List (Entry A)) (kid kid' : Key → Live A S) (xss yss : Segments A)
      → ((k : Key) → Marked epoch epoch' kept kid kid' k)
      → Res w epoch' kept kid' xss yss → Res (Mark ∷ w) epoch kept kid xss yss
  free-epoch w epoch epoch' kept kid kid' xss yss m (zss, h, s) = (
    (λ k. answer k (m k)),
    (λ k. at k (m k)),
    same_streams yss (padded epoch' kept zss) (padded epoch kept (λ k. answer k (m k))) (λ k. same k (m k)) s,
  )
    where
      answer : (k : Key) → Marked epoch epoch' kept kid kid' k → Segments A
      answer k (inl t) = zss k
      answer k (inr n) = [] ∷ zss k

      at : (k : Key) (v : Marked epoch epoch' kept kid kid' k) → (c k).res (kid k) (by_segment r k (carry (Mark ∷ w) xss)) (answer k v)
      at k (inl t) =
          (p k).puts (Mark ∷ []) (kid k) (by_segment r k (carry w xss)) (zss k)
          (let P : Live A S → Type 0 = λ g. (c k).res g (by_segment r k (carry w xss)) (zss k) in subst P t.kid_is (h k))
      at k (inr n) =
          (p k).leads (kid k) (by_segment r k (carry w xss)) (zss k) n.before
          (let Q : Live A S → Type 0 = λ g. (c k).res g (by_segment r k (carry w xss)) (zss k) in subst Q n.after (h k))

      same : (k : Key) (v : Marked epoch epoch' kept kid kid' k) → padded epoch' kept zss k ≡ pad (epoch k) (carry (kept k) (answer k v))
      same k (inl t) = ap (λ (e : ℕ). pad e (carry (kept k) (zss k))) t.epoch_is
      same k (inr n) =
          ap₂ (λ (e : ℕ) (q : List (Entry A)). pad e (carry q (zss k))) n.epoch_is n.nothing
          ∙ sym (pad-suc (epoch k) (zss k))
          ∙ ap (λ (q : List (Entry A)). pad (epoch k) (carry q ([] ∷ zss k))) (sym n.nothing)

  abbrev more : Key → List (Entry A) → (Key → Segments A) → Key → Segments A
  more k o zss j = if key_eq j k then carry o (zss j) else zss j

  free-within : (k : Key) (o : List (Entry A)) (w : List (Entry A)) (epoch : Key → ℕ) (kept kept' : Key → List (Entry A)) (kid kid' : Key → Live A S) (xss yss : Segments A) → IsOpen xss
      → (c k).moves (kid k) o (kid' k) → ((j : Key) → key_eq j k ≡ false → kid' j ≡ kid j)
      → kept' k ≡ kept k ++ o → ((j : Key) → key_eq j k ≡ false → kept' j ≡ kept j)
      → Res w epoch kept' kid' xss yss → Res w epoch kept kid xss yss
  free-within k o w epoch kept kept' kid kid' xss yss i m others e others' (zss, h, s) = (
    more k o zss,
    (λ j. at j (key_eq j k) refl),
    same_streams yss (padded epoch kept' zss) (padded epoch kept (more k o zss)) (λ j. ap (pad (epoch j)) (same j (key_eq j k) refl)) s,
  )
    where
      at : (j : Key) (b : Bool) → key_eq j k ≡ b → (c j).res (kid j) (by_segment r j (carry w xss)) (cond b (carry o (zss j)) (zss j))
      at j true t =
          let P : Key → Type 0 = λ l. (c l).res (kid l) (by_segment r l (carry w xss)) (carry o (zss l)) in
          subst P (sym (same_key j k t))
          ((p k).keeps (kid k) o (kid' k) (by_segment r k (carry w xss)) (zss k) m (by_segment-open r k (carry w xss) (carry-open w xss i)) (h k))
      at j false t = let P : Live A S → Type 0 = λ g. (c j).res g (by_segment r j (carry w xss)) (zss j) in subst P (others j t) (h j)

      same : (j : Key) (b : Bool) → key_eq j k ≡ b → carry (kept' j) (zss j) ≡ carry (kept j) (cond b (carry o (zss j)) (zss j))
      same j true t =
          let P : Key → Type 0 = λ l. carry (kept' l) (zss l) ≡ carry (kept l) (carry o (zss l)) in
          subst P (sym (same_key j k t)) (ap (λ (q : List (Entry A)). carry q (zss k)) e ∙ carry-append (kept k) o (zss k))
      same j false t = ap (λ (q : List (Entry A)). carry q (zss j)) (others' j t)

  free-takes : (k : Key) (y : A) (w : List (Entry A)) (epoch : Key → ℕ) (kept kept' : Key → List (Entry A)) (kid : Key → Live A S) (xss yss : Segments A)
      → epoch k ≡ 0 → kept k ≡ It y ∷ kept' k → ((j : Key) → key_eq j k ≡ false → kept' j ≡ kept j)
      → Res w epoch kept' kid xss yss → Res w epoch kept kid xss (push y yss)
  free-takes k y w epoch kept kept' kid xss yss here e others (zss, h, s) = (
    zss,
    h,
    shuffles-push k y yss (padded epoch kept zss) (padded epoch kept' zss)
        (ap₂ (λ (n : ℕ) (q : List (Entry A)). pad n (carry q (zss k))) here e
        ∙ ap (λ (n : ℕ). push y (pad n (carry (kept' k) (zss k)))) (sym here))
        (λ j t. ap (λ (q : List (Entry A)). pad (epoch j) (carry q (zss j))) (sym (others j t)))
        s,
  )

  -- a kid's first entry goes, and its epoch moves on where that is a mark
  free-goes : (k : Key) (e : Entry A) (w : List (Entry A)) (epoch epoch' : Key → ℕ) (kept kept' : Key → List (Entry A)) (kid : Key → Live A S) (xss yss : Segments A)
      → kept k ≡ e ∷ kept' k → ((j : Key) → key_eq j k ≡ false → kept' j ≡ kept j)
      → ((z : Segments A) → pad (epoch' k) z ≡ pad (epoch k) (carry (e ∷ []) z)) → ((j : Key) → key_eq j k ≡ false → epoch' j ≡ epoch j)
      → Res w epoch' kept' kid xss yss → Res w epoch kept kid xss yss
  free-goes k e w epoch epoch' kept kept' kid xss yss eq others pads others' (zss, h, s) =
      (zss, h, same_streams yss (padded epoch' kept' zss) (padded epoch kept zss) (λ j. at j (key_eq j k) refl) s)
    where
      at : (j : Key) (b : Bool) → key_eq j k ≡ b → padded epoch' kept' zss j ≡ padded epoch kept zss j
      at j true t =
          let P : Key → Type 0 = λ l. padded epoch' kept' zss l ≡ padded epoch kept zss l in
          subst P (sym (same_key j k t))
          (pads (carry (kept' k) (zss k)) ∙ ap (pad (epoch k)) (sym (carry-append (e ∷ []) (kept' k) (zss k)) ∙ ap (λ (q : List (Entry A)). carry q (zss k)) (sym eq)))
      at j false t = ap₂ (λ (n : ℕ) (q : List (Entry A)). pad n (carry q (zss j))) (others' j t) (others j t)

  free-closing : (w : List (Entry A)) (epoch epoch' : Key → ℕ) (kept : Key → List (Entry A)) (kid : Key → Live A S) (xss yss : Segments A)
      → ((k : Key) → epoch k ≡ suc (epoch' k)) → Res w epoch' kept kid xss yss → Res w epoch kept kid xss ([] ∷ yss)
  free-closing w epoch epoch' kept kid xss yss e (zss, h, s) =
      (zss, h, ((λ k. []), padded epoch' kept zss, (λ k. ap (λ (n : ℕ). pad n (carry (kept k) (zss k))) (e k)), (λ k. refl), s))

  free-keeps : (f : Live A S) (o : List (Entry A)) (f' : Live A S) (xss yss : Segments A) → FreeMove r c f f' o → IsOpen xss → (free_part r c).res f' xss yss → (free_part r c).res f xss (carry o yss)
  free-keeps f o f' xss yss (Routed x there hw hp hk hn hs) i h =
      same-state (It x ∷ (f' []).waiting) ((f []).waiting) (stands (f [])) (stands (f [])) ((f []).kept) ((f []).kept) (kids f) (kids f) xss yss (sym hw) refl refl refl
      (free-routes (It x) ((f' []).waiting) (stands (f [])) ((f []).kept) (kids f) xss yss
      (same-state ((f' []).waiting) ((f' []).waiting) (stands (f' [])) (stands (f [])) ((f' []).kept) ((f []).kept) (kids f') (λ k. pushed (c k) (share_for r k (It x)) (kids f k)) xss yss
      refl (fun_ext hn) hk (fun_ext hs) h))
  free-keeps f o f' xss yss (Epoch hw hm ha hk m) i h =
      same-state (Mark ∷ (f' []).waiting) ((f []).waiting) (stands (f [])) (stands (f [])) ((f []).kept) ((f []).kept) (kids f) (kids f) xss yss (sym hw) refl refl refl
      (free-epoch ((f' []).waiting) (stands (f [])) (stands (f' [])) ((f []).kept) (kids f) (kids f') xss yss m
      (same-state ((f' []).waiting) ((f' []).waiting) (stands (f' [])) (stands (f' [])) ((f' []).kept) ((f []).kept) (kids f') (kids f') xss yss refl refl hk refl h))
  free-keeps f o f' xss yss (Within k q m others hp hw hn hk ho) i h =
      free-within k q ((f []).waiting) (stands (f [])) ((f []).kept) ((f' []).kept) (kids f) (kids f') xss yss i m others hk ho
      (same-state ((f' []).waiting) ((f []).waiting) (stands (f' [])) (stands (f [])) ((f' []).kept) ((f' []).kept) (kids f') (kids f') xss yss hw (fun_ext hn) refl refl h)
  free-keeps f o f' xss yss (Takes k y here hk ho hp hw hn hs) i h =
      free-takes k y ((f []).waiting) (stands (f [])) ((f []).kept) ((f' []).kept) (kids f) xss yss here hk ho
      (same-state ((f' []).waiting) ((f []).waiting) (stands (f' [])) (stands (f [])) ((f' []).kept) ((f' []).kept) (kids f') (kids f) xss yss hw (fun_ext hn) refl (fun_ext hs) h)
  free-keeps f o f' xss yss (Passes k here hk ho hp hw hn hno hs) i h =
      free-goes k Mark ((f []).waiting) (stands (f [])) (stands (f' [])) ((f []).kept) ((f' []).kept) (kids f) xss yss hk ho
      (λ z. ap (λ (n : ℕ). pad n z) hn ∙ sym (pad-suc (stands (f []) k) z)) hno
      (same-state ((f' []).waiting) ((f []).waiting) (stands (f' [])) (stands (f' [])) ((f' []).kept) ((f' []).kept) (kids f') (kids f) xss yss hw refl refl (fun_ext hs) h)
  free-keeps f o f' xss yss (Closing e hm ha hk hw hs) i h =
      free-closing ((f []).waiting) (stands (f [])) (stands (f' [])) ((f []).kept) (kids f) xss yss e
      (same-state ((f' []).waiting) ((f []).waiting) (stands (f' [])) (stands (f' [])) ((f' []).kept) ((f []).kept) (kids f') (kids f) xss yss hw refl hk (fun_ext hs) h)
  free-keeps f o f' xss yss (Makes k e w hc n n' others hm ha hk hw hn) i h =
      makes (same-state ((f' []).waiting) ((f []).waiting) (stands (f' [])) (stands (f [])) ((f' []).kept) ((f []).kept) (kids f') (kids f') xss yss hw (fun_ext hn) hk refl h)
    where
      makes : Res ((f []).waiting) (stands (f [])) ((f []).kept) (kids f') xss yss → Res ((f []).waiting) (stands (f [])) ((f []).kept) (kids f) xss yss
      makes (zss, g, s) = (
        zss,
        by_key (λ j. (c j).res (kids f j) (by_segment r j (carry ((f []).waiting) xss)) (zss j)) k
            ((p k).renews (kids f k) (kids f' k) (by_segment r k (carry ((f []).waiting) xss)) (zss k) n n' (g k))
            (λ j t. let P : Live A S → Type 0 = λ l. (c j).res l (by_segment r j (carry ((f []).waiting) xss)) (zss j) in subst P (others j t) (g j)),
        s,
      )

  pub free-Core : Core (free_part r c)
  free-Core = record {
    puts = λ o f xss yss (zss, h, s). (
      zss,
      (λ k. let P : Segments A → Type 0 = λ q. (c k).res (kids f k) (by_segment r k q) (zss k) in subst P (carry-append ((f []).waiting) o xss) (h k)),
      s,
    );
    opens = λ f xss yss (zss, h, s) i.
        shuffles-open yss (padded (stands (f [])) ((f []).kept) zss) Own s
        (pad-open (stands (f []) Own) (carry ((f []).kept Own) (zss Own))
        (carry-open ((f []).kept Own) (zss Own)
        ((p Own).opens (kids f Own) (by_segment r Own (carry ((f []).waiting) xss)) (zss Own) (h Own)
        (by_segment-open r Own (carry ((f []).waiting) xss) (carry-open ((f []).waiting) xss i)))));
    keeps = free-keeps;
    leads = λ f xss yss n h. fresh-state f ([] ∷ xss) ([] ∷ yss) n (leads f xss yss n (state-fresh f xss yss n h));
    renews = λ f f' xss yss n n' h. fresh-state f xss yss n (renewed f f' xss yss n n' (state-fresh f' xss yss n' h));
  }
    where
      none : Key → List (Entry A)
      none k = []

      level : Key → ℕ
      level k = 0

      fresh-state : (f : Live A S) (xss yss : Segments A) → FreshFork c f → Res [] level none (kids f) xss yss → (free_part r c).res f xss yss
      fresh-state f xss yss n h =
          same-state [] ((f []).waiting) level (stands (f [])) none ((f []).kept) (kids f) (kids f) xss yss (sym n.waits) (sym (fun_ext (fresh-stands c f n))) (sym (fun_ext n.keeps)) refl h

      state-fresh : (f : Live A S) (xss yss : Segments A) → FreshFork c f → (free_part r c).res f xss yss → Res [] level none (kids f) xss yss
      state-fresh f xss yss n h =
          same-state ((f []).waiting) [] (stands (f [])) level ((f []).kept) none (kids f) (kids f) xss yss n.waits (fun_ext (fresh-stands c f n)) (fun_ext n.keeps) refl h

      leads : (f : Live A S) (xss yss : Segments A) → FreshFork c f → Res [] level none (kids f) xss yss → Res [] level none (kids f) ([] ∷ xss) ([] ∷ yss)
      leads f xss yss n (zss, h, s) = (
        (λ k. [] ∷ zss k),
        (λ k. (p k).leads (kids f k) (by_segment r k xss) (zss k) (n.kids_fresh k) (h k)),
        ((λ k. []), zss, (λ k. refl), (λ k. refl), s),
      )

      renewed : (f f' : Live A S) (xss yss : Segments A) → FreshFork c f → FreshFork c f' → Res [] level none (kids f') xss yss → Res [] level none (kids f) xss yss
      renewed f f' xss yss n n' (zss, h, s) =
          (zss, (λ k. (p k).renews (kids f k) (kids f' k) (by_segment r k xss) (zss k) (n.kids_fresh k) (n'.kids_fresh k) (h k)), s)

  pub fork-Core : (m : Merge) → Core (fork_part m r c)
  fork-Core Free = free-Core
  fork-Core Deterministic = turn-Core r c p

several-keeps : {A S : Type 0} (p : Part A S) (c : Core p) (f : Live A S) (o : List (Entry A)) (f' : Live A S) (xss yss : Segments A)
    → Several p.moves f o f' → IsOpen xss → p.res f' xss yss → p.res f xss (carry o yss)
several-keeps p c f _ _ xss yss (One q g m) i h = c.keeps f q g xss yss m i h
several-keeps {A} p c f _ _ xss yss (Then q q' mid f' ms m) i h =
    let P : Segments A → Type 0 = λ z. p.res f xss z in
    subst P (sym (carry-append q q' yss)) (several-keeps p c f q mid xss (carry q' yss) ms i (c.keeps mid q' f' xss yss m i h))

pub several-Core : {A S : Type 0} (p : Part A S) → Core p → Core (several p)
several-Core p c = record { puts = c.puts; opens = c.opens; keeps = several-keeps p c; leads = c.leads; renews = c.renews }

pub part-Core : {A S : Type 0} (t : Tree A S) → Core (part t)
part-Core (Component m s) = component-Core m s
part-Core (Series a b) = series-Core (part a) (part b) (part-Core a) (part-Core b)
part-Core (Fork merge r child) = several-Core (fork_part merge r (λ k. part (child k))) (fork-Core r (λ k. part (child k)) (λ k. part-Core (child k)) merge)
