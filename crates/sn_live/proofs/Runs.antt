-- Whole runs: what can come after moves could come before, goes on from what was emitted, and is never nothing.
use Rattle.std.proofs.Common.{◌≡◌, ◌+◌, List, [], ◌∷◌, ◌++◌, length, refl, sym, ap, ◌∙◌, subst, arith}
use Rattle.sn_streams.specs.Segments.{Segments}
use Rattle.sn_streams.specs.Trees.{Tree, Allows}
use Rattle.sn_live.specs.Entries.{Entry, It, push, carry, items, IsOpen, count}
use Rattle.sn_live.specs.Live.{Live}
use Rattle.sn_live.specs.Parts.{Part, part, pushed}
use Rattle.sn_live.specs.Runs.{Running, Starts, CanOf, Can, Move, Take, Moves, Emit, Comes, Stays, Then, IsPrefixOf, RunSane}
use Rattle.sn_live.proofs.Streams.{carry-append, carry-open, items-append, count-append, count-items, length-carry}
use Rattle.sn_live.proofs.Turns.{Core}
use Rattle.sn_live.proofs.Start.{part-Same}
use Rattle.sn_live.proofs.Lives.{Lives}

module _ {A S : Type 0} (p : Part A S) (c : Core p) where
  abbrev Parts : List A → Live A S → List (Entry A) → List A → List A → Type 0
  Parts todo live ready out ys = (zss : Segments A) × p.res live (todo ∷ []) zss × (ys ∷ [] ≡ carry (items out) (carry ready zss))

  same : (t t' : List A) (l l' : Live A S) (r r' : List (Entry A)) (o o' : List A) (ys : List A)
      → t ≡ t' → l ≡ l' → r ≡ r' → o ≡ o' → Parts t l r o ys → Parts t' l' r' o' ys
  same t t' l l' r r' o o' ys a b d e h =
      let P : List A → Type 0 = λ q. Parts q l' r' o' ys in subst P a
      (let Q : Live A S → Type 0 = λ q. Parts t q r' o' ys in subst Q b
      (let R : List (Entry A) → Type 0 = λ q. Parts t l q o' ys in subst R d
      (let T : List A → Type 0 = λ q. Parts t l r q ys in subst T e h)))

  pub one_move : (g g' : Running A S) (ys : List A) → Move p g g' → CanOf p g' ys → CanOf p g ys
  one_move g g' ys (Take x ht hl hr ho) h =
      same (x ∷ g'.todo) g.todo g.live g.live g.ready g.ready g.out g.out ys (sym ht) refl refl refl
      (take (same g'.todo g'.todo g'.live (pushed p (It x ∷ []) g.live) g'.ready g.ready g'.out g.out ys refl hl hr ho h))
    where
      take : Parts g'.todo (pushed p (It x ∷ []) g.live) g.ready g.out ys → Parts (x ∷ g'.todo) g.live g.ready g.out ys
      take (zss, k, e) = (zss, c.puts (It x ∷ []) g.live (g'.todo ∷ []) zss k, e)
  one_move g g' ys (Moves o ht m hr ho) h =
      move (same g'.todo g.todo g'.live g'.live g'.ready (g.ready ++ o) g'.out g.out ys ht refl hr ho h)
    where
      move : Parts g.todo g'.live (g.ready ++ o) g.out ys → Parts g.todo g.live g.ready g.out ys
      move (zss, k, e) =
          (carry o zss, c.keeps g.live o g'.live (g.todo ∷ []) zss m tt k, e ∙ ap (carry (items g.out)) (carry-append g.ready o zss))
  one_move g g' ys (Emit y ht hl hr ho) h =
      same g.todo g.todo g.live g.live (It y ∷ g'.ready) g.ready g.out g.out ys refl refl (sym hr) refl
      (emit (same g'.todo g.todo g'.live g.live g'.ready g'.ready g'.out (g.out ++ y ∷ []) ys ht hl refl ho h))
    where
      emit : Parts g.todo g.live g'.ready (g.out ++ y ∷ []) ys → Parts g.todo g.live (It y ∷ g'.ready) g.out ys
      emit (zss, k, e) = (
        zss,
        k,
        e ∙ ap (λ (q : List (Entry A)). carry q (carry g'.ready zss)) (items-append g.out (y ∷ []))
            ∙ carry-append (items g.out) (It y ∷ []) (carry g'.ready zss),
      )

  pub all_moves : (g g' : Running A S) (ys : List A) → Comes p g g' → CanOf p g' ys → CanOf p g ys
  all_moves g g' ys Stays h = h
  all_moves g g' ys (Then mid next k m) h = all_moves g mid ys k (one_move mid next ys m h)

  pub out_is_prefix : (g : Running A S) (ys : List A) → CanOf p g ys → IsPrefixOf g.out ys
  out_is_prefix g ys (zss, k, e) =
      at (carry g.ready zss) (carry-open g.ready zss (c.opens g.live (g.todo ∷ []) zss k tt)) g.out ys e
    where
      carried : (out : List A) (zs : List A) (z : Segments A) → carry (items out) (zs ∷ z) ≡ (out ++ zs) ∷ z
      carried [] zs z = refl
      carried (x ∷ out) zs z = ap (push x) (carried out zs z)

      at : (z : Segments A) → IsOpen z → (out : List A) (ys : List A) → ys ∷ [] ≡ carry (items out) z → IsPrefixOf out ys
      at [] o out ys u = absurd o
      at (zs ∷ z) o out ys u =
          let v : ys ∷ [] ≡ (out ++ zs) ∷ z = u ∙ carried out zs z in
          (zs, cc)

pub starts : {A S : Type 0} (t : Tree A S) (xs ys : List A) (g : Running A S) → Starts (part t) xs g → Can t g ys → Allows t (xs ∷ []) (ys ∷ [])
starts {A} {S} t xs ys g s (zss, k, e) =
    let P : Segments A → Type 0 = λ q. Allows t (xs ∷ []) q in
    let Q : List A → Type 0 = λ q. Allows t (q ∷ []) zss in
    let d : ys ∷ [] ≡ zss = (let F : List A → List (Entry A) → Segments A = λ o r. carry (items o) (carry r zss) in e ∙ ap (λ o. F o g.ready) s.none_out ∙ ap (F []) s.none_ready) in
    subst P (sym d) (subst Q s.all_todo ((part-Same t).into g.live (g.todo ∷ []) zss s.is_fresh k))

pub begins : {A S : Type 0} (t : Tree A S) (xs ys : List A) (g : Running A S) → Starts (part t) xs g → Allows t (xs ∷ []) (ys ∷ []) → Can t g ys
begins {A} {S} t xs ys g s h =
    let Q : List A → Type 0 = λ q. Allows t (q ∷ []) (ys ∷ []) in
    let F : List A → List (Entry A) → Segments A = λ o r. carry (items o) (carry r (ys ∷ [])) in (
      ys ∷ [],
      (part-Same t).back g.live (g.todo ∷ []) (ys ∷ []) s.is_fresh (subst Q (sym s.all_todo) h),
      sym (ap (λ o. F o g.ready) s.none_out ∙ ap (F []) s.none_ready),
    )

only : {A : Type 0} (z : Segments A) → length z ≡ 1 → (ys : List A) × (ys ∷ [] ≡ z)
only [] h = cc
only (ys ∷ []) h = (ys, refl)
only (ys ∷ zs ∷ z) h = absurd (omega (arith, h))

module _ {A S : Type 0} (p : Part A S) (x : Lives p) where
  pub step : (g g' : Running A S) → Move p g g' → RunSane p g → RunSane p g'
  step g g' (Take y ht hl hr ho) s = record {
    live_sane = subst p.sane (sym hl) (x.put_sane (It y ∷ []) g.live s.live_sane);
    unmarked =
        let a : p.marks g'.live ≡ p.marks g.live + 0 = ap p.marks hl ∙ x.put_marks (It y ∷ []) g.live in
        let b : count g'.ready ≡ count g.ready = ap count hr in
        let d : p.marks g.live + count g.ready ≡ 0 = s.unmarked in omega arith;
  }
  step g g' (Moves o ht m hr ho) s = record {
    live_sane = x.move_sane g.live o g'.live m s.live_sane;
    unmarked =
        let a : p.marks g.live ≡ count o + p.marks g'.live = x.move_marks g.live o g'.live m s.live_sane in
        let b : count g'.ready ≡ count g.ready + count o = ap count hr ∙ count-append g.ready o in
        let d : p.marks g.live + count g.ready ≡ 0 = s.unmarked in omega arith;
  }
  step g g' (Emit y ht hl hr ho) s = record {
    live_sane = subst p.sane (sym hl) s.live_sane;
    unmarked =
        let a : p.marks g'.live ≡ p.marks g.live = ap p.marks hl in
        let b : count g.ready ≡ count g'.ready = ap count hr in
        let d : p.marks g.live + count g.ready ≡ 0 = s.unmarked in omega arith;
  }

  pub reached : (xs : List A) (start g : Running A S) → Starts p xs start → Comes p start g → RunSane p g
  reached xs start g s Stays = record {
    live_sane = x.new_sane start.live s.is_fresh;
    unmarked = let a : p.marks start.live ≡ 0 = x.new_marks start.live s.is_fresh in let b : count start.ready ≡ 0 = ap count s.none_ready in omega arith;
  }
  reached xs start g s (Then mid next c m) = step mid next m (reached xs start mid s c)

  pub some_stream : (g : Running A S) → RunSane p g → (ys : List A) × CanOf p g ys
  some_stream g s =
      let u : (zss : Segments A) × p.res g.live (g.todo ∷ []) zss = x.some g.live (g.todo ∷ []) s.live_sane tt in
      let a : length (carry (items g.out) (carry g.ready u.0)) ≡ count (items g.out) + length (carry g.ready u.0) = length-carry (items g.out) (carry g.ready u.0) in
      let b : length (carry g.ready u.0) ≡ count g.ready + length u.0 = length-carry g.ready u.0 in
      let d : length u.0 ≡ p.marks g.live + 1 = x.len g.live (g.todo ∷ []) u.0 s.live_sane u.1 in
      let e : count (items g.out) ≡ 0 = count-items g.out in
      let h : p.marks g.live + count g.ready ≡ 0 = s.unmarked in
      let v : (ys : List A) × (ys ∷ [] ≡ carry (items g.out) (carry g.ready u.0)) = only (carry (items g.out) (carry g.ready u.0)) (omega (arith, a, b, d, e, h)) in
      (v.0, (u.0, u.1, v.1))
