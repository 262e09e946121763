-- Where nothing waits that could move, nothing more is given on nothing.
use Rattle.std.proofs.Common.{◌≡◌, ℕ, zero, suc, ◌+◌, Bool, cond, List, [], ◌∷◌, length, refl, sym, ap, ap₂, ◌∙◌, subst, arith}
use Rattle.sn_streams.specs.Forks.{Router, by_segment, Merge, Free, Deterministic}
use Rattle.sn_streams.specs.Keys.{Key}
use Rattle.sn_streams.specs.Machines.{Machine, transduced}
use Rattle.sn_streams.specs.Segments.{Segments}
use Rattle.sn_streams.specs.Trees.{Tree, Component, Series, Fork, Allows}
use Rattle.sn_streams.proofs.Keys.{key_eq-refl}
use Rattle.sn_live.specs.Entries.{Entry, It, Mark, push, carry, items, pad, count, Silent}
use Rattle.sn_live.specs.Live.{Left, Right, At, Live, sub, stands}
use Rattle.sn_live.specs.Parts.{Part, component_part, series_part, keys, by_keys, kept_before, padded, turn_part, free_part, fork_part, part, decided, TurnSane, TurnQuiet, FreeSane, FreeQuiet}
use Rattle.sn_live.specs.Runs.{Running, Starts, CanOf, Can, Comes, IsPrefixOf, AtRest, RunSane}
use Rattle.sn_live.proofs.Streams.{transduced-silent, by_keys-silent, by_segment-silent}
use Rattle.sn_live.proofs.Weaves.{shuffles-silent}
use Rattle.sn_live.proofs.Lives.{Lives}
use Rattle.sn_live.proofs.Free.{part-Core}
use Rattle.sn_live.proofs.FreeLives.{part-Lives}
use Rattle.sn_live.proofs.Runs.{reached, some_stream, all_moves, out_is_prefix, starts}

pub record Rests {A S : Type 0} (p : Part A S) : Type 0 where
  pub no_marks : (f : Live A S) → p.sane f → p.quiet f → p.marks f ≡ 0
  pub no_items : (f : Live A S) (xss yss : Segments A) → p.sane f → p.quiet f → p.res f xss yss → Silent xss → Silent yss

pub component-Rests : {A S : Type 0} (m : Machine A S) (z : S) → Rests (component_part m z)
component-Rests {A} m z = record {
  no_marks = λ f s q. ap count q;
  no_items = λ f xss yss s q h em.
      subst Silent (sym (h ∙ ap (λ (w : List (Entry A)). transduced m (f []).state (carry w xss)) q)) (transduced-silent m (f []).state xss em);
}

pub series-Rests : {A S : Type 0} (a b : Part A S) → Rests a → Rests b → Rests (series_part a b)
series-Rests a b x y = record {
  no_marks = λ f (s, t) (q, u).
      let m : a.marks (sub f Left) ≡ 0 = x.no_marks (sub f Left) s q in
      let n : b.marks (sub f Right) ≡ 0 = y.no_marks (sub f Right) t u in omega arith;
  no_items = λ f xss yss (s, t) (q, u) h em.
      y.no_items (sub f Right) h.between yss t u h.from_second (x.no_items (sub f Left) xss h.between s q h.from_first em);
}

module _ {A S : Type 0} (r : Router A) (c : Key → Part A S) (x : (k : Key) → Rests (c k)) where
  module _ (f : Live A S) (s : TurnSane c f) (q : TurnQuiet c f) where
    -- a decision that is first could be served
    served_first : (k : Key) (ds : List (Entry Key)) → (f []).decisions ≡ It k ∷ ds → ⊥
    served_first k ds e =
        let a : decided k ((f []).decisions) ≡ count ((f []).kept k) + (c k).marks (sub f (At k)) = s.groups k in
        let b : (c k).marks (sub f (At k)) ≡ 0 = (x k).no_marks (sub f (At k)) (s.kids_sane k) (q.kids_quiet k) in
        let d : decided k ((f []).decisions) ≡ suc (decided k ds) =
        ap (decided k) e ∙ (let F : Bool → ℕ = λ v. cond v (suc (decided k ds)) (decided k ds) in ap F (key_eq-refl k)) in
        let z : count ((f []).kept k) ≡ 0 = ap count (q.first_waits k ds e) in
        omega (arith, a, b, d, z)

    none_decided : (f []).decisions ≡ []
    none_decided = at ((f []).decisions) refl
      where
        at : (ds : List (Entry Key)) → (f []).decisions ≡ ds → (f []).decisions ≡ []
        at [] e = e
        at (It k ∷ ds) e = absurd (served_first k ds e)
        at (Mark ∷ ds) e = absurd (q.no_mark ds e)

  turn-Rests : Rests (turn_part r c)
  turn-Rests = record {
    no_marks = λ f s q.
        let a : count ((f []).waiting) ≡ 0 = ap count q.none_waits in
        let b : count ((f []).decisions) ≡ 0 = ap count (none_decided f s q) in omega arith;
    no_items = λ f xss yss s q (zss, h, e) em.
        subst Silent
        (sym (e ∙ ap₂ (λ (w : List (Entry A)) (ds : List (Entry Key)). by_keys (kept_before ((f []).kept) zss) (carry ds (keys r (carry w xss)))) q.none_waits (none_decided f s q)))
        (by_keys-silent r (kept_before ((f []).kept) zss) xss em);
  }

  module _ (f : Live A S) (s : FreeSane c f) (q : FreeQuiet c f) where
    no_lead : (f []).ahead ≡ 0
    no_lead = at ((f []).ahead) refl
      where
        later : (a : ℕ) → (f []).ahead ≡ suc a → (k : Key) (n : ℕ) → stands (f []) k ≡ n → (m : ℕ) × (stands (f []) k ≡ suc m)
        later a e k zero z =
            let i : count ((f []).kept k) ≡ 0 = ap count (q.none_there k z) in
            let j : stands (f []) k + (count ((f []).kept k) + (c k).marks (sub f (At k))) ≡ (f []).ahead = s.aligned k in
            let l : (c k).marks (sub f (At k)) ≡ 0 = (x k).no_marks (sub f (At k)) (s.kids_sane k) (q.kids_quiet k) in
            absurd (omega (arith, i, j, l, z, e))
        later a e k (suc m) z = (m, z)

        at : (a : ℕ) → (f []).ahead ≡ a → (f []).ahead ≡ 0
        at zero e = e
        at (suc a) e = absurd (q.not_past (λ k. later a e k (stands (f []) k) refl))

    all_level : (k : Key) → stands (f []) k ≡ 0
    all_level k =
        let j : stands (f []) k + (count ((f []).kept k) + (c k).marks (sub f (At k))) ≡ (f []).ahead = s.aligned k in
        let l : (f []).ahead ≡ 0 = no_lead in omega (arith, j, l)

  free-Rests : Rests (free_part r c)
  free-Rests = record {
    no_marks = λ f s q.
        let a : count ((f []).waiting) ≡ 0 = ap count q.none_waits in
        let b : (f []).ahead ≡ 0 = no_lead f s q in omega arith;
    no_items = λ f xss yss s q (zss, h, sh) em.
        shuffles-silent yss (padded (stands (f [])) ((f []).kept) zss)
        (λ k.
        let E : Silent (zss k) = (x k).no_items (sub f (At k)) (by_segment r k (carry ((f []).waiting) xss)) (zss k) (s.kids_sane k) (q.kids_quiet k) (h k)
        (by_segment-silent r k (carry ((f []).waiting) xss) (let P : List (Entry A) → Type 0 = λ w. Silent (carry w xss) in subst P (sym q.none_waits) em)) in
        subst Silent
        (sym (ap₂ (λ (n : ℕ) (w : List (Entry A)). pad n (carry w (zss k))) (all_level f s q k) (q.none_there k (all_level f s q k)))) E)
        sh;
  }

  fork-Rests : (m : Merge) → Rests (fork_part m r c)
  fork-Rests Free = free-Rests
  fork-Rests Deterministic = turn-Rests

pub part-Rests : {A S : Type 0} (t : Tree A S) → Rests (part t)
part-Rests (Component m s) = component-Rests m s
part-Rests (Series a b) = series-Rests (part a) (part b) (part-Rests a) (part-Rests b)
part-Rests (Fork merge r child) =
    let s : Rests (fork_part merge r (λ k. part (child k))) = fork-Rests r (λ k. part (child k)) (λ k. part-Rests (child k)) merge in
    record { no_marks = s.no_marks; no_items = s.no_items }

module _ {A S : Type 0} (p : Part A S) (x : Lives p) (y : Rests p) (g : Running A S) (s : RunSane p g) (rest : AtRest p g) where
  carried : (out : List A) (z : Segments A) → Silent z → length z ≡ 1 → carry (items out) z ≡ out ∷ []
  carried [] [] em l = cc
  carried [] (zs ∷ []) (e, u) l = ap (λ (q : List A). q ∷ []) e
  carried [] (zs ∷ ws ∷ z) em l = absurd (omega (arith, l))
  carried (o ∷ out) z em l = ap (push o) (carried out z em l)

  pub whole : (ys : List A) → CanOf p g ys → ys ≡ g.out
  whole ys (zss, k, e) =
      let em : Silent zss = y.no_items g.live (g.todo ∷ []) zss s.live_sane rest.is_quiet k (rest.none_todo, tt) in
      let l : length zss ≡ p.marks g.live + 1 = x.len g.live (g.todo ∷ []) zss s.live_sane k in
      let m : p.marks g.live ≡ 0 = y.no_marks g.live s.live_sane rest.is_quiet in
      let v : carry (items g.out) zss ≡ g.out ∷ [] = carried g.out zss em (omega (arith, l, m)) in
      let w : ys ∷ [] ≡ g.out ∷ [] = e ∙ ap (λ (q : List (Entry A)). carry (items g.out) (carry q zss)) rest.none_ready ∙ v in
      cc

-- what was emitted is the beginning of a stream that is allowed, and at rest the whole of one
pub begun : {A S : Type 0} (t : Tree A S) (xs : List A) (start g : Running A S) → Starts (part t) xs start → Comes (part t) start g
    → (ys : List A) × Allows t (xs ∷ []) (ys ∷ []) × IsPrefixOf g.out ys
begun {A} t xs start g s k =
    let u : (ys : List A) × Can t g ys = some_stream (part t) (part-Lives t) g (reached (part t) (part-Lives t) xs start g s k) in
    (u.0, starts t xs u.0 start s (all_moves (part t) (part-Core t) start g u.0 k u.1), out_is_prefix (part t) (part-Core t) g u.0 u.1)

pub whole_allowed : {A S : Type 0} (t : Tree A S) (xs : List A) (start g : Running A S) → Starts (part t) xs start → Comes (part t) start g → AtRest (part t) g
    → Allows t (xs ∷ []) (g.out ∷ [])
whole_allowed {A} t xs start g s k rest =
    let z : RunSane (part t) g = reached (part t) (part-Lives t) xs start g s k in
    let u : (ys : List A) × Can t g ys = some_stream (part t) (part-Lives t) g z in
    let P : List A → Type 0 = λ q. Allows t (xs ∷ []) (q ∷ []) in
    subst P (whole (part t) (part-Lives t) (part-Rests t) g z rest u.0 u.1) (starts t xs u.0 start s (all_moves (part t) (part-Core t) start g u.0 k u.1))
