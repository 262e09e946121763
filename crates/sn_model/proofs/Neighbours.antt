-- What a free fork sends to its children, where two neighbours with different keys change places.
use Rattle.std.proofs.Common.{◌≡◌, Bool, true, false, List, [], ◌∷◌, ◌++◌, map, refl, sym, ap, ◌∙◌, subst, cond}
use Rattle.std.specs.List.{filter}
use Rattle.std.proofs.lemmas.Bool.{false≢true}
use Rattle.sn_streams.specs.Forks.{Router, by_segment, items_of}
use Rattle.sn_streams.specs.Keys.{Key, key_eq}
use Rattle.sn_streams.specs.Segments.{Segments}
use Rattle.sn_streams.specs.Trees.{Tree, Allows, Fork}
use Rattle.sn_streams.specs.Forks.{Free}
use Rattle.sn_streams.proofs.Keys.{same_key}

module _ {A : Type 0} (test : A → Bool) (x y : A) (one : test x ≡ true → test y ≡ true → ⊥) where
  turned_where : (b c : Bool) → test x ≡ b → test y ≡ c → (behind : List A) → filter test (x ∷ y ∷ behind) ≡ filter test (y ∷ x ∷ behind)
  turned_where true true p q behind = absurd (one p q)
  turned_where true false p q behind = rw (p, q) refl
  turned_where false true p q behind = rw (p, q) refl
  turned_where false false p q behind = rw (p, q) refl

  pair_turned : (behind : List A) → filter test (x ∷ y ∷ behind) ≡ filter test (y ∷ x ∷ behind)
  pair_turned behind = turned_where (test x) (test y) refl refl behind

  pub filter-turned : (before behind : List A) → filter test (before ++ x ∷ y ∷ behind) ≡ filter test (before ++ y ∷ x ∷ behind)
  filter-turned [] behind = pair_turned behind
  filter-turned (z ∷ before) behind = ap (λ zs. cond (test z) (z ∷ zs) zs) (filter-turned before behind)

module _ {A : Type 0} (r : Router A) (x y : A) (apart : key_eq (r.key x) (r.key y) ≡ false) where
  not_both : (k : Key) → key_eq k (r.key x) ≡ true → key_eq k (r.key y) ≡ true → ⊥
  not_both k p q = false≢true (sym apart ∙ subst (λ j. key_eq j (r.key y) ≡ true) (same_key k (r.key x) p) q)

  pub by_segment-turned : (before behind : List A) (others : Segments A) (k : Key)
      → by_segment r k ((before ++ x ∷ y ∷ behind) ∷ others) ≡ by_segment r k ((before ++ y ∷ x ∷ behind) ∷ others)
  by_segment-turned before behind others k =
      ap (λ zs. zs ∷ map (items_of r k) others) (filter-turned (λ z. key_eq k (r.key z)) x y (not_both k) before behind)

  pub turned : {S : Type 0} (child : Key → Tree A S) (before behind : List A) (others yss : Segments A)
      → Allows (Fork Free r child) ((before ++ x ∷ y ∷ behind) ∷ others) yss → Allows (Fork Free r child) ((before ++ y ∷ x ∷ behind) ∷ others) yss
  turned child before behind others yss h = record {
    answers = h.answers;
    answered = λ k.
        let P : Segments A → Type 0 = λ zss. Allows (child k) zss (h.answers k) in
        subst P (by_segment-turned before behind others k) (h.answered k);
    shuffled = h.shuffled;
  }
