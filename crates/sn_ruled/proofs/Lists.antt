-- Lists of what passes know: a fact of each, and what they add up to, when one of them changes or one comes.
use Rattle.std.proofs.Common.{◌≡◌, ◌≢◌, ℕ, zero, suc, ◌+◌, List, [], ◌∷◌, ◌++◌, length, set, sym, refl, ap, subst, ⊎_elim}
use Rattle.std.specs.Prelude.{sum_by}
use Rattle.std.proofs.lemmas.List.Sums.{sum_by-cons}
use mathlib.Core.Option.{some, some-injective, some-ne-none}
use lib.ListN.{get_elem?}
use native.Mathlib.Omega.{arith}
use Rattle.crossbeam_queue.proofs.Lists.{at_set, at_snoc}
use Rattle.sn_ruled.specs.Rule.{Every}

module _ {V : Type 0} where
  -- the fact holds of each, at its place
  abbrev pub Each : (ℕ → V → Type 0) → List V → Type 0
  Each F views = (pass : ℕ) (v : V) → get_elem? views pass ≡ some v → F pass v

  pub each_set : (F : ℕ → V → Type 0) (views : List V) (pass : ℕ) (w : V) → F pass w → ((j : ℕ) (u : V) → j ≢ pass → get_elem? views j ≡ some u → F j u)
      → Each F (set views pass w)
  each_set F views pass w mine others j u e = ⊎_elim (λ (x : (j ≡ pass) × (w ≡ u)). subst (λ (y : ℕ × V). F y.0 y.1) (λ i. (sym x.0 i, x.1 i)) mine)
      (λ (x : (j ≢ pass) × (get_elem? views j ≡ some u)). others j u x.0 x.1) (at_set views pass j w u e)

  pub each_more : (F : ℕ → V → Type 0) (views : List V) (w : V) → ((j : ℕ) → F j w) → Each F views → Each F (views ++ w ∷ [])
  each_more F views w mine old j u e = ⊎_elim (λ x. old j u x) (λ (is : w ≡ u). subst (λ (y : V). F j y) is (mine j)) (at_snoc views w u j e)

  -- where a view was not among those before, it is the new one, which is last
  pub at_end : (views : List V) (w u : V) (j : ℕ) → get_elem? views j ≢ some u → get_elem? (views ++ w ∷ []) j ≡ some u → j ≡ length views
  at_end [] w u zero other e = refl
  at_end [] w u (suc j) other e = absurd (some-ne-none u (sym e))
  at_end (x ∷ xs) w u zero other e = absurd (other e)
  at_end (x ∷ xs) w u (suc j) other e = ap suc (at_end xs w u j other e)

  pub sum_set : (f : V → ℕ) (views : List V) (pass : ℕ) (v w : V) → get_elem? views pass ≡ some v → sum_by f (set views pass w) + f v ≡ sum_by f views + f w
  sum_set f [] pass v w at = absurd (some-ne-none v (sym at))
  sum_set f (x ∷ xs) zero v w at =
      let same : f x ≡ f v = ap f (some-injective x v at) in
      let before = sum_by-cons f x xs in
      let after = sum_by-cons f w xs in
      omega arith
  sum_set f (x ∷ xs) (suc pass) v w at =
      let before = sum_by-cons f x xs in
      let after = sum_by-cons f x (set xs pass w) in
      let rest = sum_set f xs pass v w at in
      omega arith

module _ {T : Type 0} (P : T → Type 0) where
  pub every_snoc : (xs : List T) (x : T) → Every P xs → P x → Every P (xs ++ x ∷ [])
  every_snoc [] x all good = (good, tt)
  every_snoc (y ∷ xs) x all good = (all.0, every_snoc xs x all.1 good)

  pub every_rest : (xs ys : List T) → Every P (xs ++ ys) → Every P ys
  every_rest [] ys all = all
  every_rest (x ∷ xs) ys all = every_rest xs ys all.1
