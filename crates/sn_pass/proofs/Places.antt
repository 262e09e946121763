-- What stands in lists of what is kept.
use Rattle.std.proofs.Common.{◌≡◌, ◌≢◌, ℕ, zero, suc, ◌<◌, ◌≤◌, List, [], ◌∷◌, ◌++◌, length, get_or, map, set, refl, sym, ap, arith}
use Rattle.sn_pass.specs.Held.{kept_at}
use Rattle.sn_pass.specs.Keeping.{Fresh}
use Rattle.sn_pass.specs.States.{held}
use Rattle.sn_pass.specs.declared.kept.Kept.{Kept}
use Rattle.sn_pass.specs.declared.kept.Kept.TheVariants as kept
use Rattle.sn_pass.proofs.States.{held-Fresh}

-- nothing stands past the end
pub past_end : (xs : List Kept) (i : ℕ) → length xs ≤ i → kept_at (map held xs) i ≡ Fresh
past_end [] i past = refl
past_end (x ∷ xs) zero past = absurd (omega arith)
past_end (x ∷ xs) (suc i) past = past_end xs i (omega arith)

pub stands_at : (xs : List Kept) (i : ℕ) (x : Kept) → i < length xs → x ≡ get_or xs i x → kept_at (map held xs) i ≡ held x
stands_at [] i x within is = absurd (omega arith)
stands_at (y ∷ xs) zero x within is = ap held (sym is)
stands_at (y ∷ xs) (suc i) x within is = stands_at xs i x (omega arith) is

pub set_here : (xs : List Kept) (i : ℕ) (x : Kept) → i < length xs → kept_at (map held (set xs i x)) i ≡ held x
set_here [] i x within = absurd (omega arith)
set_here (y ∷ xs) zero x within = refl
set_here (y ∷ xs) (suc i) x within = set_here xs i x (omega arith)

pub set_elsewhere : (xs : List Kept) (i j : ℕ) (x : Kept) → j ≢ i → kept_at (map held (set xs i x)) j ≡ kept_at (map held xs) j
set_elsewhere [] i j x other = refl
set_elsewhere (y ∷ xs) zero zero x other = absurd (other refl)
set_elsewhere (y ∷ xs) zero (suc j) x other = refl
set_elsewhere (y ∷ xs) (suc i) zero x other = refl
set_elsewhere (y ∷ xs) (suc i) (suc j) x other = set_elsewhere xs i j x (λ same. other (ap suc same))

-- one more place at which nothing is kept
pub one_fresh : (xs : List Kept) (j : ℕ) → kept_at (map held (xs ++ kept.Fresh ∷ [])) j ≡ kept_at (map held xs) j
one_fresh [] zero = held-Fresh
one_fresh [] (suc j) = refl
one_fresh (x ∷ xs) zero = refl
one_fresh (x ∷ xs) (suc j) = one_fresh xs j
