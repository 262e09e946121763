-- What a loop over a list has made and checked so far.
use Rattle.std.proofs.Common.{◌≡◌, ℕ, ◌+◌, ◌<◌, ◌≤◌, List, [], ◌∷◌, ◌++◌, length, take, drop, get_or, map, fold, sym, ap, ◌∙◌}
use Rattle.std.proofs.lemmas.List.{drop_more, map-append, take_all, take_more}
use Rattle.sn_scope.proofs.Building.{drop_past}

-- one more element is made
pub mapped_more : {A B : Type 0} (f : A → B) (xs : List A) (i : ℕ) (x : A) (made new : List B) (y : B) → i < length xs → x ≡ get_or xs i x → made ≡ map f (take i xs) → y ≡ f x → new ≡ made ++ y ∷ [] →
    new ≡ map f (take (i + 1) xs)
mapped_more f xs i x made new y within at so_far is pushed =
    pushed ∙ ap (λ ys. ys ++ y ∷ []) so_far ∙ ap (λ z. map f (take i xs) ++ z ∷ []) is ∙ sym (map-append f (take i xs) (x ∷ []))
    ∙ ap (map f) (ap (λ z. take i xs ++ z ∷ []) at ∙ sym (take_more xs i x within))

pub mapped_all : {A B : Type 0} (f : A → B) (xs : List A) (i : ℕ) (made : List B) → length xs ≤ i → made ≡ map f (take i xs) → made ≡ map f xs
mapped_all f xs i made past so_far = so_far ∙ ap (map f) (take_all i xs past)

-- one more element is checked
pub folded_more : {A S : Type 0} (step : S → A → S) (xs : List A) (i : ℕ) (x : A) (s next all : S) → i < length xs → x ≡ get_or xs i x → fold step s (drop i xs) ≡ all → next ≡ step s x →
    fold step next (drop (i + 1) xs) ≡ all
folded_more step xs i x s next all within at so_far is =
    ap (λ n. fold step n (drop (i + 1) xs)) (is ∙ ap (step s) at) ∙ sym (ap (fold step s) (drop_more xs i x within)) ∙ so_far

pub folded_all : {A S : Type 0} (step : S → A → S) (xs : List A) (i : ℕ) (s all : S) → length xs ≤ i → fold step s (drop i xs) ≡ all → s ≡ all
folded_all step xs i s all past so_far = sym (ap (fold step s) (drop_past i xs past)) ∙ so_far

-- the same where each element has a check of its own
pub checked_more : {A S : Type 0} (check : A → S → S) (xs : List A) (i : ℕ) (x : A) (s next all : S) → i < length xs → x ≡ get_or xs i x → fold (λ so_far more. more so_far) s (map check (drop i xs)) ≡ all → next ≡ check x s →
    fold (λ so_far more. more so_far) next (map check (drop (i + 1) xs)) ≡ all
checked_more check xs i x s next all within at so_far is =
    ap (λ n. fold (λ so_far more. more so_far) n (map check (drop (i + 1) xs))) (is ∙ ap (λ y. check y s) at)
    ∙ sym (ap (λ ys. fold (λ so_far more. more so_far) s (map check ys)) (drop_more xs i x within)) ∙ so_far

pub checked_all : {A S : Type 0} (check : A → S → S) (xs : List A) (i : ℕ) (s all : S) → length xs ≤ i → fold (λ so_far more. more so_far) s (map check (drop i xs)) ≡ all → s ≡ all
checked_all check xs i s all past so_far = sym (ap (λ ys. fold (λ so_far more. more so_far) s (map check ys)) (drop_past i xs past)) ∙ so_far
