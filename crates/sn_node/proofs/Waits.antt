-- Whether a record without a call is among the first entries, where one entry changes.
use Rattle.std.proofs.Common.{◌≡◌, ℕ, zero, suc, ◌+◌, ◌<◌, ◌≤◌, Bool, true, false, ◌||◌, List, [], ◌∷◌, ◌++◌, length, get_or, set, take, refl, sym, ap, ◌∙◌, true≢false}
use Rattle.std.proofs.lemmas.List.{take-append-le, take_all, take_more_set}
use Rattle.std.proofs.lemmas.List.Folds.{list_any-append, list_any_more}
use Rattle.std.specs.List.{list_any}

both : (a b : Bool) → a ≡ false → b ≡ false → (a || b) ≡ false
both true b not_a not_b = not_a
both false b not_a not_b = not_b

pub left : (a b : Bool) → (a || b) ≡ false → a ≡ false
left true b neither = neither
left false b neither = refl

pub right : (a b : Bool) → (a || b) ≡ false → b ≡ false
right true b neither = absurd (true≢false neither)
right false b neither = neither

module _ {X : Type 0} (test : X → Bool) where
  -- a write of what fails the test
  pub none_set : (xs : List X) (n i : ℕ) (x : X) → test x ≡ false → list_any test (take n xs) ≡ false → list_any test (take n (set xs i x)) ≡ false
  none_set [] n i x fails none = none
  none_set (y ∷ xs) zero i x fails none = refl
  none_set (y ∷ xs) (suc n) zero x fails none = both (test x) (list_any test (take n xs)) fails (right (test y) _ none)
  none_set (y ∷ xs) (suc n) (suc i) x fails none = both (test y) (list_any test (take n (set xs i x))) (left (test y) _ none) (none_set xs n i x fails (right (test y) _ none))

  -- one more entry that fails the test
  pub none_more : (xs : List X) (n : ℕ) (x : X) → n < length xs → x ≡ get_or xs n x → test x ≡ false → list_any test (take n xs) ≡ false → list_any test (take (n + 1) xs) ≡ false
  none_more xs n x within read fails none = list_any_more test xs n x within ∙ both _ _ none (sym (ap test read) ∙ fails)

  -- an entry behind the others
  pub none_push : (xs : List X) (n : ℕ) (x : X) → n ≤ length xs → list_any test (take n xs) ≡ false → list_any test (take n (xs ++ x ∷ [])) ≡ false
  none_push xs n x within none = ap (list_any test) (take-append-le n xs (x ∷ []) within) ∙ none

  -- an entry behind the others, which fails the test too
  pub none_push_all : (xs : List X) (n : ℕ) (x : X) → test x ≡ false → list_any test (take n xs) ≡ false → list_any test (take n (xs ++ x ∷ [])) ≡ false
  none_push_all [] zero x fails none = refl
  none_push_all [] (suc n) x fails none = both (test x) (list_any test (take n [])) fails (empty n)
    where
      empty : (n : ℕ) → list_any test (take n []) ≡ false
      empty zero = refl
      empty (suc n) = refl
  none_push_all (y ∷ xs) zero x fails none = refl
  none_push_all (y ∷ xs) (suc n) x fails none = both (test y) _ (left (test y) _ none) (none_push_all xs n x fails (right (test y) _ none))

  -- all of them, where the rest is past the end
  pub none_all : (xs : List X) (n : ℕ) → length xs ≤ n → list_any test (take n xs) ≡ false → list_any test xs ≡ false
  none_all xs n past none = sym (ap (list_any test) (take_all n xs past)) ∙ none

  -- and so any number of them
  pub none_among : (xs : List X) (n m : ℕ) → length xs ≤ n → list_any test (take n xs) ≡ false → length xs ≤ m → list_any test (take m xs) ≡ false
  none_among xs n m past none far = ap (list_any test) (take_all m xs far) ∙ none_all xs n past none

  -- what fails the test in place of the one behind those
  pub none_begun : (xs : List X) (p : ℕ) (x : X) → p < length xs → test x ≡ false → list_any test (take p xs) ≡ false → list_any test (take (p + 1) (set xs p x)) ≡ false
  none_begun xs p x within fails none =
      ap (list_any test) (take_more_set xs p x within) ∙ list_any-append test (take p xs) (x ∷ []) ∙ both _ _ none (both (test x) false fails refl)
