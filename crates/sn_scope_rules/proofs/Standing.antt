-- Elements of lists, and of lists that are made of others.
use Rattle.std.proofs.Common.{◌≡◌, List, [], ◌∷◌, ◌++◌, ◌⊎◌, inl, inr, fold, map as each, refl, ap}
use Rattle.std.specs.List.{flat_map}
use Rattle.sn_scope_rules.specs.Standing.{StandsBehind, StandsIn, StandsWithin}
use Rattle.sn_scope_rules.specs.Standing.StandsBehind.{foremost, further}
use Rattle.sn_scope_rules.specs.Standing.StandsIn.{here, later}
use Rattle.sn_scope_rules.specs.Standing.StandsWithin.{deeper, itself}

-- nothing stands in an empty list
pub none_in : {A : Type 0} (x : A) → StandsIn x [] → ⊥
none_in x at = elim at [ ]

pub none_behind : {A : Type 0} (x : A) (before : List A) → StandsBehind x before [] → ⊥
none_behind x before at = elim at [ ]

-- what holds of an element holds of the first, or of one of the rest
pub in_cons : {A : Type 0} (P : A → Type 0) (x y : A) (xs : List A) → StandsIn y (x ∷ xs) → P y → P x ⊎ ((z : A) × StandsIn z xs × P z)
in_cons P x y xs here p = inl p
in_cons P x y xs (later at) p = inr (y, at, p)

-- an element of two lists in a row stands in one of them
pub in_left : {A : Type 0} (x : A) (xs ys : List A) → StandsIn x xs → StandsIn x (xs ++ ys)
in_left x xs ys here = here
in_left x xs ys (later at) = later (in_left x _ ys at)

pub in_right : {A : Type 0} (x : A) (xs ys : List A) → StandsIn x ys → StandsIn x (xs ++ ys)
in_right x [] ys at = at
in_right x (y ∷ xs) ys at = later (in_right x xs ys at)

pub in_either : {A : Type 0} (x : A) (xs ys : List A) → StandsIn x (xs ++ ys) → StandsIn x xs ⊎ StandsIn x ys
in_either x [] ys at = inr at
in_either x (y ∷ xs) ys at = either x y xs ys at (in_either x xs ys)
  where
    either : {A : Type 0} (x y : A) (xs ys : List A) → StandsIn x (y ∷ (xs ++ ys)) → (StandsIn x (xs ++ ys) → StandsIn x xs ⊎ StandsIn x ys) → StandsIn x (y ∷ xs) ⊎ StandsIn x ys
    either x y xs ys here more = inl here
    either x y xs ys (later at) more = wider (more at)
      where
        wider : StandsIn x xs ⊎ StandsIn x ys → StandsIn x (y ∷ xs) ⊎ StandsIn x ys
        wider (inl at) = inl (later at)
        wider (inr at) = inr at

-- what holds of an element and of what those before it were entered into
abbrev pub Behind : {A S : Type 0} → (S → A → S) → S → (S → A → Type 0) → List A → Type 0
Behind {A} {S} enter set P xs = (before : List A) × (x : A) × StandsBehind x before xs × P (fold enter set before) x

pub behind_first : {A S : Type 0} (enter : S → A → S) (set : S) (P : S → A → Type 0) (x : A) (xs : List A) → P set x → Behind enter set P (x ∷ xs)
behind_first enter set P x xs p = ([], x, foremost, p)

pub behind_more : {A S : Type 0} (enter : S → A → S) (set : S) (P : S → A → Type 0) (x : A) (xs : List A) → Behind enter (enter set x) P xs → Behind enter set P (x ∷ xs)
behind_more enter set P x xs rest = (x ∷ rest.0, rest.1, further rest.2, rest.3)

pub behind_cases : {A S : Type 0} (enter : S → A → S) (set : S) (P : S → A → Type 0) (x y : A) (xs before : List A) →
    StandsBehind y before (x ∷ xs) → P (fold enter set before) y → P set x ⊎ Behind enter (enter set x) P xs
behind_cases enter set P x y xs [] foremost p = inl p
behind_cases enter set P x y xs (z ∷ before) (further at) p = inr (before, y, at, p)

-- an element stands behind those before it
pub in_behind : {A : Type 0} (x : A) (xs : List A) → StandsIn x xs → (before : List A) × StandsBehind x before xs
in_behind x xs here = ([], foremost)
in_behind x _ (later {y} {xs} at) = let there = in_behind x xs at in (y ∷ there.0, further there.1)

pub behind_in : {A : Type 0} (x : A) (before xs : List A) → StandsBehind x before xs → StandsIn x xs
behind_in x before xs foremost = here
behind_in x before xs (further at) = later (behind_in x _ _ at)

-- what stands within a whole is the whole, or stands within one of its parts
pub within_cases : {A : Type 0} (parts : A → List A) (P : A → Type 0) (x whole : A) → StandsWithin parts x whole → P x
    → P whole ⊎ ((part : A) × StandsIn part (parts whole) × ((y : A) × StandsWithin parts y part × P y))
within_cases parts P x whole itself p = inl p
within_cases parts P x whole (deeper {part} at rest) p = inr (part, at, (x, rest, p))

-- lists that are made of each element, one after another
pub together_map : {A B : Type 0} (f : A → List B) (xs : List A) → flat_map (λ part. part) (each f xs) ≡ flat_map f xs
together_map f [] = refl
together_map f (x ∷ xs) = ap (λ more. f x ++ more) (together_map f xs)
