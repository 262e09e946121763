-- What a change of one element of a list is to those who see the elements as something else.
use Rattle.std.proofs.Common.{◌≡◌, ℕ, zero, suc, ◌+◌, drop, ◌<◌, ◌≤◌, List, [], ◌∷◌, map, length, get_or, set, refl, sym, ap, ◌∙◌, arith}
use Rattle.std.specs.Prelude.{slice_get, Some, None, Result, Ok, Err, OnErr}
use Rattle.std.proofs.lemmas.List.{get_or_default}
use Rattle.sn_view.specs.View.{changed_at}

pub changes : {X Y : Type 0} (v : X → Y) (f : Y → Y) (xs : List X) (i : ℕ) (a b : X) → a ≡ get_or xs i a → v b ≡ f (v a) → map v (set xs i b) ≡ changed_at i f (map v xs)
changes v f [] i a b read made = refl
changes v f (x ∷ xs) zero a b read made = ap (λ y. y ∷ map v xs) (made ∙ ap (λ z. f (v z)) read)
changes v f (x ∷ xs) (suc i) a b read made = ap (λ ys. v x ∷ ys) (changes v f xs i a b read made)

-- past the end nothing changes
pub changes_past : {X : Type 0} (f : X → X) (xs : List X) (i : ℕ) → length xs ≤ i → changed_at i f xs ≡ xs
changes_past f [] i past = refl
changes_past f (x ∷ xs) zero past = absurd (omega (arith, past))
changes_past f (x ∷ xs) (suc i) past = ap (λ ys. x ∷ ys) (changes_past f xs i (omega (arith, past)))

pub unchanged : {X Y : Type 0} (v : X → Y) (xs : List X) (i : ℕ) (a b : X) → a ≡ get_or xs i a → v b ≡ v a → map v (set xs i b) ≡ map v xs
unchanged v [] i a b read same = refl
unchanged v (x ∷ xs) zero a b read same = ap (λ y. y ∷ map v xs) (same ∙ ap v read)
unchanged v (x ∷ xs) (suc i) a b read same = ap (λ ys. v x ∷ ys) (unchanged v xs i a b read same)

-- as the elements are seen
pub seen_past : {X Y : Type 0} (v : X → Y) (f : Y → Y) (xs : List X) (i : ℕ) → length xs ≤ i → map v xs ≡ changed_at i f (map v xs)
seen_past v f [] i past = refl
seen_past v f (x ∷ xs) zero past = absurd (omega (arith, past))
seen_past v f (x ∷ xs) (suc i) past = ap (λ ys. v x ∷ ys) (seen_past v f xs i (omega (arith, past)))

pub on_err : {T E : Type 0} (r : Result T E) {P : Type 0} → P → OnErr r P
on_err (Ok x) p = tt
on_err (Err e) p = p

-- what is read of a list, as it is seen
pub seen_get : {X Y : Type 0} (v : X → Y) (xs : List X) (i : ℕ) (a : X) → i < length xs → a ≡ get_or xs i a → slice_get (map v xs) i ≡ Some (v a)
seen_get v [] i a within read = absurd (omega (arith, within))
seen_get v (x ∷ xs) zero a within read = ap (λ y. Some (v y)) (sym read)
seen_get v (x ∷ xs) (suc i) a within read = seen_get v xs i a (omega (arith, within)) read

pub seen_none : {X Y : Type 0} (v : X → Y) (xs : List X) (i : ℕ) → length xs ≤ i → slice_get (map v xs) i ≡ None
seen_none v [] i past = refl
seen_none v (x ∷ xs) zero past = absurd (omega (arith, past))
seen_none v (x ∷ xs) (suc i) past = seen_none v xs i (omega (arith, past))

pub read_twice : {X : Type 0} (xs : List X) (i : ℕ) (a b : X) → i < length xs → a ≡ get_or xs i a → b ≡ get_or xs i b → a ≡ b
read_twice xs i a b within one two = one ∙ get_or_default xs i a b within ∙ sym two

pub drop_seen : {X Y : Type 0} (v : X → Y) (xs : List X) (i : ℕ) (a : X) → i < length xs → a ≡ get_or xs i a → drop i (map v xs) ≡ v a ∷ drop (i + 1) (map v xs)
drop_seen v [] i a within read = absurd (omega (arith, within))
drop_seen v (x ∷ xs) zero a within read = ap (λ y. v y ∷ map v xs) (sym read)
drop_seen v (x ∷ xs) (suc i) a within read =
    let e : suc i + 1 ≡ suc (i + 1) = omega arith in
    drop_seen v xs i a (omega (arith, within)) read ∙ ap (λ n. v a ∷ drop n (map v (x ∷ xs))) (sym e)
