-- What finitely many values have, as lists of all that have it: such a list is put together from lists of its parts.
use Rattle.std.proofs.Common.{◌≡◌, zero, suc, ◌⊎◌, inl, inr, List, [], ◌∷◌, ◌++◌, map, refl, sym, ap, subst, arith}
use Rattle.std.specs.List.{Contains}
use Rattle.std.proofs.Math.Decide.{map_dec}

-- x is one of a list, by cases
abbrev pub Among : {A : Type 0} → List A → A → Type 0
Among [] x = ⊥
Among (y ∷ ys) x = (y ≡ x) ⊎ Among ys x

pub contained_among : {A : Type 0} (xs : List A) (x : A) → Contains xs x → Among xs x
contained_among [] x (k, past, is) = absurd (omega arith)
contained_among (y ∷ ys) x (zero, past, is) = inl is
contained_among (y ∷ ys) x (suc k, past, is) = inr (contained_among ys x (k, omega arith, is))

pub among_contained : {A : Type 0} (xs : List A) (x : A) → Among xs x → Contains xs x
among_contained [] x among = absurd among
among_contained (y ∷ ys) x (inl is) = (0, omega arith, is)
among_contained (y ∷ ys) x (inr among) =
    let (k, past, is) = among_contained ys x among in
    (suc k, omega arith, is)

pub among_left : {A : Type 0} (xs ys : List A) (x : A) → Among xs x → Among (xs ++ ys) x
among_left [] ys x among = absurd among
among_left (y ∷ xs) ys x (inl is) = inl is
among_left (y ∷ xs) ys x (inr among) = inr (among_left xs ys x among)

pub among_right : {A : Type 0} (xs ys : List A) (x : A) → Among ys x → Among (xs ++ ys) x
among_right [] ys x among = among
among_right (y ∷ xs) ys x among = inr (among_right xs ys x among)

among_either : {A : Type 0} (xs ys : List A) (x : A) → Among (xs ++ ys) x → Among xs x ⊎ Among ys x
among_either [] ys x among = inr among
among_either (y ∷ xs) ys x (inl is) = inl (inl is)
among_either (y ∷ xs) ys x (inr among) = elim (among_either xs ys x among) [ inl first ↦ inl (inr first) | inr second ↦ inr second ]

pub among_each : {A B : Type 0} (f : A → B) (xs : List A) (x : A) → Among xs x → Among (map f xs) (f x)
among_each f [] x among = absurd among
among_each f (y ∷ ys) x (inl is) = inl (ap f is)
among_each f (y ∷ ys) x (inr among) = inr (among_each f ys x among)

-- the list has what has P, and nothing else
pub record Listed {A : Type 0} (P : A → Type 0) : Type 0 where
  pub answers : List A
  pub complete : (x : A) → P x → Among answers x
  pub sound : (x : A) → Among answers x → P x

pub listed_as : {A : Type 0} {P Q : A → Type 0} → ((x : A) → P x → Q x) → ((x : A) → Q x → P x) → Listed P → Listed Q
listed_as to from listed = record {
  answers = listed.answers;
  complete = λ x has. listed.complete x (from x has);
  sound = λ x among. to x (listed.sound x among);
}

pub listed_none : {A : Type 0} {P : A → Type 0} → ((x : A) → P x → ⊥) → Listed P
listed_none never = record { answers = []; complete = λ x has. never x has; sound = λ x among. absurd among }

pub listed_one : {A : Type 0} (y : A) → Listed (λ x. y ≡ x)
listed_one y = record {
  answers = y ∷ [];
  complete = λ x is. inl is;
  sound = λ x. elim [ inl is ↦ is | inr among ↦ absurd among ];
}

pub listed_among : {A : Type 0} (xs : List A) → Listed (Among xs)
listed_among xs = record { answers = xs; complete = λ x among. among; sound = λ x among. among }

pub listed_either : {A : Type 0} {P Q : A → Type 0} → Listed P → Listed Q → Listed (λ x. P x ⊎ Q x)
listed_either p q = record {
  answers = p.answers ++ q.answers;
  complete = λ x. elim [
    | inl has ↦ among_left p.answers q.answers x (p.complete x has)
    | inr has ↦ among_right p.answers q.answers x (q.complete x has)
  ];
  sound = λ x among. elim (among_either p.answers q.answers x among) [ inl first ↦ inl (p.sound x first) | inr second ↦ inr (q.sound x second) ];
}

pub listed_where : {A B : Type 0} {P : A → Type 0} → Dec B → Listed P → Listed (λ x. B × P x)
listed_where (yes b) listed = listed_as (λ x has. (b, has)) (λ x has. has.1) listed
listed_where (no never) listed = listed_none (λ x has. never has.0)

-- what one of finitely many has, each of which has it of finitely many
gathered : {I A : Type 0} (P : I → A → Type 0) (is : List I) → ((i : I) → Listed (P i)) → Listed (λ x. (i : I) × Among is i × P i x)
gathered {I = I} {A = A} P [] each = listed_none (λ x has. has.1)
gathered {I = I} {A = A} P (i ∷ is) each = listed_as
    (λ x. elim [ inl has ↦ (i, inl refl, has) | inr has ↦ (has.0, inr has.1, has.2) ])
    (λ x (j, among, has). first_or_later x j among has)
    (listed_either (each i) (gathered P is each))
  where
    first_or_later : (x : A) (j : I) → Among (i ∷ is) j → P j x → P i x ⊎ ((k : I) × Among is k × P k x)
    first_or_later x j (inl same) has = inl (subst (λ k. P k x) (sym same) has)
    first_or_later x j (inr later) has = inr (j, later, has)

pub listed_through : {I A : Type 0} {Q : I → Type 0} (P : I → A → Type 0) → Listed Q → ((i : I) → Listed (P i)) → Listed (λ x. (i : I) × Q i × P i x)
listed_through P q each = listed_as
    (λ x (i, among, has). (i, q.sound i among, has))
    (λ x (i, is, has). (i, q.complete i is, has))
    (gathered P q.answers each)

-- those that have more
pub listed_both : {A : Type 0} {P Q : A → Type 0} → Listed P → ((x : A) → Dec (Q x)) → Listed (λ x. P x × Q x)
listed_both {P = P} {Q = Q} p dec = listed_as
    (λ x (y, has, (more, same)). (subst P same has, subst Q same more))
    (λ x (has, more). (x, has, (more, refl)))
    (listed_through (λ y x. Q y × (y ≡ x)) p (λ y. listed_where (dec y) (listed_one y)))

-- ---- what can be decided

pub dec_some : {A : Type 0} {P : A → Type 0} → Listed P → Dec ((x : A) × P x)
dec_some {A = A} {P = P} p = first p.answers p.complete p.sound
  where
    first : (xs : List A) → ((x : A) → P x → Among xs x) → ((x : A) → Among xs x → P x) → Dec ((x : A) × P x)
    first [] complete sound = no (λ (x, has). complete x has)
    first (x ∷ xs) complete sound = yes (x, sound x (inl refl))

pub dec_both : {A B : Type 0} → Dec A → Dec B → Dec (A × B)
dec_both (yes a) (yes b) = yes (a, b)
dec_both (yes a) (no b) = no (λ both. b both.1)
dec_both (no a) b = no (λ both. a both.0)

pub dec_either : {A B : Type 0} → Dec A → Dec B → Dec (A ⊎ B)
dec_either (yes a) b = yes (inl a)
dec_either (no a) (yes b) = yes (inr b)
dec_either (no a) (no b) = no (elim [ inl x ↦ a x | inr x ↦ b x ])

pub dec_each : {A : Type 0} {P Q : A → Type 0} → Listed P → ((x : A) → Dec (Q x)) → Dec ((x : A) → P x → Q x)
dec_each {A = A} {Q = Q} p dec = map_dec (λ all x has. all x (p.complete x has)) (λ all x among. all x (p.sound x among)) (each p.answers)
  where
    each : (xs : List A) → Dec ((x : A) → Among xs x → Q x)
    each [] = yes (λ x never. absurd never)
    each (y ∷ ys) = map_dec
        (λ (first, later) x. elim [ inl same ↦ subst Q same first | inr among ↦ later x among ])
        (λ all. (all y (inl refl), λ x among. all x (inr among)))
        (dec_both (dec y) (each ys))

pub dec_not : {A : Type 0} → Dec A → Dec (A → ⊥)
dec_not (yes a) = no (λ never. never a)
dec_not (no a) = yes a

-- where two can be told apart, so can what is listed
pub dec_listed : {A : Type 0} {P : A → Type 0} → ((x y : A) → Dec (x ≡ y)) → Listed P → (x : A) → Dec (P x)
dec_listed {A = A} same p x = map_dec (p.sound x) (p.complete x) (among p.answers)
  where
    among : (xs : List A) → Dec (Among xs x)
    among [] = no (λ never. never)
    among (y ∷ ys) = dec_either (same y x) (among ys)
