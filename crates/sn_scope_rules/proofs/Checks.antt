-- What checks find: the least of the refusals so far and of those of a part.
use Rattle.std.proofs.Common.{◌≡◌, ℕ, Bool, true, false, not, ◌==◌, ◌&&◌, ◌||◌, nat_lt, if◌then◌else◌, List, [], ◌∷◌, Option, Some, None, fold, ◌⊎◌, inl, inr, refl, subst, arith}
use Rattle.std.proofs.lemmas.Bool.Decides.{nat_tests}
use Rattle.sn_label_scope.specs.Refusals.{Check, comes_before, noted, rank, required}
use Rattle.sn_label_scope.specs.declared.refusal.Reason.{Reason}
use Rattle.sn_label_scope.specs.declared.refusal.Refusal.{Refusal}
use Rattle.sn_scope_rules.specs.Refusals.{IsFirst}
use Rattle.sn_scope_rules.specs.Standing.{StandsIn}
use Rattle.sn_scope_rules.specs.Standing.StandsIn.{here, later}
use Rattle.sn_scope_rules.proofs.Standing.{in_cons, none_in}

-- the refusal so far, or one of others
abbrev pub Either : Option Refusal → (Refusal → Type 0) → Refusal → Type 0
Either old P r = (old ≡ Some r) ⊎ P r

-- nothing is refused, or the first of what is refused
abbrev pub IsLeast : (Refusal → Type 0) → Option Refusal → Type 0
IsLeast P None = (r : Refusal) → P r → ⊥
IsLeast P (Some r) = IsFirst P r

-- what is left is the least of the refusal so far and the others
abbrev pub Goes : Option Refusal → (Refusal → Type 0) → Option Refusal → Type 0
Goes old P left = IsLeast (Either old P) left

-- the check leaves the least
abbrev pub Finds : Check → (Refusal → Type 0) → Type 0
Finds check P = (least : Option Refusal) → Goes least P (check least)

-- the order of refusals, by numbers
abbrev before : ℕ → ℕ → ℕ → ℕ → Bool
before a i b j = nat_lt a b || ((a == b) && nat_lt i j)

before_trans : (a i b j c k : ℕ) → before a i b j ≡ false → before b j c k ≡ false → before a i c k ≡ false
before_trans a i b j c k one other = grind (arith, nat_tests, one, other)

before_itself : (a i : ℕ) → before a i a i ≡ false
before_itself a i = grind (arith, nat_tests)

before_other : (a i b j : ℕ) → before a i b j ≡ true → before b j a i ≡ false
before_other a i b j one = grind (arith, nat_tests, one)

pub order_trans : (a b c : Refusal) → comes_before a b ≡ false → comes_before b c ≡ false → comes_before a c ≡ false
order_trans a b c one other = before_trans a.at (rank a.reason) b.at (rank b.reason) c.at (rank c.reason) one other

pub order_itself : (a : Refusal) → comes_before a a ≡ false
order_itself a = before_itself a.at (rank a.reason)

order_other : (a b : Refusal) → comes_before a b ≡ true → comes_before b a ≡ false
order_other a b one = before_other a.at (rank a.reason) b.at (rank b.reason) one

-- equal refusals do not come before one another
same_first : (a b : Refusal) → Some a ≡ Some b → comes_before b a ≡ false
same_first a b same = subst (λ (o : Option Refusal). comes_before (or_first o) a ≡ false) same (order_itself a)
  where
    or_first : Option Refusal → Refusal
    or_first None = a
    or_first (Some r) = r

-- what is refused may be said in other words
least_same : (P Q : Refusal → Type 0) (left : Option Refusal) → IsLeast P left → ((r : Refusal) → P r → Q r) → ((r : Refusal) → Q r → P r) → IsLeast Q left
least_same P Q None none to from = λ r q. none r (from r q)
least_same P Q (Some l) least to from = record { stands = to l least.stands; first = λ other q. least.first other (from other q) }

either_same : (old : Option Refusal) (P Q : Refusal → Type 0) → ((r : Refusal) → P r → Q r) → (r : Refusal) → Either old P r → Either old Q r
either_same old P Q to r (inl was) = inl was
either_same old P Q to r (inr p) = inr (to r p)

pub goes_same : (old : Option Refusal) (P Q : Refusal → Type 0) (left : Option Refusal) → Goes old P left → ((r : Refusal) → P r → Q r) → ((r : Refusal) → Q r → P r) → Goes old Q left
goes_same old P Q left least to from = least_same (Either old P) (Either old Q) left least (either_same old P Q to) (either_same old Q P from)

pub finds_same : (check : Check) (P Q : Refusal → Type 0) → Finds check P → ((r : Refusal) → P r → Q r) → ((r : Refusal) → Q r → P r) → Finds check Q
finds_same check P Q found to from least = goes_same least P Q (check least) (found least) to from

-- where nothing is refused, what there was stays
pub goes_nothing : (old : Option Refusal) (P : Refusal → Type 0) → ((r : Refusal) → P r → ⊥) → Goes old P old
goes_nothing None P none = nothing
  where
    nothing : (r : Refusal) → Either None P r → ⊥
    nothing r (inl was) = cc
    nothing r (inr p) = none r p
goes_nothing (Some l) P none = record { stands = inl refl; first = after }
  where
    after : (r : Refusal) → Either (Some l) P r → comes_before r l ≡ false
    after r (inl was) = same_first l r was
    after r (inr p) = absurd (none r p)

pub finds_nothing : (P : Refusal → Type 0) → ((r : Refusal) → P r → ⊥) → Finds (λ least. least) P
finds_nothing P none least = goes_nothing least P none

-- two checks find what either finds
either_left : (old : Option Refusal) (P Q : Refusal → Type 0) (r : Refusal) → Either old P r → Either old (λ r. P r ⊎ Q r) r
either_left old P Q r (inl was) = inl was
either_left old P Q r (inr p) = inr (inl p)

either_cases : (old : Option Refusal) (P Q : Refusal → Type 0) (r : Refusal) → Either old (λ r. P r ⊎ Q r) r → Either old P r ⊎ Q r
either_cases old P Q r (inl was) = inl (inl was)
either_cases old P Q r (inr (inl p)) = inl (inr p)
either_cases old P Q r (inr (inr q)) = inr q

pub goes_on : (old : Option Refusal) (P : Refusal → Type 0) (mid : Option Refusal) (Q : Refusal → Type 0) (left : Option Refusal)
    → Goes old P mid → Goes mid Q left → Goes old (λ r. P r ⊎ Q r) left
goes_on old P None Q None one other = λ r refused. nothing r (either_cases old P Q r refused)
  where
    nothing : (r : Refusal) → Either old P r ⊎ Q r → ⊥
    nothing r (inl p) = one r p
    nothing r (inr q) = other r (inr q)
goes_on old P None Q (Some l) one other = record { stands = inr (inr (found other.stands)); first = λ r refused. after r (either_cases old P Q r refused) }
  where
    found : Either None Q l → Q l
    found (inl was) = cc
    found (inr q) = q

    after : (r : Refusal) → Either old P r ⊎ Q r → comes_before r l ≡ false
    after r (inl p) = absurd (one r p)
    after r (inr q) = other.first r (inr q)
goes_on old P (Some m) Q None one other = absurd (other m (inl refl))
goes_on old P (Some m) Q (Some l) one other = record { stands = found other.stands; first = λ r refused. after r (either_cases old P Q r refused) }
  where
    or_first : Option Refusal → Refusal
    or_first None = m
    or_first (Some r) = r

    found : Either (Some m) Q l → Either old (λ r. P r ⊎ Q r) l
    found (inl was) = subst (λ o. Either old (λ r. P r ⊎ Q r) (or_first o)) was (either_left old P Q m one.stands)
    found (inr q) = inr (inr q)

    after : (r : Refusal) → Either old P r ⊎ Q r → comes_before r l ≡ false
    after r (inl p) = order_trans r m l (one.first r p) (other.first m (inl refl))
    after r (inr q) = other.first r (inr q)

pub finds_both : (one other : Check) (P Q : Refusal → Type 0) → Finds one P → Finds other Q → Finds (λ least. other (one least)) (λ r. P r ⊎ Q r)
finds_both one other P Q first second least = goes_on least P (one least) Q (other (one least)) (first least) (second (one least))

-- one that is required is refused where it does not hold
abbrev pub Fails : Bool → Reason → ℕ → Refusal → Type 0
Fails ok reason at r = (ok ≡ false) × (record { reason = reason; at = at } ≡ r)

noted_goes : (least : Option Refusal) (new : Refusal) → Goes least (λ r. new ≡ r) (noted least new)
noted_goes None new = record { stands = inr refl; first = after }
  where
    after : (r : Refusal) → Either None (λ r. new ≡ r) r → comes_before r new ≡ false
    after r (inl was) = cc
    after r (inr same) = subst (λ r. comes_before r new ≡ false) same (order_itself new)
noted_goes (Some l) new =
    (elim (comes_before new l) as (λ b. comes_before new l ≡ b → Goes (Some l) (λ r. new ≡ r) (if b then Some new else Some l)) [
      | true ↦ λ earlier. record { stands = inr refl; first = after_new earlier }
      | false ↦ λ after. record { stands = inl refl; first = after_old after }
    ]) refl
  where
    after_new : comes_before new l ≡ true → (r : Refusal) → Either (Some l) (λ r. new ≡ r) r → comes_before r new ≡ false
    after_new earlier r (inl was) = order_trans r l new (same_first l r was) (order_other new l earlier)
    after_new earlier r (inr same) = subst (λ r. comes_before r new ≡ false) same (order_itself new)

    after_old : comes_before new l ≡ false → (r : Refusal) → Either (Some l) (λ r. new ≡ r) r → comes_before r l ≡ false
    after_old after r (inl was) = same_first l r was
    after_old after r (inr same) = subst (λ r. comes_before r l ≡ false) same after

pub finds_required : (ok : Bool) (reason : Reason) (at : ℕ) → Finds (required ok reason at) (Fails ok reason at)
finds_required true reason at least = goes_nothing least (Fails true reason at) (λ r fails. absurd_true fails.0)
  where
    absurd_true : true ≡ false → ⊥
    absurd_true same = cc
finds_required false reason at least = goes_same least (λ r. record { reason = reason; at = at } ≡ r) (Fails false reason at) (noted least (record { reason = reason; at = at }))
    (noted_goes least (record { reason = reason; at = at })) (λ r same. (refl, same)) (λ r fails. fails.1)

-- what is refused in some element
abbrev pub Among : {A : Type 0} → (A → Refusal → Type 0) → List A → Refusal → Type 0
Among {A} P xs r = (x : A) × StandsIn x xs × P x r

pub among_cons : {A : Type 0} (P : A → Refusal → Type 0) (x : A) (xs : List A) (r : Refusal) → P x r ⊎ Among P xs r → Among P (x ∷ xs) r
among_cons P x xs r (inl p) = (x, here, p)
among_cons P x xs r (inr rest) = (rest.0, later rest.1, rest.2)

pub among_cases : {A : Type 0} (P : A → Refusal → Type 0) (x : A) (xs : List A) (r : Refusal) → Among P (x ∷ xs) r → P x r ⊎ Among P xs r
among_cases P x xs r one = in_cons (λ y. P y r) x one.0 xs one.1 one.2

pub among_none : {A : Type 0} (P : A → Refusal → Type 0) (r : Refusal) → Among P [] r → ⊥
among_none P r one = none_in one.0 one.1

-- a check of each element finds what is refused in some element
pub finds_each : {A : Type 0} (check : Option Refusal → A → Option Refusal) (P : A → Refusal → Type 0) (xs : List A) → ((x : A) → StandsIn x xs → Finds (λ least. check least x) (P x)) →
    Finds (λ least. fold check least xs) (Among P xs)
finds_each check P [] one = finds_nothing (Among P []) (among_none P)
finds_each check P (x ∷ xs) one = finds_same (λ least. fold check (check least x) xs) (λ r. P x r ⊎ Among P xs r) (Among P (x ∷ xs))
    (finds_both (λ least. check least x) (λ least. fold check least xs) (P x) (Among P xs) (one x here) (finds_each check P xs (λ y at. one y (later at))))
    (among_cons P x xs) (among_cases P x xs)

-- what must not hold, and does
pub held_from : (b : Bool) → not b ≡ false → b ≡ true
held_from true same = refl
held_from false same = cc
