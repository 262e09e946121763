-- Lists in which no element stands twice, and how many there are.
use Rattle.std.proofs.Common.{◌≡◌, ◌⊎◌, inl, inr, zero, suc, ◌≤◌, List, [], ◌∷◌, ◌++◌, length, map as each, refl, sym, ap, subst, arith, length-append}
use Rattle.std.specs.List.{Contains}
use Rattle.std.proofs.lemmas.List.Elements.{Contains-append_left, Contains-append_right, Contains-append_cases}
use Rattle.sn_record.specs.LabelSet.{Labels}
use Rattle.sn_typing.specs.Accepted.{AreFew, most_variants}
use Rattle.sn_flow.specs.Tables.{AreDistinct}

module _ {X : Type 0} where
  pub cases : (y : X) (ys : List X) (x : X) → Contains (y ∷ ys) x → (y ≡ x) ⊎ Contains ys x
  cases y ys x (zero, below, is) = inl is
  cases y ys x (suc k, below, is) = inr (k, omega (arith, below), is)

  pub none : (x : X) → Contains [] x → ⊥
  none x (k, below, is) = absurd (omega (arith, below))

  pub head : (y : X) (ys : List X) → Contains (y ∷ ys) y
  head y ys = (0, omega arith, refl)

  pub behind : (y : X) (ys : List X) (x : X) → Contains ys x → Contains (y ∷ ys) x
  behind y ys x (k, below, is) = (suc k, omega (arith, below), is)

  -- the place of an element
  record Around (x : X) (all : List X) : Type 0 where
    before : List X
    after : List X
    whole : all ≡ before ++ x ∷ after

  around : (x : X) (all : List X) → Contains all x → Around x all
  around x [] there = absurd (none x there)
  around x (y ∷ all) there = which (cases y all x there) (λ rest. around x all rest)
    where
      which : (y ≡ x) ⊎ Contains all x → (Contains all x → Around x all) → Around x (y ∷ all)
      which (inl same) later = record { before = []; after = all; whole = ap (λ (z : X). z ∷ all) same }
      which (inr rest) later = let found = later rest in record { before = y ∷ found.before; after = found.after; whole = ap (λ (zs : List X). y ∷ zs) found.whole }

  -- what is at other places
  elsewhere : (x y : X) (before after : List X) → (x ≡ y → ⊥) → Contains (before ++ x ∷ after) y → Contains (before ++ after) y
  elsewhere x y before after apart there = which (Contains-append_cases before (x ∷ after) y there)
    where
      then : (x ≡ y) ⊎ Contains after y → Contains (before ++ after) y
      then (inl same) = absurd (apart same)
      then (inr rest) = Contains-append_right before after y rest

      which : Contains before y ⊎ Contains (x ∷ after) y → Contains (before ++ after) y
      which (inl front) = Contains-append_left before after y front
      which (inr back) = then (cases x after y back)

  -- different elements that are all in a list are no more than it has
  pub no_more : (xs all : List X) → AreDistinct xs → ((x : X) → Contains xs x → Contains all x) → length xs ≤ length all
  no_more [] all distinct within = omega arith
  no_more (x ∷ xs) all distinct within =
      let found : Around x all = around x all (within x (head x xs)) in
      let rest : length xs ≤ length (found.before ++ found.after) =
      no_more xs (found.before ++ found.after) distinct.1
      (λ y there. elsewhere x y found.before found.after (λ same. distinct.0 (subst (Contains xs) (sym same) there)) (subst (λ zs. Contains zs y) found.whole (within y (behind x xs y there)))) in
      let size : length all ≡ length (found.before ++ x ∷ found.after) = ap length found.whole in
      omega (arith, rest, size, length-append found.before found.after, length-append found.before (x ∷ found.after))

  pub distinct_push : (xs : List X) (x : X) → AreDistinct xs → (Contains xs x → ⊥) → AreDistinct (xs ++ x ∷ [])
  distinct_push [] x distinct new = (λ there. none x there, tt)
  distinct_push (y ∷ xs) x distinct new = (λ there. which (Contains-append_cases xs (x ∷ []) y there), distinct_push xs x distinct.1 (λ there. new (behind y xs x there)))
    where
      last : (x ≡ y) ⊎ Contains [] y → ⊥
      last (inl same) = new (subst (λ (z : X). Contains (z ∷ xs) x) same (head x xs))
      last (inr nothing) = none y nothing

      which : Contains xs y ⊎ Contains (x ∷ []) y → ⊥
      which (inl front) = distinct.0 front
      which (inr back) = last (cases x [] y back)

pub mapped : {A B : Type 0} (f : A → B) (xs : List A) (x : A) → Contains xs x → Contains (each f xs) (f x)
mapped f [] x there = absurd (none x there)
mapped {B = B} f (y ∷ xs) x there = which (cases y xs x there) (λ rest. mapped f xs x rest)
  where
    which : (y ≡ x) ⊎ Contains xs x → (Contains xs x → Contains (each f xs) (f x)) → Contains (f y ∷ each f xs) (f x)
    which (inl same) later = subst (λ (z : B). Contains (f y ∷ each f xs) z) (ap f same) (head (f y) (each f xs))
    which (inr rest) later = behind (f y) (each f xs) (f x) (later rest)

pub record Preimage {A B : Type 0} (f : A → B) (xs : List A) (y : B) : Type 0 where
  pub origin : A
  pub listed : Contains xs origin
  pub is : f origin ≡ y

pub unmapped : {A B : Type 0} (f : A → B) (xs : List A) (y : B) → Contains (each f xs) y → Preimage f xs y
unmapped f [] y there = absurd (none y there)
unmapped f (x ∷ xs) y there = which (cases (f x) (each f xs) y there) (λ rest. unmapped f xs y rest)
  where
    which : (f x ≡ y) ⊎ Contains (each f xs) y → (Contains (each f xs) y → Preimage f xs y) → Preimage f (x ∷ xs) y
    which (inl same) later = record { origin = x; listed = head x xs; is = same }
    which (inr rest) later = let found = later rest in record { origin = found.origin; listed = behind x xs found.origin found.listed; is = found.is }

-- a full list of different variants with one more is no list of few
pub too_many : (xs : List Labels) (x : Labels) (among : Labels → Type 0) → AreDistinct xs → (Contains xs x → ⊥) → most_variants ≤ length xs
    → ((v : Labels) → Contains xs v → among v) → among x → AreFew among → ⊥
too_many xs x among distinct new full all one few =
    let within : length (xs ++ x ∷ []) ≤ length few.all = no_more (xs ++ x ∷ []) few.all (distinct_push xs x distinct new)
    (λ v there. few.listed v (which v (Contains-append_cases xs (x ∷ []) v there))) in
    absurd (omega (arith, within, few.few, full, length-append xs (x ∷ [])))
  where
    last : (v : Labels) → (x ≡ v) ⊎ Contains [] v → among v
    last v (inl same) = subst among same one
    last v (inr nothing) = absurd (none v nothing)

    which : (v : Labels) → Contains xs v ⊎ Contains (x ∷ []) v → among v
    which v (inl front) = all v front
    which v (inr back) = last v (cases x [] v back)
