-- The child of a key among children with different keys.
use Rattle.std.proofs.Common.{◌≡◌, ℕ, zero, suc, ◌+◌, Bool, true, false, cond, List, [], ◌∷◌, map, refl, sym, ap, subst, ◌∙◌, arith, true≢false}
use Rattle.std.specs.Prelude.{slice_get, Option, None, Some, unwrap_or}
use Rattle.std.specs.List.{position_from}
use Rattle.std.proofs.lemmas.Bool.{false≢true}
use Rattle.sn_streams.specs.Keys.{AreDistinct, Key, is_among, key_eq}
use Rattle.sn_streams.proofs.Keys.{same_key}
use Rattle.sn_view.specs.Next.{has_key}
use Rattle.sn_view.specs.View.{Child}
use Rattle.sn_node.specs.States.{has_key_at}

-- where no child is found, none has the key
pub none_has_key : (k : Key) (i : ℕ) (children : List Child) → position_from (has_key k) i children ≡ None → (c : ℕ) → has_key_at k (slice_get children c) ≡ false
none_has_key k i [] none c = refl
none_has_key k i (x ∷ children) none zero = at (has_key k x) none
  where
    at : (b : Bool) → cond b (Some i) (position_from (has_key k) (i + 1) children) ≡ None → b ≡ false
    at false none = refl
    at true none = absurd (cc)
none_has_key k i (x ∷ children) none (suc c) = none_has_key k (i + 1) children (at (has_key k x) none) c
  where
    at : (b : Bool) → cond b (Some i) (position_from (has_key k) (i + 1) children) ≡ None → position_from (has_key k) (i + 1) children ≡ None
    at false none = none
    at true none = absurd (cc)

-- a child that is found has the key
found_after : (k : Key) (i j : ℕ) (children : List Child) → position_from (has_key k) i children ≡ Some j → (c : ℕ) × (j ≡ i + c) × (has_key_at k (slice_get children c) ≡ true)
found_after k i j [] is = absurd (cc)
found_after k i j (x ∷ children) is = at (has_key k x) refl is (λ later. found_after k (i + 1) j children later)
  where
    at : (b : Bool) → has_key k x ≡ b → cond b (Some i) (position_from (has_key k) (i + 1) children) ≡ Some j
        → (position_from (has_key k) (i + 1) children ≡ Some j → (c : ℕ) × (j ≡ i + 1 + c) × (has_key_at k (slice_get children c) ≡ true))
        → (c : ℕ) × (j ≡ i + c) × (has_key_at k (slice_get (x ∷ children) c) ≡ true)
    at true e is later = let number : Option ℕ → ℕ = λ o. unwrap_or o i in (0, sym (ap number is) ∙ omega arith, e)
    at false e is later = let r = later is in (suc r.0, omega (arith, r.1), r.2)

pub found_has_key : (k : Key) (c : ℕ) (children : List Child) → position_from (has_key k) 0 children ≡ Some c → has_key_at k (slice_get children c) ≡ true
found_has_key k c children is =
    let r = found_after k 0 c children is in
    let same : r.0 ≡ c = omega (arith, r.1) in
    subst (λ d. has_key_at k (slice_get children d) ≡ true) same r.2

is_there : (k : Key) (children : List Child) (c : ℕ) → has_key_at k (slice_get children c) ≡ true → is_among k (map (λ (child : Child). child.key) children) ≡ true
is_there k [] c is = absurd (false≢true is)
is_there k (x ∷ children) zero is = ap (λ b. cond b true (is_among k (map (λ (child : Child). child.key) children))) is
is_there k (x ∷ children) (suc c) is = at (key_eq k x.key) (is_there k children c is)
  where
    at : (b : Bool) → is_among k (map (λ (child : Child). child.key) children) ≡ true → cond b true (is_among k (map (λ (child : Child). child.key) children)) ≡ true
    at true later = refl
    at false later = later

twice : (k : Key) (x : Child) (children : List Child) (c : ℕ) → is_among x.key (map (λ (child : Child). child.key) children) ≡ false
    → key_eq k x.key ≡ true → has_key_at k (slice_get children c) ≡ true → ⊥
twice k x children c other here there =
    true≢false (sym (is_there x.key children c (subst (λ j. has_key_at j (slice_get children c) ≡ true) (same_key k x.key here) there)) ∙ other)

-- no other has it where keys differ
pub same_place : (k : Key) (children : List Child) (c d : ℕ) → AreDistinct (map (λ (child : Child). child.key) children)
    → has_key_at k (slice_get children c) ≡ true → has_key_at k (slice_get children d) ≡ true → c ≡ d
same_place k [] c d distinct one two = absurd (false≢true one)
same_place k (x ∷ children) zero zero distinct one two = refl
same_place k (x ∷ children) zero (suc d) distinct one two = absurd (twice k x children d distinct.0 one two)
same_place k (x ∷ children) (suc c) zero distinct one two = absurd (twice k x children c distinct.0 two one)
same_place k (x ∷ children) (suc c) (suc d) distinct one two = ap suc (same_place k children c d distinct.1 one two)
