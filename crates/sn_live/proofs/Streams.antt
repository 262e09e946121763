-- Carrying, and machines over what is carried.
use Rattle.std.proofs.Common.{◌≡◌, ℕ, zero, suc, ◌+◌, Bool, true, false, cond, List, [], ◌∷◌, ◌++◌, map, length, refl, sym, ap, ◌∙◌, arith, zero-add, subst}
use Rattle.sn_streams.specs.Forks.{Router, items_of, by_segment}
use Rattle.sn_streams.specs.Keys.{Key, key_eq}
use Rattle.sn_streams.specs.Machines.{Machine, emitted, after, transduced}
use Rattle.sn_streams.specs.Segments.{Segments, joined, first_segment, other_segments}
use Rattle.sn_streams.proofs.Keys.{same_key}
use Rattle.sn_live.specs.Entries.{Entry, It, Mark, push, carry, items, IsOpen, apart, pad, count, Silent}
use Rattle.sn_live.specs.Parts.{keys, key_of, group_for, share_for, served, unserved, taken, by_keys}

module _ {A : Type 0} where
  pub carry-append : (a b : List (Entry A)) (xss : Segments A) → carry (a ++ b) xss ≡ carry a (carry b xss)
  carry-append [] b xss = refl
  carry-append (It x ∷ a) b xss = ap (push x) (carry-append a b xss)
  carry-append (Mark ∷ a) b xss = ap (λ (q : Segments A). [] ∷ q) (carry-append a b xss)

  pub push-open : (x : A) (xss : Segments A) → IsOpen xss → IsOpen (push x xss)
  push-open x [] o = o
  push-open x (xs ∷ xss) o = tt

  pub carry-open : (w : List (Entry A)) (xss : Segments A) → IsOpen xss → IsOpen (carry w xss)
  carry-open [] xss o = o
  carry-open (It x ∷ w) xss o = push-open x (carry w xss) (carry-open w xss o)
  carry-open (Mark ∷ w) xss o = tt

  pub apart-open : (xs : List A) → IsOpen (apart xs)
  apart-open [] = tt
  apart-open (x ∷ xs) = tt

  push-items : (xs ys : List A) (yss : Segments A) → carry (items xs) (ys ∷ yss) ≡ (xs ++ ys) ∷ yss
  push-items [] ys yss = refl
  push-items (x ∷ xs) ys yss = ap (push x) (push-items xs ys yss)

  push-none : (xs : List A) → carry (items xs) [] ≡ []
  push-none [] = refl
  push-none (x ∷ xs) = ap (push x) (push-none xs)

  pub count-append : (a b : List (Entry A)) → count (a ++ b) ≡ count a + count b
  count-append [] b = sym (zero-add (count b))
  count-append (It x ∷ a) b = count-append a b
  count-append (Mark ∷ a) b = let h : count (a ++ b) ≡ count a + count b = count-append a b in omega arith

  length-push : (x : A) (xss : Segments A) → length (push x xss) ≡ length xss
  length-push x [] = refl
  length-push x (xs ∷ xss) = refl

  pub length-carry : (w : List (Entry A)) (xss : Segments A) → length (carry w xss) ≡ count w + length xss
  length-carry [] xss = sym (zero-add (length xss))
  length-carry (It x ∷ w) xss = length-push x (carry w xss) ∙ length-carry w xss
  length-carry (Mark ∷ w) xss = let h : length (carry w xss) ≡ count w + length xss = length-carry w xss in omega arith

  pub length-pad : (n : ℕ) (z : Segments A) → length (pad n z) ≡ n + length z
  length-pad zero z = sym (zero-add (length z))
  length-pad (suc n) z = let h : length (pad n z) ≡ n + length z = length-pad n z in omega arith

  pub count-items : (xs : List A) → count (items xs) ≡ 0
  count-items [] = refl
  count-items (x ∷ xs) = count-items xs

  pub items-append : (a b : List A) → items (a ++ b) ≡ items a ++ items b
  items-append [] b = refl
  items-append (x ∷ a) b = ap (λ (q : List (Entry A)). It x ∷ q) (items-append a b)

  pub pad-suc : (n : ℕ) (z : Segments A) → pad n ([] ∷ z) ≡ pad (suc n) z
  pad-suc zero z = refl
  pad-suc (suc n) z = ap (λ (q : Segments A). [] ∷ q) (pad-suc n z)

  pub pad-open : (n : ℕ) (z : Segments A) → IsOpen z → IsOpen (pad n z)
  pad-open zero z o = o
  pad-open (suc n) z o = tt

  pub pad-silent : (n : ℕ) (z : Segments A) → Silent z → Silent (pad n z)
  pad-silent zero z h = h
  pad-silent (suc n) z h = (refl, pad-silent n z h)

module _ {A S : Type 0} (m : Machine A S) where
  pub transduced-push : (s : S) (x : A) (xss : Segments A) → transduced m s (push x xss) ≡ carry (items (m.emits s x)) (transduced m (m.next s x) xss)
  transduced-push s x [] = sym (push-none (m.emits s x))
  transduced-push s x (xs ∷ xss) = sym (push-items (m.emits s x) (emitted m (m.next s x) xs) (transduced m (after m (m.next s x) xs) xss))

  pub transduced-open : (s : S) (xss : Segments A) → IsOpen xss → IsOpen (transduced m s xss)
  transduced-open s [] o = o
  transduced-open s (xs ∷ xss) o = tt

  pub transduced-silent : (s : S) (xss : Segments A) → Silent xss → Silent (transduced m s xss)
  transduced-silent s [] h = tt
  transduced-silent s (xs ∷ xss) (h, k) = (ap (emitted m s) h, transduced-silent (after m s xs) xss k)

-- what is served by keys
module _ {A : Type 0} where
  pub by_keys-push : (z : Key → Segments A) (k : Key) (kss : List (List Key)) → by_keys z (push k kss) ≡ carry (items (first_segment (z k))) (by_keys (taken z k) kss)
  by_keys-push z k [] = sym (push-none (first_segment (z k)))
  by_keys-push z k (ks ∷ kss) = sym (push-items (first_segment (z k)) (served (taken z k) ks) (by_keys (unserved (taken z k) ks) kss))

  pub by_keys-open : (z : Key → Segments A) (kss : List (List Key)) → IsOpen kss → IsOpen (by_keys z kss)
  by_keys-open z [] o = o
  by_keys-open z (ks ∷ kss) o = tt

  pub length-by_keys : (z : Key → Segments A) (kss : List (List Key)) → length (by_keys z kss) ≡ length kss
  length-by_keys z [] = refl
  length-by_keys z (ks ∷ kss) = ap suc (length-by_keys (unserved z ks) kss)

  pub by_keys-silent : (r : Router A) (z : Key → Segments A) (xss : Segments A) → Silent xss → Silent (by_keys z (keys r xss))
  by_keys-silent r z [] h = tt
  by_keys-silent r z (xs ∷ xss) (h, k) = (ap (λ (q : List A). served z (map r.key q)) h, by_keys-silent r (unserved z (map r.key xs)) xss k)

  pub joined-push : (x : A) (xss : Segments A) → IsOpen xss → joined (push x xss) ≡ x ∷ joined xss
  joined-push x [] o = absurd o
  joined-push x (xs ∷ xss) o = refl

  pub keys-push : (r : Router A) (x : A) (xss : Segments A) → keys r (push x xss) ≡ push (r.key x) (keys r xss)
  keys-push r x [] = refl
  keys-push r x (xs ∷ xss) = refl

  pub keys-open : (r : Router A) (xss : Segments A) → IsOpen xss → IsOpen (keys r xss)
  keys-open r [] o = o
  keys-open r (xs ∷ xss) o = tt

  pub length-keys : (r : Router A) (xss : Segments A) → length (keys r xss) ≡ length xss
  length-keys r [] = refl
  length-keys r (xs ∷ xss) = ap suc (length-keys r xss)

  -- what the waiting entry adds for the decisions, and for a child
  pub keys-carry : (r : Router A) (e : Entry A) (xss : Segments A) → keys r (carry (e ∷ []) xss) ≡ carry (key_of r e ∷ []) (keys r xss)
  keys-carry r (It x) xss = keys-push r x xss
  keys-carry r Mark xss = refl

  pub apart-carry : (r : Router A) (k : Key) (e : Entry A) (xss : Segments A) → IsOpen xss
      → apart (items_of r k (joined (carry (e ∷ []) xss))) ≡ carry (group_for r k e) (apart (items_of r k (joined xss)))
  apart-carry r k (It x) xss o =
      ap (λ (q : List A). apart (items_of r k q)) (joined-push x xss o) ∙ at (key_eq k (r.key x)) (items_of r k (joined xss))
    where
      at : (b : Bool) (q : List A) → apart (cond b (x ∷ q) q) ≡ carry (cond b (It x ∷ Mark ∷ []) []) (apart q)
      at true q = refl
      at false q = refl
  apart-carry r k Mark xss o = refl

  -- an item in front of the group that is served comes out first
  pub first-push : (y : A) (z : Segments A) → IsOpen z → first_segment (push y z) ≡ y ∷ first_segment z
  first-push y [] o = absurd o
  first-push y (s ∷ z) o = refl

  pub other-push : (y : A) (z : Segments A) → other_segments (push y z) ≡ other_segments z
  other-push y [] = refl
  other-push y (s ∷ z) = refl

  pub by_segment-carry : (r : Router A) (k : Key) (e : Entry A) (xss : Segments A)
      → by_segment r k (carry (e ∷ []) xss) ≡ carry (share_for r k e) (by_segment r k xss)
  by_segment-carry r k (It x) [] = at (key_eq k (r.key x))
    where
      at : (b : Bool) → [] ≡ carry (cond b (It x ∷ []) []) []
      at true = refl
      at false = refl
  by_segment-carry r k (It x) (xs ∷ xss) = at (key_eq k (r.key x)) (items_of r k xs) (by_segment r k xss)
    where
      at : (b : Bool) (q : List A) (qs : Segments A) → cond b (x ∷ q) q ∷ qs ≡ carry (cond b (It x ∷ []) []) (q ∷ qs)
      at true q qs = refl
      at false q qs = refl
  by_segment-carry r k Mark xss = refl

  pub by_segment-open : (r : Router A) (k : Key) (xss : Segments A) → IsOpen xss → IsOpen (by_segment r k xss)
  by_segment-open r k [] o = o
  by_segment-open r k (xs ∷ xss) o = tt

  pub by_segment-silent : (r : Router A) (k : Key) (xss : Segments A) → Silent xss → Silent (by_segment r k xss)
  by_segment-silent r k [] h = tt
  by_segment-silent r k (xs ∷ xss) (h, g) = (ap (items_of r k) h, by_segment-silent r k xss g)

  pub length-by_segment : (r : Router A) (k : Key) (xss : Segments A) → length (by_segment r k xss) ≡ length xss
  length-by_segment r k [] = refl
  length-by_segment r k (xs ∷ xss) = ap suc (length-by_segment r k xss)

-- a fact of k and of each other key is one of all keys
pub by_key : (P : Key → Type 0) (k : Key) → P k → ((j : Key) → key_eq j k ≡ false → P j) → (j : Key) → P j
by_key P k h others j = at (key_eq j k) refl
  where
    at : (b : Bool) → key_eq j k ≡ b → P j
    at true t = subst P (sym (same_key j k t)) h
    at false t = others j t

pub cond-same : {A : Type 0} (b : Bool) (x x' y y' : A) → (b ≡ true → x ≡ x') → (b ≡ false → y ≡ y') → cond b x y ≡ cond b x' y'
cond-same true x x' y y' h k = h refl
cond-same false x x' y y' h k = k refl
