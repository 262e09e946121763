-- The table of replicas: what it finds, and that it stays exact.
use Rattle.std.proofs.Common.{◌≡◌, ℕ, zero, suc, ◌+◌, Bool, true, false, cond, List, [], ◌∷◌, ◌++◌, map, set, length, Option, Some, None, arith, refl, sym, ap, ◌∙◌}
use Rattle.std.specs.Prelude.{ℤ, IfSome, slice_get}
use Rattle.std.specs.List.{All, position_from}
use Rattle.std.specs.Option.{option_or}
use Rattle.std.specs.Ordering.{int_eq}
use Rattle.std.proofs.lemmas.Bool.{false≢true}
use Rattle.std.proofs.lemmas.List.Elements.{All-cons, All-nil}
use Rattle.std.proofs.lemmas.Option.{none-some, same_Some}
use mathlib.Core.List.{map-append}
use Rattle.indexmap.specs.IndexMap.{IndexMap, get}
use Rattle.sn_streams.specs.Keys.{Key, Value, is_among, key_eq}
use Rattle.sn_streams.proofs.Keys.{key_eq-refl, same_key}
use Rattle.sn_net.specs.Dispatchers.{stream_key}
use Rattle.sn_net.specs.declared.routing.Key.TheVariants as net_key
use Rattle.sn_node.specs.Children.{found_with}
use Rattle.sn_node.proofs.Numbers.{position_push}
use Rattle.sn_fork.specs.declared.fork.Child.{Child}
use Rattle.sn_fork.specs.Fork.{child_seen}
use Rattle.sn_fork.specs.Seen.{ChildSeen, keys_of}
use Rattle.sn_fork.specs.Table.{AreKeyed, number_in}
use Rattle.sn_fork.specs.Turns.{without_held}
use Rattle.sn_fork.proofs.OneChild.{value_key}

-- what is found is a child of the key
record FoundAt (xs : List Child) (k : Key) (i j : ℕ) : Type 0 where
  at : ℕ
  behind : j ≡ i + at
  child : Child
  there : slice_get xs at ≡ Some child
  same : stream_key child.key ≡ k

found_from : (xs : List Child) (k : Key) (i j : ℕ) → position_from (key_eq k) i (keys_of (map child_seen xs)) ≡ Some j → FoundAt xs k i j
found_from [] k i j is = absurd (none-some j is)
found_from (x ∷ xs) k i j is = at (key_eq k (stream_key x.key)) refl is (found_from xs k (i + 1) j)
  where
    at : (b : Bool) → key_eq k (stream_key x.key) ≡ b → cond b (Some i) (position_from (key_eq k) (i + 1) (keys_of (map child_seen xs))) ≡ Some j
        → (position_from (key_eq k) (i + 1) (keys_of (map child_seen xs)) ≡ Some j → FoundAt xs k (i + 1) j) → FoundAt (x ∷ xs) k i j
    at true e is rest = record { at = 0; behind = sym (same_Some i j is) ∙ omega arith; child = x; there = refl; same = sym (same_key k (stream_key x.key) e) }
    at false e is rest =
        let further = rest is in
        record { at = suc further.at; behind = further.behind ∙ omega arith; child = further.child; there = further.there; same = further.same }

pub replica_found : {S : Type 0} (xs : List Child) (replicas : IndexMap ℤ ℕ S) (n : ℤ) (o : Option ℕ) → AreKeyed (map child_seen xs) replicas → o ≡ get int_eq replicas n
    → IfSome o (λ c. (child : Child) × (slice_get xs c ≡ Some child) × (child.key ≡ net_key.Value n))
replica_found xs replicas n None keyed is = tt
replica_found xs replicas n (Some j) keyed is =
    let found = found_from xs (Value n) 0 j (sym (is ∙ keyed n)) in
    let here : j ≡ found.at = found.behind ∙ omega arith in
    (found.child, ap (slice_get xs) here ∙ found.there, value_key found.child.key n found.same)

-- where nothing is found, no child has the key
none_from : (xs : List Child) (n : ℤ) (i : ℕ) → position_from (key_eq (Value n)) i (keys_of (map child_seen xs)) ≡ None → All (λ (child : Child). child.key ≡ net_key.Value n → ⊥) xs
none_from [] n i is = All-nil (λ (child : Child). child.key ≡ net_key.Value n → ⊥)
none_from (x ∷ xs) n i is = at (key_eq (Value n) (stream_key x.key)) refl is (none_from xs n (i + 1))
  where
    at : (b : Bool) → key_eq (Value n) (stream_key x.key) ≡ b → cond b (Some i) (position_from (key_eq (Value n)) (i + 1) (keys_of (map child_seen xs))) ≡ None
        → (position_from (key_eq (Value n)) (i + 1) (keys_of (map child_seen xs)) ≡ None → All (λ (child : Child). child.key ≡ net_key.Value n → ⊥) xs)
        → All (λ (child : Child). child.key ≡ net_key.Value n → ⊥) (x ∷ xs)
    at true e is rest = absurd (none-some i (sym is))
    at false e is rest =
        All-cons (λ (child : Child). child.key ≡ net_key.Value n → ⊥) x xs
        (λ same. false≢true (sym e ∙ ap (λ k. key_eq (Value n) (stream_key k)) same ∙ key_eq-refl (Value n))) (rest is)

pub replica_none : {S : Type 0} (xs : List Child) (replicas : IndexMap ℤ ℕ S) (n : ℤ) (o : Option ℕ) → AreKeyed (map child_seen xs) replicas → o ≡ get int_eq replicas n
    → o ≡ None → All (λ (child : Child). child.key ≡ net_key.Value n → ⊥) xs
replica_none xs replicas n o keyed is none = none_from xs n 0 (sym (is ∙ keyed n) ∙ none)

-- the keys stay while other things of children change
pub keys_kept : (xs : List Child) (n : ℕ) (x y : Child) → slice_get xs n ≡ Some x → stream_key y.key ≡ stream_key x.key → keys_of (map child_seen (set xs n y)) ≡ keys_of (map child_seen xs)
keys_kept [] n x y at same = absurd (none-some x at)
keys_kept (z ∷ xs) zero x y at same = ap (λ k. k ∷ keys_of (map child_seen xs)) (same ∙ ap (λ (c : Child). stream_key c.key) (sym (same_Some z x at)))
keys_kept (z ∷ xs) (suc n) x y at same = ap (λ l. stream_key z.key ∷ l) (keys_kept xs n x y at same)

keys_without : (cs : List ChildSeen) → keys_of (map without_held cs) ≡ keys_of cs
keys_without [] = refl
keys_without (c ∷ cs) = ap (λ l. c.key ∷ l) (keys_without cs)

pub keys_held : (before now : List ChildSeen) → map without_held now ≡ map without_held before → keys_of now ≡ keys_of before
keys_held before now held = sym (keys_without now) ∙ ap keys_of held ∙ keys_without before

pub keyed_still : {S : Type 0} (before now : List ChildSeen) (replicas : IndexMap ℤ ℕ S) → keys_of now ≡ keys_of before → AreKeyed before replicas → AreKeyed now replicas
keyed_still before now replicas same keyed v = keyed v ∙ ap (λ keys. number_in keys (Value v)) (sym same)

-- no child is there of a key that isn't among theirs
none_among : (keys : List Key) (k : Key) (i : ℕ) → is_among k keys ≡ false → position_from (key_eq k) i keys ≡ None
none_among [] k i none = refl
none_among (j ∷ keys) k i none = at (key_eq k j) none (none_among keys k (i + 1))
  where
    at : (b : Bool) → cond b true (is_among k keys) ≡ false → (is_among k keys ≡ false → position_from (key_eq k) (i + 1) keys ≡ None)
        → cond b (Some i) (position_from (key_eq k) (i + 1) keys) ≡ None
    at true is rest = absurd (false≢true (sym is))
    at false is rest = rest is

pub keyed_first : {S : Type 0} (children : List ChildSeen) (replicas : IndexMap ℤ ℕ S) → ((v : ℤ) → get int_eq replicas v ≡ None) → ((v : ℤ) → is_among (Value v) (keys_of children) ≡ false)
    → AreKeyed children replicas
keyed_first children replicas empty none v = empty v ∙ sym (none_among (keys_of children) (Value v) 0 (none v))

-- one child more
none_is_no_more : (o : Option ℕ) → option_or o None ≡ o
none_is_no_more None = refl
none_is_no_more (Some j) = refl

found_more : (keys : List Key) (k : Key) (v : ℤ) → number_in keys k ≡ None → found_with k (length keys) v (number_in keys (Value v)) ≡ number_in (keys ++ k ∷ []) (Value v)
found_more keys k v new = by (key_eq (Value v) k) refl ∙ sym (position_push (key_eq (Value v)) keys 0 k ∙ ap (λ n. option_or (number_in keys (Value v)) (cond (key_eq (Value v) k) (Some n) None)) (omega arith))
  where
    by : (b : Bool) → key_eq (Value v) k ≡ b → cond b (Some (length keys)) (number_in keys (Value v)) ≡ option_or (number_in keys (Value v)) (cond b (Some (length keys)) None)
    by true same = ap (λ o. option_or o (Some (length keys))) (sym (ap (number_in keys) (same_key (Value v) k same) ∙ new))
    by false other = sym (none_is_no_more (number_in keys (Value v)))

keys_many : (cs : List ChildSeen) → length (keys_of cs) ≡ length cs
keys_many [] = refl
keys_many (c ∷ cs) = ap suc (keys_many cs)

pub keyed_more : {S : Type 0} (before now : List ChildSeen) (child : ChildSeen) (old new : IndexMap ℤ ℕ S) (number : ℕ) → now ≡ before ++ child ∷ [] → number ≡ length before
    → is_among child.key (keys_of before) ≡ false → ((v : ℤ) → get int_eq new v ≡ found_with child.key number v (get int_eq old v)) → AreKeyed before old → AreKeyed now new
keyed_more before now child old new number is last fresh entered keyed v =
    entered v ∙ ap (found_with child.key number v) (keyed v)
    ∙ ap (λ n. found_with child.key n v (number_in (keys_of before) (Value v))) (last ∙ sym (keys_many before))
    ∙ found_more (keys_of before) child.key v (none_among (keys_of before) child.key 0 fresh)
    ∙ ap (λ keys. number_in keys (Value v)) (sym (ap keys_of is ∙ map-append (λ (c : ChildSeen). c.key) before (child ∷ [])))
