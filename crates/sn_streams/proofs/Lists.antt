-- A shuffle of one list for each key is a shuffle of the lists of some keys.
use Rattle.std.proofs.Common.{◌≡◌, Bool, true, false, cond, List, [], ◌∷◌, ◌++◌, map, refl, sym, ap, ap₂, ◌∙◌, subst}
use Rattle.std.proofs.lemmas.List.{map-append}
use Rattle.sn_streams.specs.Keys.{Key, key_eq, replaced_at, is_among, AreDistinct}
use Rattle.sn_streams.specs.Shuffles.{AllEmpty, Shuffle, ShuffleByKey}
use Rattle.sn_streams.proofs.Keys.{key_eq-refl, same_key}

pub either_first : (a b : Bool) → cond a true b ≡ false → a ≡ false
either_first true b e = cc
either_first false b e = refl

pub either_second : (a b : Bool) → cond a true b ≡ false → b ≡ false
either_second true b e = cc
either_second false b e = e

pub either : (a b : Bool) → b ≡ true → cond a true b ≡ true
either true b e = refl
either false b e = e

-- A key that is among distinct keys splits them, and stands on neither side.
record Around (k : Key) (keys : List Key) : Type 0 where
  before : List Key
  behind : List Key
  whole : keys ≡ before ++ (k ∷ behind)
  not_before : is_among k before ≡ false
  not_behind : is_among k behind ≡ false

around : (k : Key) (keys : List Key) → AreDistinct keys → is_among k keys ≡ true → Around k keys
around k [] distinct e = cc
around k (j ∷ keys) (new, distinct) e = at (key_eq k j) refl (λ among. around k keys distinct among)
  where
    at : (b : Bool) → key_eq k j ≡ b → (is_among k keys ≡ true → Around k keys) → Around k (j ∷ keys)
    at true is later =
        let same : k ≡ j = same_key k j is in
        record {
          before = [];
          behind = keys;
          whole = ap (λ (i : Key). i ∷ keys) (sym same);
          not_before = refl;
          not_behind = subst (λ (i : Key). is_among i keys ≡ false) (sym same) new;
        }
    at false is later =
        let found : Around k keys = later (sym (ap (λ b. cond b true (is_among k keys)) is) ∙ e) in
        record {
          before = j ∷ found.before;
          behind = found.behind;
          whole = ap (λ (is : List Key). j ∷ is) found.whole;
          not_before = ap (λ b. cond b true (is_among k found.before)) is ∙ found.not_before;
          not_behind = found.not_behind;
        }

module _ {A : Type 0} where
  all_empty : (f : Key → List A) (keys : List Key) → ((k : Key) → f k ≡ []) → AllEmpty (map f keys)
  all_empty f [] none = tt
  all_empty f (k ∷ keys) none = (none k, all_empty f keys none)

  -- What stands at other keys is not replaced.
  map-replaced_at : (f : Key → List A) (k : Key) (list : List A) (keys : List Key) → is_among k keys ≡ false → map (replaced_at f k list) keys ≡ map f keys
  map-replaced_at f k list [] e = refl
  map-replaced_at f k list (j ∷ keys) e =
      ap₂ (λ us uss. us ∷ uss)
      (ap (λ b. cond b list (f j)) (turned j (either_first (key_eq k j) (is_among k keys) e)))
      (map-replaced_at f k list keys (either_second (key_eq k j) (is_among k keys) e))
    where
      turned : (i : Key) → key_eq k i ≡ false → key_eq i k ≡ false
      turned i differs = at (key_eq i k) refl
        where
          at : (b : Bool) → key_eq i k ≡ b → b ≡ false
          at false is = refl
          at true is = sym (key_eq-refl k) ∙ subst (λ (q : Key). key_eq k q ≡ false) (same_key i k is) differs

  parts : (f : Key → List A) (k : Key) (keys : List Key) (found : Around k keys) → map f keys ≡ map f found.before ++ (f k ∷ map f found.behind)
  parts f k keys found = ap (map f) found.whole ∙ map-append f found.before (k ∷ found.behind)

  replaced_parts : (f : Key → List A) (k : Key) (list : List A) (keys : List Key) (found : Around k keys)
      → map (replaced_at f k list) keys ≡ map f found.before ++ (list ∷ map f found.behind)
  replaced_parts f k list keys found =
      parts (replaced_at f k list) k keys found
      ∙ ap₂ (λ uss vss. uss ++ vss) (map-replaced_at f k list found.before found.not_before)
      (ap₂ (λ us uss. us ∷ uss) (ap (λ b. cond b list (f k)) (key_eq-refl k)) (map-replaced_at f k list found.behind found.not_behind))

  abbrev OthersEmpty : (f : Key → List A) → List Key → Type 0
  OthersEmpty f keys = (k : Key) → is_among k keys ≡ false → f k ≡ []

  still_empty : (f : Key → List A) (k : Key) (list : List A) (keys : List Key) → OthersEmpty f keys → is_among k keys ≡ true → OthersEmpty (replaced_at f k list) keys
  still_empty f k list keys none among j e = at (key_eq j k) refl
    where
      impossible : true ≡ false → ⊥
      impossible e = cc

      at : (b : Bool) → key_eq j k ≡ b → cond b list (f j) ≡ []
      at false is = none j e
      at true is = absurd (impossible (sym among ∙ subst (λ (q : Key). is_among q keys ≡ false) (same_key j k is) e))

  pub to_lists : (ys : List A) (f : Key → List A) (keys : List Key) → AreDistinct keys → OthersEmpty f keys → ShuffleByKey ys f → Shuffle ys (map f keys)
  to_lists [] f keys distinct none shuffle = all_empty f keys shuffle
  to_lists (y ∷ ys) f keys distinct none (k, tail, is, shuffle) =
      at (is_among k keys) refl (λ among. to_lists ys (replaced_at f k tail) keys distinct (still_empty f k tail keys none among) shuffle)
    where
      impossible : y ∷ tail ≡ [] → ⊥
      impossible e = cc

      at : (b : Bool) → is_among k keys ≡ b → (is_among k keys ≡ true → Shuffle ys (map (replaced_at f k tail) keys)) → Shuffle (y ∷ ys) (map f keys)
      at false e later = absurd (impossible (sym is ∙ none k e))
      at true e later =
          let found : Around k keys = around k keys distinct e in (
            map f found.before,
            tail,
            map f found.behind,
            parts f k keys found ∙ ap (λ us. map f found.before ++ (us ∷ map f found.behind)) is,
            subst (λ (uss : List (List A)). Shuffle ys uss) (replaced_parts f k tail keys found) (later e),
          )

  -- The key of a list among those of the keys.
  record KeyOf (f : Key → List A) (keys : List Key) (before : List (List A)) (list : List A) (behind : List (List A)) : Type 0 where
    key : Key
    at_key : f key ≡ list
    among : is_among key keys ≡ true
    replaced : (other : List A) → map (replaced_at f key other) keys ≡ before ++ (other ∷ behind)

  key_of : (f : Key → List A) (keys : List Key) → AreDistinct keys → (before : List (List A)) (list : List A) (behind : List (List A))
      → map f keys ≡ before ++ (list ∷ behind) → KeyOf f keys before list behind
  key_of f [] distinct [] list behind e = cc
  key_of f [] distinct (us ∷ before) list behind e = cc
  key_of f (k ∷ keys) (new, distinct) [] list behind e = record {
    key = k;
    at_key = cc;
    among = ap (λ b. cond b true (is_among k keys)) (key_eq-refl k);
    replaced = λ other.
        ap₂ (λ us uss. us ∷ uss) (ap (λ b. cond b other (f k)) (key_eq-refl k))
        (map-replaced_at f k other keys new ∙ (let rest : map f keys ≡ behind = cc in rest));
  }
  key_of f (k ∷ keys) (new, distinct) (us ∷ before) list behind e =
      let found : KeyOf f keys before list behind = key_of f keys distinct before list behind (let rest : map f keys ≡ before ++ (list ∷ behind) = cc in rest) in
      record {
        key = found.key;
        at_key = found.at_key;
        among = either (key_eq found.key k) (is_among found.key keys) found.among;
        replaced = λ other.
            ap₂ (λ vs vss. vs ∷ vss)
            (ap (λ b. cond b other (f k)) (differs (key_eq k found.key) found.key refl found.among) ∙ (let first : f k ≡ us = cc in first))
            (found.replaced other);
      }
    where
      differs : (b : Bool) (j : Key) → key_eq k j ≡ b → is_among j keys ≡ true → b ≡ false
      differs false j is among = refl
      differs true j is among = sym among ∙ subst (λ (q : Key). is_among q keys ≡ false) (same_key k j is) new

  empty_at : (f : Key → List A) (keys : List Key) → AllEmpty (map f keys) → (k : Key) → is_among k keys ≡ true → f k ≡ []
  empty_at f [] none k e = cc
  empty_at f (j ∷ keys) (first, none) k e = at (key_eq k j) refl (empty_at f keys none k)
    where
      at : (b : Bool) → key_eq k j ≡ b → (is_among k keys ≡ true → f k ≡ []) → f k ≡ []
      at true is later = ap f (same_key k j is) ∙ first
      at false is later = later (sym (ap (λ b. cond b true (is_among k keys)) is) ∙ e)

  pub from_lists : (ys : List A) (f : Key → List A) (keys : List Key) → AreDistinct keys → OthersEmpty f keys → Shuffle ys (map f keys) → ShuffleByKey ys f
  from_lists [] f keys distinct none empty = λ k. at k (is_among k keys) refl
    where
      at : (k : Key) (b : Bool) → is_among k keys ≡ b → f k ≡ []
      at k true e = empty_at f keys empty k e
      at k false e = none k e
  from_lists (y ∷ ys) f keys distinct none (before, tail, behind, are, shuffle) =
      let found : KeyOf f keys before (y ∷ tail) behind = key_of f keys distinct before (y ∷ tail) behind are in (
        found.key,
        tail,
        found.at_key,
        from_lists ys (replaced_at f found.key tail) keys distinct (still_empty f found.key tail keys none found.among)
            (subst (λ (uss : List (List A)). Shuffle ys uss) (sym (found.replaced tail)) shuffle),
      )
