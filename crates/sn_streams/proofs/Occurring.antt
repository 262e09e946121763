-- To speak of all children is to speak of those that get items.
use Rattle.std.proofs.Common.{◌≡◌, ℕ, Bool, true, false, cond, List, [], ◌∷◌, ◌++◌, map, get_or, length, refl, sym, ap, ap₂, ◌∙◌, subst, subst₂}
use Rattle.std.proofs.Math.ListN.{length-map}
use Rattle.sn_streams.specs.Forks.{Router, items_of, by_segment, by_item, in_turn, Free, Deterministic}
use Rattle.sn_streams.specs.Keys.{Key, key_eq, is_among, AreDistinct}
use Rattle.sn_streams.specs.Machines.{emitted, after, transduced}
use Rattle.sn_streams.specs.Occurring.{keys_of, keys_in, AllowsOccurring}
use Rattle.sn_streams.specs.Segments.{Segments, joined, singles, first_segment, other_segments}
use Rattle.sn_streams.specs.Shuffles.{Shuffle}
use Rattle.sn_streams.specs.Trees.{Tree, Component, Series, Fork, Allows, one}
use Rattle.sn_streams.proofs.Keys.{key_eq-refl, same_key}
use Rattle.sn_streams.proofs.Lists.{either, either_first, either_second, to_lists, from_lists}
use Rattle.sn_streams.proofs.Segmentwise.{at_each_place, from_each_place}
use Rattle.sn_streams.proofs.Silence.{emptied, silent_tree, without_items, nothing_answered, no_segment_answered}
use Rattle.sn_streams.proofs.Trees.{tree_is_lawful, tree_keeps}

true-false : true ≡ false → ⊥
true-false e = cc

module _ {A : Type 0} (r : Router A) where
  distinct_keys : (xs : List A) → AreDistinct (keys_of r xs)
  distinct_keys [] = tt
  distinct_keys (x ∷ xs) = at (is_among (r.key x) (keys_of r xs)) refl (distinct_keys xs)
    where
      at : (b : Bool) → is_among (r.key x) (keys_of r xs) ≡ b → AreDistinct (keys_of r xs) → AreDistinct (cond b (keys_of r xs) (r.key x ∷ keys_of r xs))
      at true e distinct = distinct
      at false e distinct = (e, distinct)

  -- No item has a key that does not occur.
  no_items : (k : Key) (xs : List A) → is_among k (keys_of r xs) ≡ false → items_of r k xs ≡ []
  no_items k [] none = refl
  no_items k (x ∷ xs) none = at (is_among (r.key x) (keys_of r xs)) refl none (no_items k xs)
    where
      here : (b : Bool) → key_eq k (r.key x) ≡ b → is_among (r.key x) (keys_of r xs) ≡ true → is_among k (keys_of r xs) ≡ false → b ≡ false
      here false is among away = refl
      here true is among away =
          absurd (true-false (sym among ∙ subst (λ (j : Key). is_among j (keys_of r xs) ≡ false) (same_key k (r.key x) is) away))

      left_out : key_eq k (r.key x) ≡ false → items_of r k xs ≡ [] → items_of r k (x ∷ xs) ≡ []
      left_out is others = ap (λ b. cond b (x ∷ items_of r k xs) (items_of r k xs)) is ∙ others

      at : (b : Bool) → is_among (r.key x) (keys_of r xs) ≡ b → is_among k (cond b (keys_of r xs) (r.key x ∷ keys_of r xs)) ≡ false
          → (is_among k (keys_of r xs) ≡ false → items_of r k xs ≡ []) → items_of r k (x ∷ xs) ≡ []
      at true among away others = left_out (here (key_eq k (r.key x)) refl among away) (others away)
      at false among away others =
          left_out (either_first (key_eq k (r.key x)) (is_among k (keys_of r xs)) away)
          (others (either_second (key_eq k (r.key x)) (is_among k (keys_of r xs)) away))

  first_occurs : (x : A) (xs : List A) → is_among (r.key x) (keys_of r (x ∷ xs)) ≡ true
  first_occurs x xs = at (is_among (r.key x) (keys_of r xs)) refl
    where
      at : (b : Bool) → is_among (r.key x) (keys_of r xs) ≡ b → is_among (r.key x) (cond b (keys_of r xs) (r.key x ∷ keys_of r xs)) ≡ true
      at true e = e
      at false e = ap (λ b. cond b true (is_among (r.key x) (keys_of r xs))) (key_eq-refl (r.key x))

  later_occurs : (k : Key) (x : A) (xs : List A) → is_among k (keys_of r xs) ≡ true → is_among k (keys_of r (x ∷ xs)) ≡ true
  later_occurs k x xs among = at (is_among (r.key x) (keys_of r xs))
    where
      at : (b : Bool) → is_among k (cond b (keys_of r xs) (r.key x ∷ keys_of r xs)) ≡ true
      at true = among
      at false = either (key_eq k (r.key x)) (is_among k (keys_of r xs)) among

  -- the same answers, at the keys of items
  abbrev Agree : List A → (Key → Segments A) → (Key → Segments A) → Type 0
  Agree xs f g = (k : Key) → is_among k (keys_of r xs) ≡ true → f k ≡ g k

  agree_next : (x : A) (xs : List A) (f g : Key → Segments A) → Agree (x ∷ xs) f g → Agree xs ((in_turn r).next f x) ((in_turn r).next g x)
  agree_next x xs f g agree k among =
      ap (λ (zss : Segments A). cond (key_eq k (r.key x)) (other_segments zss) zss) (agree k (later_occurs k x xs among))

  same_emitted : (xs ys : List A) (f g : Key → Segments A) → Agree (xs ++ ys) f g → emitted (in_turn r) f xs ≡ emitted (in_turn r) g xs
  same_emitted [] ys f g agree = refl
  same_emitted (x ∷ xs) ys f g agree =
      ap₂ (λ us vs. us ++ vs) (ap first_segment (agree (r.key x) (first_occurs x (xs ++ ys))))
      (same_emitted xs ys ((in_turn r).next f x) ((in_turn r).next g x) (agree_next x (xs ++ ys) f g agree))

  agree_after : (xs ys : List A) (f g : Key → Segments A) → Agree (xs ++ ys) f g → Agree ys (after (in_turn r) f xs) (after (in_turn r) g xs)
  agree_after [] ys f g agree = agree
  agree_after (x ∷ xs) ys f g agree =
      agree_after xs ys ((in_turn r).next f x) ((in_turn r).next g x) (agree_next x (xs ++ ys) f g agree)

  -- What is taken in turn has nothing of answers at other keys.
  same_turns : (xss : Segments A) (f g : Key → Segments A) → Agree (joined xss) f g → transduced (in_turn r) f xss ≡ transduced (in_turn r) g xss
  same_turns [] f g agree = refl
  same_turns (xs ∷ xss) f g agree =
      ap₂ (λ ys yss. ys ∷ yss) (same_emitted xs (joined xss) f g agree)
      (same_turns xss (after (in_turn r) f xs) (after (in_turn r) g xs) (agree_after xs (joined xss) f g agree))

same_map : {B : Type 0} (f g : Key → B) (keys : List Key) → ((k : Key) → is_among k keys ≡ true → f k ≡ g k) → map f keys ≡ map g keys
same_map f g [] same = refl
same_map f g (k ∷ keys) same =
    ap₂ (λ b bs. b ∷ bs) (same k (ap (λ b. cond b true (is_among k keys)) (key_eq-refl k)))
    (same_map f g keys (λ j among. same j (either (key_eq j k) (is_among j keys) among)))

module _ {A S : Type 0} (r : Router A) (child : Key → Tree A S) (xss : Segments A) (answers : Key → Segments A) where
  -- the answers, with those of children that get no item put in
  abbrev all_answers : Segments A → Key → Segments A
  all_answers silent k = cond (is_among k (keys_in r xss)) (answers k) silent

  at_occurring : (silent : Segments A) (k : Key) → is_among k (keys_in r xss) ≡ true → answers k ≡ all_answers silent k
  at_occurring silent k among = ap (λ b. cond b (answers k) silent) (sym among)

  unasked_by_segment : (k : Key) → is_among k (keys_in r xss) ≡ false → Allows (child k) (by_segment r k xss) (emptied xss)
  unasked_by_segment k away =
      let allowed : Allows (child k) (by_segment r k xss) (one (child k) (by_segment r k xss)) = (tree_is_lawful (child k)).allows (by_segment r k xss) in
      subst (λ (zss : Segments A). Allows (child k) (by_segment r k xss) zss)
      (nothing_answered (child k) r k xss (one (child k) (by_segment r k xss)) (no_items r k (joined xss) away) allowed) allowed

  unasked_by_item : (k : Key) → is_among k (keys_in r xss) ≡ false → Allows (child k) (by_item r k xss) []
  unasked_by_item k away =
      let allowed : Allows (child k) [] (one (child k) []) = (tree_is_lawful (child k)).allows [] in
      subst₂ (λ (wss zss : Segments A). Allows (child k) wss zss)
      (sym (ap singles (no_items r k (joined xss) away))) (no_segment_answered (child k) (one (child k) []) allowed) allowed

  all_allowed : (gets : Segments A) (silent : Segments A) (k : Key) → (is_among k (keys_in r xss) ≡ true → Allows (child k) gets (answers k))
      → (is_among k (keys_in r xss) ≡ false → Allows (child k) gets silent) → Allows (child k) gets (all_answers silent k)
  all_allowed gets silent k asked unasked = at (is_among k (keys_in r xss)) refl
    where
      at : (b : Bool) → is_among k (keys_in r xss) ≡ b → Allows (child k) gets (cond b (answers k) silent)
      at true e = asked e
      at false e = unasked e

  freely : (yss : Segments A) → ((k : Key) → is_among k (keys_in r xss) ≡ true → Allows (child k) (by_segment r k xss) (answers k)) → length yss ≡ length xss
      → ((i : ℕ) → Shuffle (get_or yss i []) (map (λ k. get_or (answers k) i []) (keys_in r xss))) → Allows (Fork Free r child) xss yss
  freely yss asked borders shuffled = record {
    answers = all_answers (emptied xss);
    answered = allowed;
    shuffled = from_each_place yss (all_answers (emptied xss))
        (λ k. tree_keeps (child k) (by_segment r k xss) (all_answers (emptied xss) k) (allowed k) ∙ length-map xss (items_of r k) ∙ sym borders)
        (λ i. from_lists (get_or yss i []) (λ k. get_or (all_answers (emptied xss) k) i []) (keys_in r xss) (distinct_keys r (joined xss))
        (λ k away. silent_tree (child k) i (by_segment r k xss) (all_answers (emptied xss) k) (allowed k) (without_items r k xss (no_items r k (joined xss) away) i))
        (subst (λ (lists : List (List A)). Shuffle (get_or yss i []) lists)
        (same_map (λ k. get_or (answers k) i []) (λ k. get_or (all_answers (emptied xss) k) i []) (keys_in r xss)
        (λ k among. ap (λ (zss : Segments A). get_or zss i []) (at_occurring (emptied xss) k among))) (shuffled i)));
  }
    where
      allowed : (k : Key) → Allows (child k) (by_segment r k xss) (all_answers (emptied xss) k)
      allowed k = all_allowed (by_segment r k xss) (emptied xss) k (asked k) (unasked_by_segment k)

  in_order : (yss : Segments A) → ((k : Key) → is_among k (keys_in r xss) ≡ true → Allows (child k) (by_item r k xss) (answers k))
      → yss ≡ transduced (in_turn r) answers xss → Allows (Fork Deterministic r child) xss yss
  in_order yss asked turns = record {
    answers = all_answers [];
    answered = λ k. all_allowed (by_item r k xss) [] k (asked k) (unasked_by_item k);
    in_order = turns ∙ same_turns r xss answers (all_answers []) (at_occurring []);
  }

pub all_asked : {A S : Type 0} (t : Tree A S) (xss yss : Segments A) → AllowsOccurring t xss yss → Allows t xss yss
all_asked (Component m s) xss yss h = h
all_asked (Series a b) xss yss h = record {
  between = h.between;
  from_first = all_asked a xss h.between h.from_first;
  from_second = all_asked b h.between yss h.from_second;
}
all_asked (Fork Free r child) xss yss h =
    freely r child xss h.answers yss (λ k among. all_asked (child k) (by_segment r k xss) (h.answers k) (h.answered k among)) h.borders h.shuffled
all_asked (Fork Deterministic r child) xss yss h =
    in_order r child xss h.answers yss (λ k among. all_asked (child k) (by_item r k xss) (h.answers k) (h.answered k among)) h.in_order

pub occurring_asked : {A S : Type 0} (t : Tree A S) (xss yss : Segments A) → Allows t xss yss → AllowsOccurring t xss yss
occurring_asked (Component m s) xss yss h = h
occurring_asked (Series a b) xss yss h = record {
  between = h.between;
  from_first = occurring_asked a xss h.between h.from_first;
  from_second = occurring_asked b h.between yss h.from_second;
}
occurring_asked (Fork Free r child) xss yss h = record {
  answers = h.answers;
  answered = λ k among. occurring_asked (child k) (by_segment r k xss) (h.answers k) (h.answered k);
  borders = tree_keeps (Fork Free r child) xss yss h;
  shuffled = λ i. to_lists (get_or yss i []) (λ k. get_or (h.answers k) i []) (keys_in r xss) (distinct_keys r (joined xss))
      (λ k away. silent_tree (child k) i (by_segment r k xss) (h.answers k) (h.answered k) (without_items r k xss (no_items r k (joined xss) away) i))
      (at_each_place yss h.answers h.shuffled i);
}
occurring_asked (Fork Deterministic r child) xss yss h = record {
  answers = h.answers;
  answered = λ k among. occurring_asked (child k) (by_item r k xss) (h.answers k) (h.answered k);
  in_order = h.in_order;
}
