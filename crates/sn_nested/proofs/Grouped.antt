-- Shuffles of lists by keys, and by groups of keys.
use Rattle.std.proofs.Common.{◌≡◌, Bool, true, false, cond, List, [], ◌∷◌, refl, sym, ap, ◌∙◌, subst}
use Rattle.sn_streams.specs.Keys.{Key, key_eq, replaced_at}
use Rattle.sn_streams.specs.Segments.{Segments}
use Rattle.sn_streams.specs.Shuffles.{ShuffleByKey, SegmentShuffles}
use Rattle.sn_streams.proofs.Keys.{key_eq-refl, same_key}
use Rattle.sn_streams.proofs.Shuffles.{same_lists, one_list_alone}
use Rattle.sn_streams.proofs.Silence.{emptied}
use Rattle.sn_nested.specs.Alike.{IsSilent}

differ : true ≡ false → ⊥
differ e = cc

module _ {A : Type 0} (up : Key → Key) where
  -- of a list for each key, those of a group
  abbrev pub in_group : Key → (Key → List A) → Key → List A
  in_group group lists k = cond (key_eq group (up k)) (lists k) []

  taken_within : (lists : Key → List A) (group k : Key) (tail : List A) → key_eq group (up k) ≡ true
      → (j : Key) → in_group group (replaced_at lists k tail) j ≡ replaced_at (in_group group lists) k tail j
  taken_within lists group k tail here j = at (key_eq j k) refl
    where
      at : (b : Bool) → key_eq j k ≡ b → cond (key_eq group (up j)) (cond b tail (lists j)) [] ≡ cond b tail (cond (key_eq group (up j)) (lists j) [])
      at true is = ap (λ c. cond c tail []) (ap (λ i. key_eq group (up i)) (same_key j k is) ∙ here)
      at false is = refl

  taken_without : (lists : Key → List A) (group k : Key) (tail : List A) → key_eq group (up k) ≡ false
      → (j : Key) → in_group group (replaced_at lists k tail) j ≡ in_group group lists j
  taken_without lists group k tail apart j = at (key_eq j k) refl
    where
      at : (b : Bool) → key_eq j k ≡ b → cond (key_eq group (up j)) (cond b tail (lists j)) [] ≡ cond (key_eq group (up j)) (lists j) []
      at true is =
          let none : key_eq group (up j) ≡ false = ap (λ i. key_eq group (up i)) (same_key j k is) ∙ apart in
          ap (λ c. cond c tail []) none ∙ sym (ap (λ c. cond c (lists j) []) none)
      at false is = refl

  -- A shuffle of lists is one of shuffles, of the lists of each group.
  pub record Split (ys : List A) (lists : Key → List A) : Type 0 where
    pub parts : Key → List A
    pub whole : ShuffleByKey ys parts
    pub each : (group : Key) → ShuffleByKey (parts group) (in_group group lists)

  pub split : (ys : List A) (lists : Key → List A) → ShuffleByKey ys lists → Split ys lists
  split [] lists none = record {
    parts = λ group. [];
    whole = λ group. refl;
    each = λ group k. at (key_eq group (up k)) (lists k) (none k);
  }
    where
      at : (b : Bool) (list : List A) → list ≡ [] → cond b list [] ≡ []
      at true list e = e
      at false list e = refl
  split (y ∷ ys) lists (k, tail, is, rest) = with_first (split ys (replaced_at lists k tail) rest)
    where
      with_first : Split ys (replaced_at lists k tail) → Split (y ∷ ys) lists
      with_first behind = record {
        parts = parts;
        whole = (
          up k,
          behind.parts (up k),
          ap (λ b. cond b (y ∷ behind.parts (up k)) (behind.parts (up k))) (key_eq-refl (up k)),
          same_lists ys behind.parts (replaced_at parts (up k) (behind.parts (up k))) (λ group. same group (key_eq group (up k)) refl) behind.whole,
        );
        each = λ group. at group (key_eq group (up k)) refl;
      }
        where
          parts : Key → List A
          parts group = cond (key_eq group (up k)) (y ∷ behind.parts group) (behind.parts group)

          same : (group : Key) (b : Bool) → key_eq group (up k) ≡ b → behind.parts group ≡ cond b (behind.parts (up k)) (cond b (y ∷ behind.parts group) (behind.parts group))
          same group true e = ap behind.parts (same_key group (up k) e)
          same group false e = refl

          at : (group : Key) (b : Bool) → key_eq group (up k) ≡ b → ShuffleByKey (cond b (y ∷ behind.parts group) (behind.parts group)) (in_group group lists)
          at group true e = (
            k,
            tail,
            ap (λ c. cond c (lists k) []) e ∙ is,
            same_lists (behind.parts group) (in_group group (replaced_at lists k tail)) (replaced_at (in_group group lists) k tail) (taken_within lists group k tail e) (behind.each group),
          )
          at group false e =
              same_lists (behind.parts group) (in_group group (replaced_at lists k tail)) (in_group group lists) (taken_without lists group k tail e) (behind.each group)

  -- A shuffle of shuffles, each of lists of one group, is a shuffle of all these lists.
  pub join : (ys : List A) (parts : Key → List A) (lists : Key → Key → List A) → ShuffleByKey ys parts → ((group : Key) → ShuffleByKey (parts group) (lists group))
      → ((group k : Key) → key_eq group (up k) ≡ false → lists group k ≡ []) → ShuffleByKey ys (λ k. lists (up k) k)
  join [] parts lists whole each none = λ k. (subst (λ (zs : List A). ShuffleByKey zs (lists (up k))) (whole (up k)) (each (up k))) k
  join (y ∷ ys) parts lists (group, tail, is, rest) each none =
      here (subst (λ (zs : List A). ShuffleByKey zs (lists group)) is (each group))
      (λ parts' lists' whole' each' none'. join ys parts' lists' whole' each' none')
    where
      here : ShuffleByKey (y ∷ tail) (lists group)
          → ((parts' : Key → List A) (lists' : Key → Key → List A) → ShuffleByKey ys parts' → ((g : Key) → ShuffleByKey (parts' g) (lists' g))
          → ((g k : Key) → key_eq g (up k) ≡ false → lists' g k ≡ []) → ShuffleByKey ys (λ k. lists' (up k) k))
          → ShuffleByKey (y ∷ ys) (λ k. lists (up k) k)
      here (k, tail', is', rest') again = at (key_eq group (up k)) refl
        where
          left : Key → Key → List A
          left g j = cond (key_eq g group) (replaced_at (lists group) k tail' j) (lists g j)

          each' : (g : Key) (b : Bool) → ShuffleByKey (parts g) (lists g) → ShuffleByKey (cond b tail (parts g)) (λ j. cond b (replaced_at (lists group) k tail' j) (lists g j))
          each' g true old = rest'
          each' g false old = old

          at : (b : Bool) → key_eq group (up k) ≡ b → ShuffleByKey (y ∷ ys) (λ j. lists (up j) j)
          at false e = absurd (impossible (sym is' ∙ none group k e))
            where
              impossible : y ∷ tail' ≡ [] → ⊥
              impossible e = cc
          at true e = (
            k,
            tail',
            ap (λ g. lists g k) (sym same) ∙ is',
            same_lists ys (λ j. left (up j) j) (replaced_at (λ j. lists (up j) j) k tail') (λ j. moved j (key_eq j k) refl (key_eq (up j) group) refl)
                (again (replaced_at parts group tail) left rest (λ g. each' g (key_eq g group) (each g)) (λ g j apart. nothing g j (key_eq g group) refl (key_eq j k) refl apart)),
          )
            where
              same : group ≡ up k
              same = same_key group (up k) e

              moved : (j : Key) (b : Bool) → key_eq j k ≡ b → (c : Bool) → key_eq (up j) group ≡ c
                  → cond c (cond b tail' (lists group j)) (lists (up j) j) ≡ cond b tail' (lists (up j) j)
              moved j true is true of = refl
              moved j true is false of = absurd (differ (sym (key_eq-refl group) ∙ ap (λ g. key_eq g group) (same ∙ ap up (sym (same_key j k is))) ∙ of))
              moved j false is true of = ap (λ g. lists g j) (sym (same_key (up j) group of))
              moved j false is false of = refl

              nothing : (g j : Key) (b : Bool) → key_eq g group ≡ b → (c : Bool) → key_eq j k ≡ c → key_eq g (up j) ≡ false
                  → cond b (cond c tail' (lists group j)) (lists g j) ≡ []
              nothing g j true is true of apart =
                  absurd (differ (sym (key_eq-refl g) ∙ ap (key_eq g) (same_key g group is ∙ same ∙ ap up (sym (same_key j k of))) ∙ apart))
              nothing g j true is false of apart = none group j (ap (λ i. key_eq i (up j)) (sym (same_key g group is)) ∙ apart)
              nothing g j false is c of apart = none g j apart

  abbrev pub streams_of : Key → Segments A → (Key → Segments A) → Key → Segments A
  streams_of group yss streams k = cond (key_eq group (up k)) (streams k) (emptied yss)

  pub record SplitSegments (yss : Segments A) (streams : Key → Segments A) : Type 0 where
    pub parts : Key → Segments A
    pub whole : SegmentShuffles yss parts
    pub each : (group : Key) → SegmentShuffles (parts group) (streams_of group yss streams)

  pub split_segments : (yss : Segments A) (streams : Key → Segments A) → SegmentShuffles yss streams → SplitSegments yss streams
  split_segments [] streams none = record {
    parts = λ group. [];
    whole = λ group. refl;
    each = λ group k. at (key_eq group (up k)) (streams k) (none k);
  }
    where
      at : (b : Bool) (list : Segments A) → list ≡ [] → cond b list [] ≡ []
      at true list e = e
      at false list e = refl
  split_segments (ys ∷ yss) streams (firsts, others, are, shuffle, shuffles) =
      let first = split ys firsts shuffle in
      let behind = split_segments yss others shuffles in
      record {
        parts = λ group. first.parts group ∷ behind.parts group;
        whole = (first.parts, behind.parts, (λ group. refl), first.whole, behind.whole);
        each = λ group. (in_group group firsts, streams_of group yss others, (λ k. at k (key_eq group (up k))), first.each group, behind.each group);
      }
    where
      at : (k : Key) (b : Bool) → cond b (streams k) ([] ∷ emptied yss) ≡ cond b (firsts k) [] ∷ cond b (others k) (emptied yss)
      at k true = are k
      at k false = refl

  silent_parts : (xs : List A) (xss zss : Segments A) → zss ≡ xs ∷ xss → IsSilent zss → (xs ≡ []) × IsSilent xss
  silent_parts xs xss zss e silent = subst IsSilent e silent

  pub join_segments : (yss : Segments A) (parts : Key → Segments A) (streams : Key → Key → Segments A) → SegmentShuffles yss parts
      → ((group : Key) → SegmentShuffles (parts group) (streams group)) → ((group k : Key) → key_eq group (up k) ≡ false → IsSilent (streams group k))
      → SegmentShuffles yss (λ k. streams (up k) k)
  join_segments [] parts streams whole each silent =
      λ k. (subst (λ (zss : Segments A). SegmentShuffles zss (streams (up k))) (whole (up k)) (each (up k))) k
  join_segments (ys ∷ yss) parts streams (firsts, others, are, shuffle, shuffles) each silent = (
    (λ k. (here (up k)).0 k),
    (λ k. (here (up k)).1 k),
    (λ k. (here (up k)).2 k),
    join ys firsts (λ group. (here group).0) shuffle (λ group. (here group).3)
        (λ group k apart. (silent_parts ((here group).0 k) ((here group).1 k) (streams group k) ((here group).2 k) (silent group k apart)).0),
    join_segments yss others (λ group. (here group).1) shuffles (λ group. (here group).4)
        (λ group k apart. (silent_parts ((here group).0 k) ((here group).1 k) (streams group k) ((here group).2 k) (silent group k apart)).1),
  )
    where
      here : (group : Key) → SegmentShuffles (firsts group ∷ others group) (streams group)
      here group = subst (λ (zss : Segments A). SegmentShuffles zss (streams group)) (are group) (each group)

-- where only one key has items
module _ {A : Type 0} (k : Key) where
  no_other : (ys : List A) (lists : Key → List A) → ShuffleByKey ys lists → ((j : Key) → key_eq j k ≡ false → lists j ≡ []) → ys ≡ lists k
  no_other [] lists none others = sym (none k)
  no_other (y ∷ ys) lists (j, tail, is, rest) others = at (key_eq j k) refl (λ lists' rest' others'. no_other ys lists' rest' others')
    where
      at : (b : Bool) → key_eq j k ≡ b → ((lists' : Key → List A) → ShuffleByKey ys lists' → ((i : Key) → key_eq i k ≡ false → lists' i ≡ []) → ys ≡ lists' k)
          → y ∷ ys ≡ lists k
      at false e again = absurd (impossible (sym is ∙ others j e))
        where
          impossible : y ∷ tail ≡ [] → ⊥
          impossible e = cc
      at true e again =
          let same : j ≡ k = same_key j k e in
          ap (λ us. y ∷ us) (again (replaced_at lists j tail) rest (λ i apart. nothing i apart (key_eq i j) refl)
          ∙ ap (λ b. cond b tail (lists k)) (ap (key_eq k) same ∙ key_eq-refl k))
          ∙ sym is ∙ ap lists same
        where
          nothing : (i : Key) → key_eq i k ≡ false → (b : Bool) → key_eq i j ≡ b → cond b tail (lists i) ≡ []
          nothing i apart true of = absurd (differ (sym (key_eq-refl i) ∙ ap (key_eq i) (same_key i j of ∙ same_key j k e) ∙ apart))
          nothing i apart false of = others i apart

  pub no_other_segments : (yss : Segments A) (streams : Key → Segments A) → SegmentShuffles yss streams → ((j : Key) → key_eq j k ≡ false → IsSilent (streams j)) → yss ≡ streams k
  no_other_segments [] streams none silent = sym (none k)
  no_other_segments (ys ∷ yss) streams (firsts, others, are, shuffle, shuffles) silent =
      pair (no_other ys firsts shuffle (λ j apart. (parts j apart).0)) (no_other_segments yss others shuffles (λ j apart. (parts j apart).1)) ∙ sym (are k)
    where
      parts : (j : Key) → key_eq j k ≡ false → (firsts j ≡ []) × IsSilent (others j)
      parts j apart = subst IsSilent (are j) (silent j apart)

      pair : ys ≡ firsts k → yss ≡ others k → ys ∷ yss ≡ firsts k ∷ others k
      pair first rest i = first i ∷ rest i

  pub alone_segments : (yss : Segments A) → SegmentShuffles yss (λ j. cond (key_eq j k) yss (emptied yss))
  alone_segments [] = λ j. at (key_eq j k)
    where
      nothing : Segments A
      nothing = []

      at : (b : Bool) → cond b nothing nothing ≡ nothing
      at true = refl
      at false = refl
  alone_segments (ys ∷ yss) = (
    (λ j. cond (key_eq j k) ys []),
    (λ j. cond (key_eq j k) yss (emptied yss)),
    (λ j. at (key_eq j k)),
    one_list_alone ys k (λ j. cond (key_eq j k) ys []) (ap (λ b. cond b ys []) (key_eq-refl k)) (λ j e. ap (λ b. cond b ys []) e),
    alone_segments yss,
  )
    where
      at : (b : Bool) → cond b (ys ∷ yss) ([] ∷ emptied yss) ≡ cond b ys [] ∷ cond b yss (emptied yss)
      at true = refl
      at false = refl
