-- What the children of a fork get, and answers taken in turn as a shuffle.
use Rattle.std.proofs.Common.{◌≡◌, ℕ, zero, suc, Bool, true, false, cond, if◌then◌else◌, List, [], ◌∷◌, ◌++◌, take, drop, map, length, refl, sym, ap, ap₂, ◌∙◌, subst, arith, length-append, length-drop}
use Rattle.std.proofs.lemmas.List.Elements.{filter-append}
use Rattle.std.proofs.lemmas.List.{drop-map}
use Rattle.std.proofs.Math.Path.{fun_ext}
use Rattle.sn_streams.specs.Forks.{Router, items_of, by_segment, by_item, in_turn}
use Rattle.sn_streams.specs.Keys.{Key, key_eq}
use Rattle.sn_streams.specs.Machines.{emitted, after, transduced}
use Rattle.sn_streams.specs.Segments.{Segments, joined, regrouped, singles, first_segment, other_segments}
use Rattle.sn_streams.specs.Shuffles.{ShuffleByKey, SegmentShuffles}
use Rattle.sn_streams.proofs.Keys.{key_eq-refl}
use Rattle.sn_streams.proofs.Machines.{joined-regrouped}
use Rattle.sn_streams.proofs.Shuffles.{same_lists, both_shuffles, one_list_alone}

module _ {A : Type 0} (r : Router A) (k : Key) where
  pub items_of-append : (xs ys : List A) → items_of r k (xs ++ ys) ≡ items_of r k xs ++ items_of r k ys
  items_of-append xs ys = filter-append (λ x. key_eq k (r.key x)) xs ys

  items_of-take : (n : ℕ) (xss : Segments A) → items_of r k (joined (take n xss)) ≡ joined (take n (by_segment r k xss))
  items_of-take zero xss = refl
  items_of-take (suc n) [] = refl
  items_of-take (suc n) (xs ∷ xss) =
      items_of-append xs (joined (take n xss)) ∙ ap (λ zs. items_of r k xs ++ zs) (items_of-take n xss)

  -- The child of a free fork gets the stream with the same borders taken away.
  pub by_segment-regrouped : (ns : List ℕ) (xss : Segments A) → by_segment r k (regrouped ns xss) ≡ regrouped ns (by_segment r k xss)
  by_segment-regrouped [] xss = refl
  by_segment-regrouped (n ∷ ns) xss =
      ap₂ (λ ys yss. ys ∷ yss) (items_of-take n xss)
      (by_segment-regrouped ns (drop n xss) ∙ ap (regrouped ns) (sym (drop-map (items_of r k) n xss)))

  -- That of a deterministic one gets what it got.
  pub by_item-regrouped : (ns : List ℕ) (xss : Segments A) → by_item r k (regrouped ns xss) ≡ by_item r k xss
  by_item-regrouped ns xss = ap (λ xs. singles (items_of r k xs)) (joined-regrouped ns xss)

  -- how many items of the key each segment has
  abbrev pub counts : Segments A → List ℕ
  counts xss = map (λ xs. length (items_of r k xs)) xss

  -- With the borders between the items of a segment taken away, a segment for each item is the items of each segment.
  pub by_item_by_segment : (xss : Segments A) → regrouped (counts xss) (by_item r k xss) ≡ by_segment r k xss
  by_item_by_segment [] = refl
  by_item_by_segment (xs ∷ xss) =
      ap (λ zs. regrouped (counts (xs ∷ xss)) (singles zs)) (items_of-append xs (joined xss))
      ∙ ap₂ (λ ys yss. ys ∷ yss) (front (items_of r k xs) (items_of r k (joined xss)))
      (ap (regrouped (counts xss)) (back (items_of r k xs) (items_of r k (joined xss))) ∙ by_item_by_segment xss)
    where
      front : (xs ys : List A) → joined (take (length xs) (singles (xs ++ ys))) ≡ xs
      front [] ys = refl
      front (x ∷ xs) ys = ap (λ zs. x ∷ zs) (front xs ys)

      back : (xs ys : List A) → drop (length xs) (singles (xs ++ ys)) ≡ singles ys
      back [] ys = refl
      back (x ∷ xs) ys = back xs ys

module _ {A : Type 0} where
  drop-others : (n : ℕ) (zss : Segments A) → drop n (other_segments zss) ≡ drop (suc n) zss
  drop-others zero [] = refl
  drop-others (suc n) [] = refl
  drop-others n (zs ∷ zss) = refl

  first-others : (n : ℕ) (zss : Segments A) → first_segment zss ++ joined (take n (other_segments zss)) ≡ joined (take (suc n) zss)
  first-others zero [] = refl
  first-others (suc n) [] = refl
  first-others n (zs ∷ zss) = refl

  no_segment : (zss : Segments A) → length zss ≡ 0 → zss ≡ []
  no_segment [] e = refl
  no_segment (zs ∷ zss) e = cc

module _ {A : Type 0} (r : Router A) where
  -- After some items a child's answer is used up by as many segments as the child got of them.
  pub left_after : (xs : List A) (answers : Key → Segments A) (k : Key) → after (in_turn r) answers xs k ≡ drop (length (items_of r k xs)) (answers k)
  left_after [] answers k = refl
  left_after (x ∷ xs) answers k =
      left_after xs ((in_turn r).next answers x) k ∙ at (key_eq k (r.key x)) (items_of r k xs) (answers k)
    where
      at : (b : Bool) (us : List A) (zss : Segments A) → drop (length us) (cond b (other_segments zss) zss) ≡ drop (length (cond b (x ∷ us) us)) zss
      at true us zss = drop-others (length us) zss
      at false us zss = refl

  -- And what was passed on is a shuffle of those segments.
  turns_shuffle : (xs : List A) (answers : Key → Segments A) → ShuffleByKey (emitted (in_turn r) answers xs) (λ k. joined (take (length (items_of r k xs)) (answers k)))
  turns_shuffle [] answers = λ k. refl
  turns_shuffle (x ∷ xs) answers =
      same_lists (first_segment (answers (r.key x)) ++ emitted (in_turn r) (left answers) xs)
      (λ k. alone k ++ joined (take (length (items_of r k xs)) (left answers k)))
      (λ k. joined (take (length (items_of r k (x ∷ xs))) (answers k)))
      (λ k. at (key_eq k (r.key x)) (items_of r k xs) (answers k))
      (both_shuffles (first_segment (answers (r.key x))) (emitted (in_turn r) (left answers) xs) alone
      (λ k. joined (take (length (items_of r k xs)) (left answers k)))
      (one_list_alone (first_segment (answers (r.key x))) (r.key x) alone
      (ap (λ b. cond b (first_segment (answers (r.key x))) []) (key_eq-refl (r.key x)))
      (λ j e. ap (λ b. cond b (first_segment (answers j)) []) e))
      (turns_shuffle xs (left answers)))
    where
      left : (Key → Segments A) → Key → Segments A
      left unused = (in_turn r).next unused x

      alone : Key → List A
      alone k = if key_eq k (r.key x) then first_segment (answers k) else []

      at : (b : Bool) (us : List A) (zss : Segments A) → (cond b (first_segment zss) []) ++ joined (take (length us) (cond b (other_segments zss) zss)) ≡ joined (take (length (cond b (x ∷ us) us)) zss)
      at true us zss = first-others (length us) zss
      at false us zss = refl

  pub turns_shuffle_segments : (xss : Segments A) (answers : Key → Segments A) → ((k : Key) → length (answers k) ≡ length (items_of r k (joined xss)))
      → SegmentShuffles (transduced (in_turn r) answers xss) (λ k. regrouped (counts r k xss) (answers k))
  turns_shuffle_segments [] answers lengths = λ k. no_segment (answers k) (lengths k)
  turns_shuffle_segments (xs ∷ xss) answers lengths = (
    (λ k. joined (take (length (items_of r k xs)) (answers k))),
    (λ k. regrouped (counts r k xss) (drop (length (items_of r k xs)) (answers k))),
    (λ k. refl),
    turns_shuffle xs answers,
    subst (λ (left : Key → Segments A). SegmentShuffles (transduced (in_turn r) left xss) (λ k. regrouped (counts r k xss) (drop (length (items_of r k xs)) (answers k))))
        (sym (fun_ext (left_after xs answers)))
        (turns_shuffle_segments xss (λ k. drop (length (items_of r k xs)) (answers k))
        (λ k. lengths_left (items_of r k xs) (items_of r k (joined xss)) (answers k) (lengths k ∙ ap length (items_of-append r k xs (joined xss))))),
  )
    where
      lengths_left : (us vs : List A) (zss : Segments A) → length zss ≡ length (us ++ vs) → length (drop (length us) zss) ≡ length vs
      lengths_left us vs zss e = omega (arith, length-drop (length us) zss, length-append us vs)
