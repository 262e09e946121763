-- A fork all of whose items go to one child is that child. A deterministic one makes borders, so there each item stands alone.
use Rattle.std.proofs.Common.{◌≡◌, Bool, true, false, cond, List, [], ◌∷◌, length, refl, sym, ap, ap₂, ◌∙◌, subst, subst₂}
use Rattle.std.specs.List.{AllByRecursion as Each}
use Rattle.std.proofs.Math.ListN.{length-map}
use Rattle.sn_streams.specs.Forks.{Router, items_of, by_segment, by_item, Merge, Free, Deterministic}
use Rattle.sn_streams.specs.Keys.{Key, key_eq}
use Rattle.sn_streams.specs.Segments.{Segments, joined, singles}
use Rattle.sn_streams.specs.Trees.{Tree, Fork, Allows, one}
use Rattle.sn_streams.proofs.Keys.{key_eq-refl, same_key}
use Rattle.sn_streams.proofs.Silence.{emptied}
use Rattle.sn_streams.proofs.Trees.{tree_keeps, tree_is_lawful}
use Rattle.sn_nested.specs.Alike.{EachItem, IsSilent, AllowAlike, OneAlike, sent}
use Rattle.sn_nested.proofs.Grouped.{no_other_segments, alone_segments}
use Rattle.sn_nested.proofs.Items.{joined-singles}
use Rattle.sn_nested.proofs.Silent.{silent_same, silent_allowed, silent_answer, silent_emptied, length-emptied}
use Rattle.sn_nested.proofs.Turns.{turns_alone}

-- the items of a key, where all have it, and of another
module _ {A : Type 0} (r : Router A) (k : Key) where
  abbrev pub Has : A → Type 0
  Has x = r.key x ≡ k

  all_items : (xs : List A) → Each Has xs → items_of r k xs ≡ xs
  all_items [] each = refl
  all_items (x ∷ xs) each = ap₂ (λ b us. cond b (x ∷ us) us) (ap (key_eq k) each.0 ∙ key_eq-refl k) (all_items xs each.1)

  pub all_segments : (xss : Segments A) → EachItem Has xss → by_segment r k xss ≡ xss
  all_segments [] each = refl
  all_segments (xs ∷ xss) each = ap₂ (λ us uss. us ∷ uss) (all_items xs each.0) (all_segments xss each.1)

  pub all_single : (xs : List A) → Each Has xs → by_item r k (singles xs) ≡ singles xs
  all_single xs each = ap (λ us. singles (items_of r k us)) (joined-singles xs) ∙ ap singles (all_items xs each)

  other_items : (j : Key) → key_eq j k ≡ false → (xs : List A) → Each Has xs → items_of r j xs ≡ []
  other_items j apart [] each = refl
  other_items j apart (x ∷ xs) each = ap₂ (λ b us. cond b (x ∷ us) us) (ap (key_eq j) each.0 ∙ apart) (other_items j apart xs each.1)

  pub other_segments_silent : (j : Key) → key_eq j k ≡ false → (xss : Segments A) → EachItem Has xss → IsSilent (by_segment r j xss)
  other_segments_silent j apart [] each = tt
  other_segments_silent j apart (xs ∷ xss) each = (other_items j apart xs each.0, other_segments_silent j apart xss each.1)

  pub other_single : (j : Key) → key_eq j k ≡ false → (xs : List A) → Each Has xs → by_item r j (singles xs) ≡ []
  other_single j apart xs each = ap (λ us. singles (items_of r j us)) (joined-singles xs) ∙ ap singles (other_items j apart xs each)

  pub each_of_singles : (xs : List A) → EachItem Has (singles xs) → Each Has xs
  each_of_singles [] each = tt
  each_of_singles (x ∷ xs) each = (each.0.0, each_of_singles xs each.1)

module _ {A S : Type 0} (r : Router A) (child : Key → Tree A S) (k : Key) where
  freely_alone : (xss yss : Segments A) → EachItem (Has r k) xss → Allows (Fork Free r child) xss yss → Allows (child k) xss yss
  freely_alone xss yss each h =
      let same : yss ≡ h.answers k = no_other_segments k yss h.answers h.shuffled (λ j apart.
      let silent : IsSilent (by_segment r j xss) = other_segments_silent r k j apart xss each in
      subst IsSilent (sym (silent_answer (child j) (by_segment r j xss) silent (h.answers j) (h.answered j))) silent) in
      subst₂ (λ (uss vss : Segments A). Allows (child k) uss vss) (all_segments r k xss each) (sym same) (h.answered k)

  freely_together : (xss yss : Segments A) → EachItem (Has r k) xss → Allows (child k) xss yss → Allows (Fork Free r child) xss yss
  freely_together xss yss each h = record {
    answers = λ j. cond (key_eq j k) yss (emptied yss);
    answered = λ j. at j (key_eq j k) refl;
    shuffled = alone_segments k yss;
  }
    where
      at : (j : Key) (b : Bool) → key_eq j k ≡ b → Allows (child j) (by_segment r j xss) (cond b yss (emptied yss))
      at j true is =
          subst (λ (i : Key). Allows (child i) (by_segment r i xss) yss) (sym (same_key j k is))
          (subst (λ (zss : Segments A). Allows (child k) zss yss) (sym (all_segments r k xss each)) h)
      at j false is =
          let silent : IsSilent (by_segment r j xss) = other_segments_silent r k j is xss each in
          let lengths : length (by_segment r j xss) ≡ length (emptied yss) = length-map _ _ ∙ sym (tree_keeps (child k) xss yss h) ∙ sym (length-emptied yss) in
          subst (λ (zss : Segments A). Allows (child j) (by_segment r j xss) zss)
          (silent_same (by_segment r j xss) (emptied yss) silent (silent_emptied yss) lengths) (silent_allowed (child j) (by_segment r j xss) silent)

  in_turn_alone : (xs : List A) (yss : Segments A) → Each (Has r k) xs → Allows (Fork Deterministic r child) (singles xs) yss → Allows (child k) (singles xs) yss
  in_turn_alone xs yss each h =
      let here : Allows (child k) (singles xs) (h.answers k) = subst (λ (zss : Segments A). Allows (child k) zss (h.answers k)) (all_single r k xs each) (h.answered k) in
      let lengths : length (h.answers k) ≡ length xs = tree_keeps (child k) (singles xs) (h.answers k) here ∙ length-map _ _ in
      subst (λ (zss : Segments A). Allows (child k) (singles xs) zss) (sym (h.in_order ∙ turns_alone r k xs h.answers each lengths)) here

  in_turn_together : (xs : List A) (yss : Segments A) → Each (Has r k) xs → Allows (child k) (singles xs) yss → Allows (Fork Deterministic r child) (singles xs) yss
  in_turn_together xs yss each h = record {
    answers = answers;
    answered = λ j. at j (key_eq j k) refl;
    in_order = sym (turns_alone r k xs answers each (ap length here ∙ tree_keeps (child k) (singles xs) yss h ∙ length-map _ _) ∙ here);
  }
    where
      answers : Key → Segments A
      answers j = cond (key_eq j k) yss []

      here : answers k ≡ yss
      here = ap (λ b. cond b yss []) (key_eq-refl k)

      at : (j : Key) (b : Bool) → key_eq j k ≡ b → Allows (child j) (by_item r j (singles xs)) (cond b yss [])
      at j true is =
          subst (λ (i : Key). Allows (child i) (by_item r i (singles xs)) yss) (sym (same_key j k is))
          (subst (λ (zss : Segments A). Allows (child k) zss yss) (sym (all_single r k xs each)) h)
      at j false is = subst (λ (zss : Segments A). Allows (child j) zss []) (sym (other_single r k j is xs each)) (silent_allowed (child j) [] tt)

  -- on what the child of a group gets in a fork of the same kind
  pub one_key_alike : (m : Merge) (outer : Router A) (group : Key) (xss : Segments A) → EachItem (Has r k) (sent m outer group xss)
      → AllowAlike (Fork m r child) (child k) (sent m outer group xss)
  one_key_alike Free outer group xss each yss = (freely_alone (by_segment outer group xss) yss each, freely_together (by_segment outer group xss) yss each)
  one_key_alike Deterministic outer group xss each yss =
      let xs = items_of outer group (joined xss) in
      let all : Each (Has r k) xs = each_of_singles r k xs each in
      (in_turn_alone xs yss all, in_turn_together xs yss all)

  pub one_key_same : (m : Merge) (outer : Router A) (group : Key) (xss : Segments A) → EachItem (Has r k) (by_item outer group xss)
      → OneAlike (Fork m r child) (child k) (by_item outer group xss)
  one_key_same m outer group xss each =
      let xs = items_of outer group (joined xss) in
      let all : Each (Has r k) xs = each_of_singles r k xs each in
      let here : one (child k) (by_item r k (singles xs)) ≡ one (child k) (singles xs) = ap (one (child k)) (all_single r k xs all) in
      let lengths : length (one (child k) (by_item r k (singles xs))) ≡ length xs = ap length here ∙ (tree_is_lawful (child k)).keeps (singles xs) ∙ length-map _ _ in
      turns_alone r k xs (λ j. one (child j) (by_item r j (singles xs))) all lengths ∙ here
