-- Shuffles by keys: of lists one behind the other, of one list alone, of streams with borders taken away.
use Rattle.std.proofs.Common.{◌≡◌, ℕ, zero, suc, Bool, true, false, cond, List, [], ◌∷◌, ◌++◌, take, drop, get_or, length, refl, sym, ap, ◌∙◌, subst}
use Rattle.std.proofs.Math.Path.{fun_ext}
use Rattle.sn_streams.specs.Keys.{Key, key_eq, replaced_at}
use Rattle.sn_streams.specs.Segments.{Segments, joined, regrouped}
use Rattle.sn_streams.specs.Shuffles.{ShuffleByKey, SegmentShuffles}
use Rattle.sn_streams.proofs.Keys.{key_eq-refl, same_key}

module _ {A : Type 0} where
  pub same_lists : (ys : List A) (f g : Key → List A) → ((k : Key) → f k ≡ g k) → ShuffleByKey ys f → ShuffleByKey ys g
  same_lists ys f g same shuffle = subst (λ (h : Key → List A). ShuffleByKey ys h) (fun_ext same) shuffle

  pub same_streams : (yss : Segments A) (f g : Key → Segments A) → ((k : Key) → f k ≡ g k) → SegmentShuffles yss f → SegmentShuffles yss g
  same_streams yss f g same shuffles = subst (λ (h : Key → Segments A). SegmentShuffles yss h) (fun_ext same) shuffles

  replaced-append : (b : Bool) (list tail zs zs' : List A) → (b ≡ true → zs ≡ zs') → cond b tail list ++ zs ≡ cond b (tail ++ zs') (list ++ zs)
  replaced-append true list tail zs zs' same = ap (λ us. tail ++ us) (same refl)
  replaced-append false list tail zs zs' same = refl

  -- one shuffle behind another
  pub both_shuffles : (ys zs : List A) (f g : Key → List A) → ShuffleByKey ys f → ShuffleByKey zs g → ShuffleByKey (ys ++ zs) (λ k. f k ++ g k)
  both_shuffles [] zs f g first second = same_lists zs g (λ k. f k ++ g k) (λ k. ap (λ us. us ++ g k) (sym (first k))) second
  both_shuffles (y ∷ ys) zs f g (k, tail, is, first) second = (
    k,
    tail ++ g k,
    ap (λ us. us ++ g k) is,
    same_lists (ys ++ zs) (λ j. replaced_at f k tail j ++ g j) (replaced_at (λ j. f j ++ g j) k (tail ++ g k))
        (λ j. replaced-append (key_eq j k) (f j) tail (g j) (g k) (λ e. ap g (same_key j k e)))
        (both_shuffles ys zs (replaced_at f k tail) g first second),
  )

  -- all items are those of one key
  pub one_list_alone : (ys : List A) (k : Key) (f : Key → List A) → f k ≡ ys → ((j : Key) → key_eq j k ≡ false → f j ≡ []) → ShuffleByKey ys f
  one_list_alone [] k f is none = λ j. at j (key_eq j k) refl
    where
      at : (j : Key) (b : Bool) → key_eq j k ≡ b → f j ≡ []
      at j true e = ap f (same_key j k e) ∙ is
      at j false e = none j e
  one_list_alone (y ∷ ys) k f is none = (
    k,
    ys,
    is,
    one_list_alone ys k (replaced_at f k ys)
        (ap (λ b. cond b ys (f k)) (key_eq-refl k))
        (λ j e. ap (λ b. cond b ys (f j)) e ∙ none j e),
  )

  shuffles-take : (n : ℕ) (yss : Segments A) (f : Key → Segments A) → SegmentShuffles yss f → ShuffleByKey (joined (take n yss)) (λ k. joined (take n (f k)))
  shuffles-take zero yss f shuffles = λ k. refl
  shuffles-take (suc n) [] f shuffles = λ k. ap (λ (zss : Segments A). joined (take (suc n) zss)) (shuffles k)
  shuffles-take (suc n) (ys ∷ yss) f (firsts, others, are, shuffle, shuffles) =
      same_lists (ys ++ joined (take n yss)) (λ k. firsts k ++ joined (take n (others k))) (λ k. joined (take (suc n) (f k)))
      (λ k. ap (λ (zss : Segments A). joined (take (suc n) zss)) (sym (are k)))
      (both_shuffles ys (joined (take n yss)) firsts (λ k. joined (take n (others k))) shuffle (shuffles-take n yss others shuffles))

  shuffles-drop : (n : ℕ) (yss : Segments A) (f : Key → Segments A) → SegmentShuffles yss f → SegmentShuffles (drop n yss) (λ k. drop n (f k))
  shuffles-drop zero yss f shuffles = shuffles
  shuffles-drop (suc n) [] f shuffles = λ k. ap (λ (zss : Segments A). drop (suc n) zss) (shuffles k)
  shuffles-drop (suc n) (ys ∷ yss) f (firsts, others, are, shuffle, shuffles) =
      same_streams (drop n yss) (λ k. drop n (others k)) (λ k. drop (suc n) (f k))
      (λ k. ap (λ (zss : Segments A). drop (suc n) zss) (sym (are k)))
      (shuffles-drop n yss others shuffles)

  pub shuffles-regrouped : (ns : List ℕ) (yss : Segments A) (f : Key → Segments A) → SegmentShuffles yss f → SegmentShuffles (regrouped ns yss) (λ k. regrouped ns (f k))
  shuffles-regrouped [] yss f shuffles = shuffles
  shuffles-regrouped (n ∷ ns) yss f shuffles = (
    (λ k. joined (take n (f k))),
    (λ k. regrouped ns (drop n (f k))),
    (λ k. refl),
    shuffles-take n yss f shuffles,
    shuffles-regrouped ns (drop n yss) (λ k. drop n (f k)) (shuffles-drop n yss f shuffles),
  )

  pub shuffles-length : (yss : Segments A) (f : Key → Segments A) (k : Key) → SegmentShuffles yss f → length yss ≡ length (f k)
  shuffles-length [] f k shuffles = sym (ap length (shuffles k))
  shuffles-length (ys ∷ yss) f k (firsts, others, are, shuffle, shuffles) = ap suc (shuffles-length yss others k shuffles) ∙ sym (ap length (are k))

  -- a shuffle of lists without items has none
  pub nothing_shuffled : (ys : List A) (f : Key → List A) → ((k : Key) → f k ≡ []) → ShuffleByKey ys f → ys ≡ []
  nothing_shuffled [] f none shuffle = refl
  nothing_shuffled (y ∷ ys) f none (k, tail, is, shuffle) = absurd (impossible (sym is ∙ none k))
    where
      impossible : y ∷ tail ≡ [] → ⊥
      impossible e = cc

  pub nothing_shuffled_at : (i : ℕ) (yss : Segments A) (f : Key → Segments A) → ((k : Key) → get_or (f k) i [] ≡ []) → SegmentShuffles yss f → get_or yss i [] ≡ []
  nothing_shuffled_at i [] f none shuffles = refl
  nothing_shuffled_at zero (ys ∷ yss) f none (firsts, others, are, shuffle, shuffles) =
      nothing_shuffled ys firsts (λ k. ap (λ (zss : Segments A). get_or zss 0 []) (sym (are k)) ∙ none k) shuffle
  nothing_shuffled_at (suc i) (ys ∷ yss) f none (firsts, others, are, shuffle, shuffles) =
      nothing_shuffled_at i yss others (λ k. ap (λ (zss : Segments A). get_or zss (suc i) []) (sym (are k)) ∙ none k) shuffles
