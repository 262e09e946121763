-- Machines over streams with borders taken away, and over segments without items.
use Rattle.std.proofs.Common.{◌≡◌, ℕ, zero, suc, List, [], ◌∷◌, ◌++◌, take, drop, get_or, length, refl, sym, ap, ap₂, ◌∙◌, append_assoc}
use Rattle.sn_streams.specs.Machines.{Machine, emitted, after, transduced}
use Rattle.sn_streams.specs.Segments.{Segments, joined, regrouped}

module _ {A : Type 0} where
  joined_parts : (n : ℕ) (xss : Segments A) → joined (take n xss) ++ joined (drop n xss) ≡ joined xss
  joined_parts zero xss = refl
  joined_parts (suc n) [] = refl
  joined_parts (suc n) (xs ∷ xss) = append_assoc xs (joined (take n xss)) (joined (drop n xss)) ∙ ap (λ zs. xs ++ zs) (joined_parts n xss)

  pub joined-regrouped : (ns : List ℕ) (xss : Segments A) → joined (regrouped ns xss) ≡ joined xss
  joined-regrouped [] xss = refl
  joined-regrouped (n ∷ ns) xss = ap (λ zs. joined (take n xss) ++ zs) (joined-regrouped ns (drop n xss)) ∙ joined_parts n xss

module _ {A S : Type 0} (m : Machine A S) where
  pub emitted-append : (s : S) (xs ys : List A) → emitted m s (xs ++ ys) ≡ emitted m s xs ++ emitted m (after m s xs) ys
  emitted-append s [] ys = refl
  emitted-append s (x ∷ xs) ys =
      ap (λ zs. m.emits s x ++ zs) (emitted-append (m.next s x) xs ys)
      ∙ sym (append_assoc (m.emits s x) (emitted m (m.next s x) xs) (emitted m (after m (m.next s x) xs) ys))

  pub after-append : (s : S) (xs ys : List A) → after m s (xs ++ ys) ≡ after m (after m s xs) ys
  after-append s [] ys = refl
  after-append s (x ∷ xs) ys = after-append (m.next s x) xs ys

  emitted-take : (n : ℕ) (s : S) (xss : Segments A) → emitted m s (joined (take n xss)) ≡ joined (take n (transduced m s xss))
  emitted-take zero s xss = refl
  emitted-take (suc n) s [] = refl
  emitted-take (suc n) s (xs ∷ xss) =
      emitted-append s xs (joined (take n xss)) ∙ ap (λ zs. emitted m s xs ++ zs) (emitted-take n (after m s xs) xss)

  transduced-drop : (n : ℕ) (s : S) (xss : Segments A) → transduced m (after m s (joined (take n xss))) (drop n xss) ≡ drop n (transduced m s xss)
  transduced-drop zero s xss = refl
  transduced-drop (suc n) s [] = refl
  transduced-drop (suc n) s (xs ∷ xss) =
      ap (λ q. transduced m q (drop n xss)) (after-append s xs (joined (take n xss))) ∙ transduced-drop n (after m s xs) xss

  pub transduced-regrouped : (ns : List ℕ) (s : S) (xss : Segments A) → transduced m s (regrouped ns xss) ≡ regrouped ns (transduced m s xss)
  transduced-regrouped [] s xss = refl
  transduced-regrouped (n ∷ ns) s xss =
      ap₂ (λ ys yss. ys ∷ yss) (emitted-take n s xss)
      (transduced-regrouped ns (after m s (joined (take n xss))) (drop n xss) ∙ ap (regrouped ns) (transduced-drop n s xss))

  pub length-transduced : (s : S) (xss : Segments A) → length (transduced m s xss) ≡ length xss
  length-transduced s [] = refl
  length-transduced s (xs ∷ xss) = ap suc (length-transduced (after m s xs) xss)

  pub silent_machine : (i : ℕ) (s : S) (xss : Segments A) → get_or xss i [] ≡ [] → get_or (transduced m s xss) i [] ≡ []
  silent_machine i s [] none = refl
  silent_machine zero s (xs ∷ xss) none = ap (emitted m s) none
  silent_machine (suc i) s (xs ∷ xss) none = silent_machine i (after m s xs) xss none
