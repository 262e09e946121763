-- Lists with the same texts, each in byte order, are one list; so the text of a type is one.
use Rattle.std.proofs.Common.{ℕ, ◌<◌, ◌≤◌, List, [], ◌∷◌, Bool, true, false, cond, ◌≡◌, refl, sym, ◌∙◌, ap, subst, suc, length, get_or, map, codes, arith}
use Rattle.std.specs.Cmp.Lexicographic.{slice_cmp, nat_list_cmp_total}
use Rattle.std.specs.FinMap.{nat_cmp-IsAntisymmetric, slice_cmp-IsAntisymmetric}
use Rattle.std.specs.List.{All, sum_by}
use Rattle.std.specs.List.Sorted.{IsSorted}
use Rattle.std.specs.Ordering.{is_lt, nat_cmp, ordering_reverse}
use Rattle.std.specs.declared.cmp.Ordering.{Ordering}
use Rattle.std.specs.declared.cmp.Ordering.TheVariants.{Less, Equal, Greater}
use Rattle.std.proofs.lemmas.List.Sorted.{ranks_by, sorted_far, sum_by-IsPermutation}
use Rattle.std.proofs.lemmas.List.Sums.{sum_by-cons, sum_by-le}
use Rattle.sn_record.specs.LabelSet.{Labels}
use Rattle.sn_output.specs.Line.{joined}
use Rattle.sn_output.specs.Types.{IsTypeText, variant_text}

abbrev Text : Type 0
Text = List ℕ

abbrev text_cmp : Text → Text → Ordering
text_cmp = slice_cmp nat_cmp

-- one where the text is below the other
abbrev below : Text → Text → ℕ
below y x = cond (is_lt (text_cmp x y)) 1 0

-- any function sums up alike over both lists
abbrev SumAlike : List Text → List Text → Type 0
SumAlike xs ys = (f : Text → ℕ) → sum_by f xs ≡ sum_by f ys

-- no text is below one before it
abbrev Rises : List Text → Type 0
Rises xs = (i j : ℕ) (d : Text) → i ≤ j → j < length xs → is_lt (text_cmp (get_or xs j d) (get_or xs i d)) ≡ false

rises : (xs : List Text) → IsSorted text_cmp xs → Rises xs
rises xs sorted i j d p q = sorted_far (λ x y. is_lt (text_cmp x y)) (ranks_by nat_list_cmp_total (λ x. x)) xs sorted i j d p q

rest_rises : (x : Text) (xs : List Text) → Rises (x ∷ xs) → Rises xs
rest_rises x xs up i j d p q = up (suc i) (suc j) d (omega arith) (omega arith)

-- none is below the first
none_below : (y : Text) (ys : List Text) → Rises (y ∷ ys) → sum_by (below y) (y ∷ ys) ≡ 0
none_below y ys up =
    let each : All (λ x. below y x ≤ 0) (y ∷ ys) = λ k d inside. subst (λ b. cond b 1 0 ≤ 0) (sym (up 0 k d (omega arith) inside)) (omega arith) in
    let most = sum_by-le (below y) 0 (y ∷ ys) each in
    omega arith

-- so the first of the one is not below the first of the other
not_below : (x y : Text) (xs ys : List Text) → SumAlike (x ∷ xs) (y ∷ ys) → Rises (y ∷ ys) → is_lt (text_cmp x y) ≡ false
not_below x y xs ys alike up = tested (is_lt (text_cmp x y)) none
  where
    none : below y x ≡ 0
    none =
        let first = sum_by-cons (below y) x xs in
        let all = alike (below y) in
        let zero_is = none_below y ys up in
        omega arith

    tested : (b : Bool) → ◌≡◌ {A = ℕ} (cond b 1 0) 0 → b ≡ false
    tested true e = absurd cc
    tested false e = refl

tie : (r t : Ordering) → t ≡ ordering_reverse r → is_lt r ≡ false → is_lt t ≡ false → r ≡ Equal
tie Less t is a b = absurd cc
tie Equal t is a b = refl
tie Greater t is a b = absurd cc

same_first : (x y : Text) (xs ys : List Text) → SumAlike (x ∷ xs) (y ∷ ys) → Rises (x ∷ xs) → Rises (y ∷ ys) → x ≡ y
same_first x y xs ys alike up rise =
    slice_cmp-IsAntisymmetric nat_cmp-IsAntisymmetric x y
    (tie (text_cmp x y) (text_cmp y x) (nat_list_cmp_total.antisymm y x) (not_below x y xs ys alike rise) (not_below y x ys xs (λ f. sym (alike f)) up))

same_sorted : (xs ys : List Text) → SumAlike xs ys → Rises xs → Rises ys → xs ≡ ys
same_sorted [] [] alike up rise = refl
same_sorted [] (y ∷ ys) alike up rise =
    let more = sum_by-cons (λ z. 1) y ys in
    let all = alike (λ z. 1) in
    absurd (omega arith)
same_sorted (x ∷ xs) [] alike up rise =
    let more = sum_by-cons (λ z. 1) x xs in
    let all = alike (λ z. 1) in
    absurd (omega arith)
same_sorted (x ∷ xs) (y ∷ ys) alike up rise =
    let first = same_first x y xs ys alike up rise in
    λ i. first i ∷ same_sorted xs ys rest (rest_rises x xs up) (rest_rises y ys rise) i
  where
    rest : SumAlike xs ys
    rest f =
        let at = ap f (same_first x y xs ys alike up rise) in
        let one = sum_by-cons f x xs in
        let other = sum_by-cons f y ys in
        let all = alike f in
        omega arith

pub same_type_text : (names : List Text) (variants : List Labels) (text other : Text) → IsTypeText names variants text → IsTypeText names variants other → text ≡ other
same_type_text names variants text other a b =
    let alike : SumAlike a.texts b.texts = λ f. sum_by-IsPermutation f (map (variant_text names) variants) a.texts a.permuted ∙ sym (sum_by-IsPermutation f (map (variant_text names) variants) b.texts b.permuted) in
    a.text_is ∙ ap (joined (codes " | ")) (same_sorted a.texts b.texts alike (rises a.texts a.sorted) (rises b.texts b.sorted)) ∙ sym b.text_is
