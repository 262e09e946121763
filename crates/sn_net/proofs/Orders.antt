-- The order of variants, and what is left of a list that was sorted by it.
use Rattle.std.proofs.Common.{◌≡◌, ℕ, ◌+◌, ◌<◌, ◌≤◌, ◌==◌, Bool, true, false, not, ◌&&◌, ◌↔◌, List, [], ◌∷◌, length, drop, map as each, Some, refl, sym, ap, ◌∙◌, subst}
use Rattle.std.specs.Prelude.{slice_get}
use Rattle.std.specs.List.{Contains, dedup}
use Rattle.std.specs.List.Sorted.{IsPermutation, IsSorted, IsStrictlySortedBy}
use Rattle.std.specs.Ordering.{ordering_then, ordering_index, eq_by_cmp}
use Rattle.std.specs.declared.cmp.Ordering.{Ordering}
use Rattle.std.specs.declared.cmp.Ordering.TheVariants.{Less, Equal, Greater}
use Rattle.std.specs.Cmp.{IsTotalOrder, on_total, both_tied, eq_by_cmp_equiv, Equal-is}
use Rattle.std.specs.Cmp.Lexicographic.{slice_cmp, lists_total, pointwise}
use Rattle.std.specs.FinMap as map
use Rattle.std.specs.FinMap.{slice_cmp-IsAntisymmetric}
use Rattle.std.proofs.lemmas.List.{drop_more, length-map}
use Rattle.std.proofs.lemmas.List.Kept.{IsStrictlySortedBy-dedup, Contains-dedup, Contains-from_dedup}
use Rattle.std.proofs.lemmas.List.Sorted.{Contains-permutation, IsPermutation-sym}
use Rattle.std.proofs.lemmas.Option.{slice_get_within, get_or_from_slice_get}
use Rattle.std.proofs.Math.ListN.{drop_of_length-le}
use Rattle.sn_record.specs.declared.label.Label.{Label}
use Rattle.sn_record.specs.declared.label.Kind.TheVariants.{Field}
use Rattle.sn_record.specs.Label.{label_cmp, label_cmp_total, label_cmp-IsAntisymmetric}
use Rattle.sn_record.specs.LabelSet.{Labels}
use Rattle.sn_net.specs.Face.{variant_cmp}

pub variant_cmp_total : IsTotalOrder variant_cmp
variant_cmp_total = on_total map.keys (lists_total label_cmp_total)

-- a list from the place of one of its elements on
front : (xs : List Label) (i : ℕ) (a : Label) → slice_get xs i ≡ Some a → drop i xs ≡ a ∷ drop (i + 1) xs
front xs i a is = drop_more xs i a (slice_get_within xs i a is) ∙ ap (λ x. x ∷ drop (i + 1) xs) (get_or_from_slice_get xs i a a is)

-- the elements at one place, and then what comes after them
cmp_at : (xs ys : List Label) (i : ℕ) (a b : Label) → slice_get xs i ≡ Some a → slice_get ys i ≡ Some b
    → slice_cmp label_cmp (drop i xs) (drop i ys) ≡ ordering_then (label_cmp a b) (slice_cmp label_cmp (drop (i + 1) xs) (drop (i + 1) ys))
cmp_at xs ys i a b at_xs at_ys = λ k. slice_cmp label_cmp (front xs i a at_xs k) (front ys i b at_ys k)

-- what is not equal decides
decides : (r s : Ordering) → true ≡ not (ordering_index r == 1) → ordering_then r s ≡ r
decides Less s e = refl
decides Equal s e = cc
decides Greater s e = refl

-- what is equal does not
leaves : (r s : Ordering) → false ≡ not (ordering_index r == 1) → ordering_then r s ≡ s
leaves Less s e = cc
leaves Equal s e = refl
leaves Greater s e = cc

-- the elements at one place decide
pub cmp_decided : (xs ys : List Label) (i : ℕ) (a b : Label) (r : Ordering) → slice_get xs i ≡ Some a → slice_get ys i ≡ Some b → r ≡ label_cmp a b → true ≡ not (ordering_index r == 1)
    → slice_cmp label_cmp (drop i xs) (drop i ys) ≡ r
cmp_decided xs ys i a b r at_xs at_ys is apart =
    let rest = slice_cmp label_cmp (drop (i + 1) xs) (drop (i + 1) ys) in
    cmp_at xs ys i a b at_xs at_ys ∙ ap (λ o. ordering_then o rest) (sym is) ∙ decides r rest apart

-- what comes after them decides
pub cmp_goes_on : (xs ys : List Label) (i : ℕ) (a b : Label) (r : Ordering) → slice_get xs i ≡ Some a → slice_get ys i ≡ Some b → r ≡ label_cmp a b → false ≡ not (ordering_index r == 1)
    → slice_cmp label_cmp (drop i xs) (drop i ys) ≡ slice_cmp label_cmp (drop (i + 1) xs) (drop (i + 1) ys)
cmp_goes_on xs ys i a b r at_xs at_ys is ties =
    let rest = slice_cmp label_cmp (drop (i + 1) xs) (drop (i + 1) ys) in
    cmp_at xs ys i a b at_xs at_ys ∙ ap (λ o. ordering_then o rest) (sym is) ∙ leaves r rest ties

-- a default that no look-up within a list gives
no_label : Label
no_label = record { kind = Field; id = 0 }

-- the second list ended before
pub cmp_longer : (xs ys : List Label) (i : ℕ) → length ys ≤ i → i < length xs → slice_cmp label_cmp (drop i xs) (drop i ys) ≡ Greater
cmp_longer xs ys i past within = λ k. slice_cmp label_cmp (drop_more xs i no_label within k) (drop_of_length-le ys past k)

-- the first list ended before
pub cmp_shorter : (xs ys : List Label) (i : ℕ) → length xs ≤ i → i < length ys → slice_cmp label_cmp (drop i xs) (drop i ys) ≡ Less
cmp_shorter xs ys i past within = λ k. slice_cmp label_cmp (drop_of_length-le xs past k) (drop_more ys i no_label within k)

-- both ended
pub cmp_ended : (xs ys : List Label) (i : ℕ) → length xs ≤ i → length ys ≤ i → slice_cmp label_cmp (drop i xs) (drop i ys) ≡ Equal
cmp_ended xs ys i past_xs past_ys = λ k. slice_cmp label_cmp (drop_of_length-le xs past_xs k) (drop_of_length-le ys past_ys k)

-- the number of labels
pub length-keys : (v : Labels) → length (map.keys v) ≡ map.len v
length-keys v = length-map (map.entries v) (λ e. e.0) ∙ sym (map.len-entries v)

and_true : (b : Bool) → (b && true) ≡ b
and_true true = refl
and_true false = refl

-- entries with nothing at each label are equal where their labels tie
pub ties_by_keys : (U : Unit {0} → Unit {0} → Bool) → ((x y : Unit {0}) → U x y ≡ true) → (es fs : List (Label × Unit {0}))
    → pointwise (λ p q. eq_by_cmp label_cmp p.0 q.0 && U p.1 q.1) es fs ≡ eq_by_cmp (slice_cmp label_cmp) (each (λ e. e.0) es) (each (λ e. e.0) fs)
ties_by_keys U same [] [] = refl
ties_by_keys U same [] (f ∷ fs) = refl
ties_by_keys U same (e ∷ es) [] = refl
ties_by_keys U same (e ∷ es) (f ∷ fs) =
    both_tied _ _ (label_cmp e.0 f.0) (slice_cmp label_cmp (each (λ e. e.0) es) (each (λ e. e.0) fs)) (ap (λ b. eq_by_cmp label_cmp e.0 f.0 && b) (same e.1 f.1) ∙ and_true _) (ties_by_keys U same es fs)

-- entries with nothing at each label are their labels
same_entries : (es fs : List (Label × Unit {0})) → each (λ e. e.0) es ≡ each (λ e. e.0) fs → es ≡ fs
same_entries es fs same = sym (with_nothing es) ∙ ap (each (λ l. (l, tt))) same ∙ with_nothing fs
  where
    with_nothing : (es : List (Label × Unit {0})) → each (λ l. (l, tt)) (each (λ e. e.0) es) ≡ es
    with_nothing [] = refl
    with_nothing (e ∷ es) = ap (λ rest. e ∷ rest) (with_nothing es)

-- variants that tie are one
pub same_variant : (v w : Labels) → eq_by_cmp variant_cmp v w ≡ true → v ≡ w
same_variant v w ties =
    map.same_entries_map v w (same_entries _ _ (slice_cmp-IsAntisymmetric label_cmp-IsAntisymmetric (map.keys v) (map.keys w) ((Equal-is (variant_cmp v w)).0 ties)))

-- a sorted list without its repeats ascends strictly
pub once_each-ascending : (sorted after : List Labels) → after ≡ dedup (eq_by_cmp variant_cmp) sorted → IsSorted variant_cmp sorted → IsStrictlySortedBy variant_cmp after
once_each-ascending sorted after is rises = subst (IsStrictlySortedBy variant_cmp) (sym is) (IsStrictlySortedBy-dedup variant_cmp_total (λ v w. refl) sorted rises)

-- what is moved and without its repeats has the same elements
pub once_each-same : (before sorted after : List Labels) → after ≡ dedup (eq_by_cmp variant_cmp) sorted → IsPermutation before sorted → (v : Labels) → Contains after v ↔ Contains before v
once_each-same before sorted after is moved v = (
  λ there. Contains-permutation sorted before v (IsPermutation-sym before sorted moved) (Contains-from_dedup (eq_by_cmp variant_cmp) sorted v (subst (λ vs. Contains vs v) is there)),
  λ there. subst (λ vs. Contains vs v) (sym is) (Contains-dedup (eq_by_cmp_equiv variant_cmp_total) same_variant sorted v (Contains-permutation before sorted v moved there)),
)
