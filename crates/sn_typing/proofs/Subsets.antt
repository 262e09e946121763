-- Label sets within one another, and the labels of records.
use Rattle.std.proofs.Common.{◌≡◌, ◌&&◌, ◌||◌, Bool, true, false, not, IsTrue, List, [], ◌∷◌, refl, sym, ap, ◌∙◌}
use Rattle.std.specs.List.{fold, list_any}
use Rattle.std.specs.Ordering.{eq_by_cmp}
use Rattle.std.specs.FinMap as map
use Rattle.sn_record.specs.declared.label.Label.{Label}
use Rattle.sn_record.specs.Label.{label_cmp}
use Rattle.sn_record.specs.LabelSet.{Labels, contains, IsSubset, union, minus}
use Rattle.sn_record.specs.Record.{Entries, Matches}
use Rattle.sn_record.specs.Fits.{BindAlike, Fits, FitsAmong}
use Rattle.sn_record.proofs.Sets.{contains-insert, contains-union, contains-minus, IsSubset-union_left}
use Rattle.sn_record.proofs.Fitting.{fits_same}
use Rattle.sn_net.specs.Face.{variant_of}
use Rattle.sn_typing.specs.Typed.{labels_of}

pub or_false : (b : Bool) → (b || false) ≡ b
or_false true = refl
or_false false = refl

pub or_turned : (a b c : Bool) → ((a || b) || c) ≡ (b || (a || c))
or_turned true true c = refl
or_turned true false c = refl
or_turned false b c = refl

either_more : (a a' b b' : Bool) → (IsTrue a → IsTrue a') → (IsTrue b → IsTrue b') → IsTrue (a || b) → IsTrue (a' || b')
either_more true true b b' f g h = refl
either_more true false b b' f g h = absurd (differ (f refl))
  where
    differ : false ≡ true → ⊥
    differ e = cc
either_more false true b b' f g h = refl
either_more false false b b' f g h = g h

both_more : (a a' b : Bool) → (IsTrue a → IsTrue a') → IsTrue (a && b) → IsTrue (a' && b)
both_more true true b f h = h
both_more true false b f h = absurd (differ (f refl))
  where
    differ : false ≡ true → ⊥
    differ e = cc
both_more false true b f h = absurd (differ h)
  where
    differ : false ≡ true → ⊥
    differ e = cc
both_more false false b f h = h

either_case : (a b c : Bool) → (IsTrue a → IsTrue c) → (IsTrue b → IsTrue c) → IsTrue (a || b) → IsTrue c
either_case true b c f g h = f refl
either_case false b c f g h = g h

pub within_within : (s t u : Labels) → IsSubset s t → IsSubset t u → IsSubset s u
within_within s t u first second l there = second l (first l there)

pub union_within : (s t u : Labels) → IsSubset s u → IsSubset t u → IsSubset (union s t) u
union_within s t u first second l there =
    either_case (contains s l) (contains t l) (contains u l) (first l) (second l) (sym (contains-union s t l) ∙ there)

-- each part may become larger
pub union_more : (s s' t t' : Labels) → IsSubset s s' → IsSubset t t' → IsSubset (union s t) (union s' t')
union_more s s' t t' first second l there =
    contains-union s' t' l ∙ either_more (contains s l) (contains s' l) (contains t l) (contains t' l) (first l) (second l) (sym (contains-union s t l) ∙ there)

pub minus_more : (s s' t : Labels) → IsSubset s s' → IsSubset (minus s t) (minus s' t)
minus_more s s' t more l there =
    contains-minus s' t l ∙ both_more (contains s l) (contains s' l) (not (contains t l)) (more l) (sym (contains-minus s t l) ∙ there)

-- the labels of a list, and those that were there
contains-fold : (labels : List Label) (s : Labels) (l : Label)
    → contains (fold (λ variant label. map.insert variant label tt) s labels) l ≡ (list_any (eq_by_cmp label_cmp l) labels || contains s l)
contains-fold [] s l = refl
contains-fold (k ∷ labels) s l =
    contains-fold labels (map.insert s k tt) l
    ∙ ap (λ b. list_any (eq_by_cmp label_cmp l) labels || b) (contains-insert s k l)
    ∙ sym (or_turned (eq_by_cmp label_cmp l k) (list_any (eq_by_cmp label_cmp l) labels) (contains s l))

pub contains-variant_of : (labels : List Label) (l : Label) → contains (variant_of labels) l ≡ list_any (eq_by_cmp label_cmp l) labels
contains-variant_of labels l =
    contains-fold labels map.empty l
    ∙ rw (map.get-empty {X = Unit {0}} label_cmp l) (or_false (list_any (eq_by_cmp label_cmp l) labels))

-- the labels of a record are those at which it has something
pub contains-labels_of : (r : Entries) (l : Label) → contains (labels_of r) l ≡ map.contains_key r l
contains-labels_of r l = contains-variant_of (map.keys r) l ∙ sym (map.contains_key-keys r l)

pub matched_labels : (r : Entries) (v : Labels) → Matches r v → Fits v (labels_of r)
matched_labels r v matches = fits_same (map.contains_key r) (contains (labels_of r)) v (λ l. sym (contains-labels_of r l)) matches

pub labels_matched : (r : Entries) (v : Labels) → Fits v (labels_of r) → Matches r v
labels_matched r v fit = fits_same (contains (labels_of r)) (map.contains_key r) v (contains-labels_of r) fit

-- ---- what fits goes on fitting

pub union_fits : (s s' t t' : Labels) → Fits s s' → Fits t t' → Fits (union s t) (union s' t')
union_fits s s' t t' first second = record {
  within = union_more s s' t t' first.within second.within;
  bound = λ l binds there.
      contains-union s t l
      ∙ either_more (contains s' l) (contains s l) (contains t' l) (contains t l) (first.bound l binds) (second.bound l binds) (sym (contains-union s' t' l) ∙ there);
}

pub minus_fits : (s s' t : Labels) → Fits s s' → Fits (minus s t) (minus s' t)
minus_fits s s' t fit = record {
  within = minus_more s s' t fit.within;
  bound = λ l binds there. contains-minus s t l ∙ both_more (contains s' l) (contains s l) (not (contains t l)) (fit.bound l binds) (sym (contains-minus s' t l) ∙ there);
}

-- ---- two sets that fit the same labels

pub union_fit : (has : Label → Bool) (s t : Labels) → FitsAmong has s → FitsAmong has t → FitsAmong has (union s t)
union_fit has s t first second = record {
  within = λ l there. either_case (contains s l) (contains t l) (has l) (first.within l) (second.within l) (sym (contains-union s t l) ∙ there);
  bound = λ l binds there. IsSubset-union_left s t l (first.bound l binds there);
}

pub both_alike : (has : Label → Bool) (s t : Labels) → FitsAmong has s → FitsAmong has t → BindAlike s t
both_alike has s t first second l binds =
    as_one (contains s l) (contains t l) (λ there. second.bound l binds (first.within l there)) (λ there. first.bound l binds (second.within l there))
  where
    as_one : (a b : Bool) → (IsTrue a → IsTrue b) → (IsTrue b → IsTrue a) → a ≡ b
    as_one true b f g = sym (f refl)
    as_one false true f g = g refl
    as_one false false f g = refl
