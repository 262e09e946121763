-- Sets of labels by which labels they hold.
use Rattle.std.proofs.Common.{◌≡◌, ◌&&◌, ◌||◌, Bool, true, false, cond, not, IsTrue, None, Some, Option, refl, sym, ap, ◌∙◌, is_some}
use Rattle.std.specs.Option.{option_or}
use Rattle.std.specs.Ordering.{eq_by_cmp}
use Rattle.std.specs.FinMap as map
use Rattle.sn_record.specs.declared.label.Label.{Label}
use Rattle.sn_record.specs.Label.{label_cmp, label_cmp_total, label_cmp-IsAntisymmetric}
use Rattle.sn_record.specs.LabelSet.{Labels, contains, IsSubset, union, minus}
use Rattle.sn_record.proofs.Maps.{get-append, get-retain_keys, is_some-cond}

same_unit : (x y : Option (Unit {0})) → is_some x ≡ is_some y → x ≡ y
same_unit None None e = refl
same_unit None (Some y) e = cc
same_unit (Some x) None e = cc
same_unit (Some x) (Some y) e = refl

-- sets that hold the same labels are one
pub same_labels : (s t : Labels) → ((l : Label) → contains s l ≡ contains t l) → s ≡ t
same_labels s t same = map.same_map label_cmp_total label_cmp-IsAntisymmetric s t (λ l. same_unit _ _ (same l))

-- a set with one label more
pub contains-insert : (s : Labels) (k l : Label) → contains (map.insert s k tt) l ≡ (eq_by_cmp label_cmp l k || contains s l)
contains-insert s k l = ap is_some (map.get-insert label_cmp_total s k tt l) ∙ is_some-cond _ tt _

is_some-option_or : {A : Type 0} (x y : Option A) → is_some (option_or x y) ≡ (is_some x || is_some y)
is_some-option_or None y = refl
is_some-option_or (Some x) y = refl

pub contains-union : (s t : Labels) (l : Label) → contains (union s t) l ≡ (contains s l || contains t l)
contains-union s t l = ap is_some (get-append s t l) ∙ is_some-option_or _ _

is_some-cond_none : {A : Type 0} (b : Bool) (x : Option A) → is_some (cond b x None) ≡ (is_some x && b)
is_some-cond_none true None = refl
is_some-cond_none true (Some x) = refl
is_some-cond_none false None = refl
is_some-cond_none false (Some x) = refl

pub contains-minus : (s t : Labels) (l : Label) → contains (minus s t) l ≡ (contains s l && not (contains t l))
contains-minus s t l = ap is_some (get-retain_keys s (λ k. not (contains t k)) l) ∙ is_some-cond_none (not (contains t l)) (map.get s l)

or_left : (a b : Bool) → IsTrue a → IsTrue (a || b)
or_left true b e = refl
or_left false b e = cc

or_right : (a b : Bool) → IsTrue b → IsTrue (a || b)
or_right true b e = refl
or_right false b e = e

and_left : (a b : Bool) → IsTrue (a && b) → IsTrue a
and_left true b e = refl
and_left false b e = e

pub IsSubset-union_left : (s t : Labels) → IsSubset s (union s t)
IsSubset-union_left s t l there = contains-union s t l ∙ or_left _ _ there

pub IsSubset-union_right : (s t : Labels) → IsSubset t (union s t)
IsSubset-union_right s t l there = contains-union s t l ∙ or_right _ _ there

pub IsSubset-minus : (s t : Labels) → IsSubset (minus s t) s
IsSubset-minus s t l there = and_left _ (not (contains t l)) (sym (contains-minus s t l) ∙ there)
