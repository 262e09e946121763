-- The subsets of a set of labels as a list, the union of a list of sets, and what can be decided of sets.
use Rattle.std.proofs.Common.{◌≡◌, ◌&&◌, ◌||◌, Bool, true, false, not, is_some, IsTrue, inl, inr, true≢false, refl, sym, ap, ◌∙◌, subst}
use Rattle.std.specs.Prelude.{List, [], ◌∷◌, ◌++◌, map as each}
use Rattle.std.specs.Cmp.{both_ways}
use Rattle.std.specs.List.{list_any}
use Rattle.std.specs.Ordering.{eq_by_cmp}
use Rattle.std.specs.FinMap as map
use Rattle.std.proofs.Math.Decide.{map_dec}
use Rattle.std.proofs.lemmas.Bool.{false_from_ne_true}
use Rattle.sn_record.specs.declared.label.Label.{Label}
use Rattle.sn_record.specs.Label.{label_cmp}
use Rattle.sn_record.specs.LabelSet.{Labels, contains, IsSubset, union, minus}
use Rattle.sn_record.proofs.Maps.{same_label}
use Rattle.sn_record.proofs.Sets.{same_labels, contains-insert, contains-minus, IsSubset-union_left, IsSubset-union_right}
use Rattle.sn_record.specs.Fits.{BindAlike, bind_alike, Fits, fits}
use Rattle.sn_record.proofs.Fitting.{fits-Fits, fits_itself, bind_alike-BindAlike}
use Rattle.sn_types.specs.RecordType.{HasFit, has_fit}
use Rattle.sn_types.proofs.Subtypes.{has_fit-HasFit}
use Rattle.sn_typing.proofs.Subsets.{or_false, within_within}
use Rattle.sn_typing.specs.Flow.{Takes}
use Rattle.sn_typing.proofs.Listed.{Among, among_contained, among_each, among_left, among_right, contained_among, dec_both, dec_each, listed_among}

-- ---- what can be decided

pub dec_true : (b : Bool) → Dec (IsTrue b)
dec_true true = yes refl
dec_true false = no (λ e. cc)

pub dec_fits : (s t : Labels) → Dec (Fits s t)
dec_fits s t = map_dec (fits-Fits s t).0 (fits-Fits s t).1 (dec_true (fits s t))

pub dec_alike : (s t : Labels) → Dec (BindAlike s t)
dec_alike s t = map_dec (bind_alike-BindAlike s t).0 (bind_alike-BindAlike s t).1 (dec_true (bind_alike s t))

dec_has_fit : (variants : List Labels) (v : Labels) → Dec (HasFit variants v)
dec_has_fit variants v = map_dec (has_fit-HasFit variants v).0 (has_fit-HasFit variants v).1 (dec_true (has_fit variants v))

pub dec_takes : (takes : List Labels) (v : Labels) → Dec (Takes takes v)
dec_takes takes v = map_dec
    (λ (has, alike). record { has = has; alike = λ s t one other. alike s (contained_among takes s one) t (contained_among takes t other) })
    (λ all. (all.has, λ s one t other. all.alike s t (among_contained takes s one) (among_contained takes t other)))
    (dec_both (dec_has_fit takes v) (dec_each (listed_among takes) (λ s. dec_each (listed_among takes) (λ t. dec_alike s t))))

same_both : (s t : Labels) → Fits s t × Fits t s → s ≡ t
same_both s t both = same_labels s t (λ l. both_ways (contains s l) (contains t l) (both.0.within l) (both.1.within l))

pub dec_same : (s t : Labels) → Dec (s ≡ t)
dec_same s t = map_dec
    (same_both s t)
    (λ same. (subst (Fits s) same (fits_itself s), subst (λ u. Fits u s) same (fits_itself s)))
    (dec_both (dec_fits s t) (dec_fits t s))

-- ---- unions

pub all_of : List Labels → Labels
all_of [] = map.empty
all_of (s ∷ rest) = union s (all_of rest)

pub among_all : (sets : List Labels) (s : Labels) → Among sets s → IsSubset s (all_of sets)
unfolding all_of
among_all [] s among = absurd among
among_all (t ∷ rest) s (inl same) = subst (λ u. IsSubset u (union t (all_of rest))) same (IsSubset-union_left t (all_of rest))
among_all (t ∷ rest) s (inr among) = within_within s (all_of rest) (union t (all_of rest)) (among_all rest s among) (IsSubset-union_right t (all_of rest))

-- ---- subsets

abbrev one : Label → Labels
one k = map.insert map.empty k tt

contains-one : (k l : Label) → contains (one k) l ≡ eq_by_cmp label_cmp l k
contains-one k l = contains-insert map.empty k l ∙ rw (map.get-empty {X = Unit {0}} label_cmp l) (or_false (eq_by_cmp label_cmp l k))

contains-without : (u : Labels) (k l : Label) → contains (minus u (one k)) l ≡ (contains u l && not (eq_by_cmp label_cmp l k))
contains-without u k l = contains-minus u (one k) l ∙ ap (λ b. contains u l && not b) (contains-one k l)

put_back : (had same : Bool) → (IsTrue same → IsTrue had) → (same || (had && not same)) ≡ had
put_back true true at = refl
put_back true false at = refl
put_back false true at = sym (at refl)
put_back false false at = refl

left_over : (had same listed : Bool) → (IsTrue had → IsTrue (same || listed)) → IsTrue (had && not same) → IsTrue listed
left_over true true listed among there = cc
left_over true false listed among there = among refl
left_over false same listed among there = cc

other : (same listed : Bool) → (IsTrue same → ⊥) → IsTrue (same || listed) → IsTrue listed
other true listed never there = absurd (never refl)
other false listed never there = there

-- where u has k, it is what else it has, and k
with_it_back : (u : Labels) (k : Label) → IsTrue (contains u k) → map.insert (minus u (one k)) k tt ≡ u
with_it_back u k has = same_labels (map.insert (minus u (one k)) k tt) u (λ l.
    contains-insert (minus u (one k)) k l
    ∙ ap (λ b. eq_by_cmp label_cmp l k || b) (contains-without u k l)
    ∙ put_back (contains u l) (eq_by_cmp label_cmp l k) (λ same. subst (λ m. IsTrue (contains u m)) (sym (same_label l k same)) has))

abbrev each_with : Label → List Labels → List Labels
each_with k sets = each (λ s. map.insert s k tt) sets

subsets : List Label → List Labels
subsets [] = map.empty ∷ []
subsets (k ∷ keys) = subsets keys ++ each_with k (subsets keys)

-- all labels of u are among the keys
abbrev HasOnly : List Label → Labels → Type 0
HasOnly keys u = (l : Label) → IsTrue (contains u l) → IsTrue (list_any (eq_by_cmp label_cmp l) keys)

has_none : (u : Labels) → HasOnly [] u → map.empty ≡ u
has_none u only = same_labels map.empty u (λ l.
    let none = false_from_ne_true (contains u l) (λ there. true≢false (sym (only l there))) in
    ap is_some (map.get-empty {X = Unit {0}} label_cmp l) ∙ sym none)

only_others : (k : Label) (keys : List Label) (u : Labels) → HasOnly (k ∷ keys) u → HasOnly keys (minus u (one k))
only_others k keys u only l there =
    left_over (contains u l) (eq_by_cmp label_cmp l k) (list_any (eq_by_cmp label_cmp l) keys) (only l) (sym (contains-without u k l) ∙ there)

only_later : (k : Label) (keys : List Label) (u : Labels) → (IsTrue (contains u k) → ⊥) → HasOnly (k ∷ keys) u → HasOnly keys u
only_later k keys u never only l there =
    let apart : IsTrue (eq_by_cmp label_cmp l k) → ⊥ = λ same. never (subst (λ m. IsTrue (contains u m)) (same_label l k same) there) in
    other (eq_by_cmp label_cmp l k) (list_any (eq_by_cmp label_cmp l) keys) apart (only l there)

among_subsets : (keys : List Label) (u : Labels) → HasOnly keys u → Among (subsets keys) u
unfolding subsets
among_subsets [] u only = inl (has_none u only)
among_subsets (k ∷ keys) u only = elim (dec_true (contains u k)) [
  | yes has ↦
      let others = among_subsets keys (minus u (one k)) (only_others k keys u only) in
      let back = among_each (λ s. map.insert s k tt) (subsets keys) (minus u (one k)) others in
      among_right (subsets keys) (each_with k (subsets keys)) u (subst (Among (each_with k (subsets keys))) (with_it_back u k has) back)
  | no never ↦ among_left (subsets keys) (each_with k (subsets keys)) u (among_subsets keys u (only_later k keys u never only))
]

pub subsets_of : Labels → List Labels
subsets_of s = subsets (map.keys s)

pub subset_among : (s u : Labels) → IsSubset u s → Among (subsets_of s) u
unfolding subsets_of
subset_among s u within = among_subsets (map.keys s) u (λ l there. sym (map.contains_key-keys s l) ∙ within l there)
