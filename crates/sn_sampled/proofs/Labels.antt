-- Sets of labels that are told by lists of the labels.
use Rattle.std.proofs.Common.{◌≡◌, ◌&&◌, ◌||◌, Bool, true, false, not, List, [], ◌∷◌, ◌++◌, refl, sym, ap, ◌∙◌, subst}
use Rattle.std.specs.FinMap as map
use Rattle.std.specs.List.{list_all, list_any}
use Rattle.std.specs.Ordering.{eq_by_cmp}
use Rattle.std.proofs.lemmas.Bool.{and_parts}
use Rattle.sn_net.specs.Face.{variant_of}
use Rattle.sn_record.specs.declared.label.Label.{Label}
use Rattle.sn_record.specs.Fits.{Fits}
use Rattle.sn_record.specs.Label.{is_binding, label_cmp}
use Rattle.sn_record.specs.LabelSet.{Labels, contains, union, minus}
use Rattle.sn_record.proofs.Maps.{same_label}
use Rattle.sn_record.proofs.Sets.{same_labels, contains-insert, contains-union, contains-minus}
use Rattle.sn_typing.proofs.Subsets.{contains-variant_of}

-- whether the label is in the list
abbrev pub has : List Label → Label → Bool
has labels l = list_any (eq_by_cmp label_cmp l) labels

-- the set holds what the list does
abbrev pub Holds : Labels → List Label → Type 0
Holds set labels = (l : Label) → contains set l ≡ has labels l

pub holds_none : Holds map.empty []
holds_none l = contains-variant_of [] l

pub holds_more : (set : Labels) (labels : List Label) (k : Label) → Holds set labels → Holds (map.insert set k tt) (k ∷ labels)
holds_more set labels k holds l = contains-insert set k l ∙ ap (λ b. eq_by_cmp label_cmp l k || b) (holds l)

pub holds_all : (labels : List Label) → Holds (variant_of labels) labels
holds_all = contains-variant_of

-- what passes for each label of a list passes for one in it
has_then : (P : Label → Bool) (labels : List Label) (l : Label) → has labels l ≡ true → list_all P labels ≡ true → P l ≡ true
has_then P [] l here all = absurd (differ here)
  where
    differ : false ≡ true → ⊥
    differ e = cc
has_then P (k ∷ labels) l here all =
    let parts = and_parts (P k) (list_all P labels) all in
    elim (eq_by_cmp label_cmp l k) as (λ b. eq_by_cmp label_cmp l k ≡ b → (b || has labels l) ≡ true → P l ≡ true) [
      | true ↦ λ same h. ap P (same_label l k same) ∙ parts.0
      | false ↦ λ other h. has_then P labels l h parts.1
    ] refl here

-- a set fits another where each label of its list is in the other's, and each binding tag of that is in its own
pub fits_by_lists : (s t : Labels) (xs ys : List Label) → Holds s xs → Holds t ys → list_all (has ys) xs ≡ true → list_all (λ l. not (is_binding l) || has xs l) ys ≡ true → Fits s t
fits_by_lists s t xs ys s_holds t_holds all named = record {
  within = λ l there. t_holds l ∙ has_then (has ys) xs l (sym (s_holds l) ∙ there) all;
  bound = λ l binds there.
      s_holds l ∙ subst (λ b. (not b || has xs l) ≡ true) binds (has_then (λ k. not (is_binding k) || has xs k) ys l (sym (t_holds l) ∙ there) named);
}

both_ways : (a b : Bool) → (a ≡ true → b ≡ true) → (b ≡ true → a ≡ true) → a ≡ b
both_ways true true f g = refl
both_ways true false f g = sym (f refl)
both_ways false true f g = g refl
both_ways false false f g = refl

-- a set whose list has the same labels as another list holds this
pub holds_same : (s : Labels) (xs ys : List Label) → Holds s xs → list_all (has ys) xs ≡ true → list_all (has xs) ys ≡ true → Holds s ys
holds_same s xs ys holds there back l = holds l ∙ both_ways (has xs l) (has ys l) (λ h. has_then (has ys) xs l h there) (λ h. has_then (has xs) ys l h back)

or_split : (xs ys : List Label) (l : Label) → has (xs ++ ys) l ≡ (has xs l || has ys l)
or_split [] ys l = refl
or_split (x ∷ xs) ys l = ap (λ b. eq_by_cmp label_cmp l x || b) (or_split xs ys l) ∙ assoc (eq_by_cmp label_cmp l x) (has xs l) (has ys l)
  where
    assoc : (a b c : Bool) → (a || (b || c)) ≡ ((a || b) || c)
    assoc true b c = refl
    assoc false b c = refl

pub holds_union : (s t : Labels) (xs ys : List Label) → Holds s xs → Holds t ys → Holds (union s t) (xs ++ ys)
holds_union s t xs ys s_holds t_holds l = contains-union s t l ∙ (λ i. s_holds l i || t_holds l i) ∙ sym (or_split xs ys l)

-- sets that hold one list are one
pub held_once : (s t : Labels) (xs : List Label) → Holds s xs → Holds t xs → s ≡ t
held_once s t xs s_holds t_holds = same_labels s t (λ l. s_holds l ∙ sym (t_holds l))

-- what flows out of a component holds the labels of the output, and those that came and are not named
pub holds_flow : (s t u : Labels) (xs ts us zs : List Label) → Holds s xs → Holds t ts → Holds u us → list_all (has zs) xs ≡ true → list_all (λ q. has us q || has zs q) ts ≡ true →
    list_all (λ q. has xs q || (has ts q && not (has us q))) zs ≡ true → Holds (union s (minus t u)) zs
holds_flow s t u xs ts us zs s_holds t_holds u_holds own kept back l =
    contains-union s (minus t u) l ∙ ap (λ b. contains s l || b) (contains-minus t u l) ∙ (λ i. s_holds l i || (t_holds l i && not (u_holds l i)))
    ∙ both_ways _ (has zs l) (λ h. forth (has xs l) (has ts l) (has us l) (has zs l) (λ e. has_then (has zs) xs l e own) (λ e. has_then (λ q. has us q || has zs q) ts l e kept) h)
    (λ h. has_then (λ q. has xs q || (has ts q && not (has us q))) zs l h back)
  where
    forth : (a b c d : Bool) → (a ≡ true → d ≡ true) → (b ≡ true → (c || d) ≡ true) → (a || (b && not c)) ≡ true → d ≡ true
    forth true b c d f g h = f refl
    forth false true false d f g h = g refl
    forth false true true d f g h = absurd (differ h)
      where
        differ : false ≡ true → ⊥
        differ e = cc
    forth false false c d f g h = absurd (differ h)
      where
        differ : false ≡ true → ⊥
        differ e = cc
