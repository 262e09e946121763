-- Records by what stands at each label.
use Rattle.std.proofs.Common.{◌≡◌, ℕ, ◌<◌, ◌&&◌, ◌||◌, Bool, true, false, cond, not, IsTrue, List, [], ◌∷◌, length, get_or, None, Some, Option, IfSome, refl, sym, ap, ◌∙◌, subst, is_some}
use Rattle.std.specs.Prelude.{if◌then◌else◌, slice_get, Result, Ok, Err, OnOk, OnErr}
use Rattle.std.specs.List.{All}
use Rattle.std.proofs.lemmas.List.Elements.{All-head, All-tail}
use Rattle.std.specs.Option.{option_or}
use Rattle.std.specs.Ordering.{eq_by_cmp}
use Rattle.std.specs.FinMap as map
use Rattle.std.specs.FinMap.{find}
use Rattle.std.proofs.lemmas.Option.{slice_get-get_or}
use Rattle.sn_record.specs.declared.label.Label.{Label}
use Rattle.sn_record.specs.declared.value.Value.{Value}
use Rattle.sn_record.specs.Label.{label_cmp, label_cmp_total, label_cmp-IsAntisymmetric}
use Rattle.sn_record.specs.LabelSet.{Labels, contains}
use Rattle.sn_record.specs.Record.{Entries, FitsLabel, IsRecord, is_missing, overlay, restrict, inherit}
use Rattle.sn_record.proofs.Maps.{ties_itself, same_label, option_or-none, is_some-cond, get-append, get-retain_keys, get-slice_get}

-- records that have the same value at each label are one
pub same_record : (r s : Entries) → ((l : Label) → map.get r l ≡ map.get s l) → r ≡ s
same_record r s same = map.same_map label_cmp_total label_cmp-IsAntisymmetric r s same

-- what was set is there
pub get-insert_same : (r : Entries) (l : Label) (v : Value) → map.get (map.insert r l v) l ≡ Some v
get-insert_same r l v = map.get-insert label_cmp_total r l v l ∙ ap (λ b. cond b (Some v) (map.get r l)) (ties_itself l)

-- what stands at other labels stays
pub get-insert_other : (r : Entries) (l k : Label) (v : Value) → eq_by_cmp label_cmp k l ≡ false → map.get (map.insert r l v) k ≡ map.get r k
get-insert_other r l k v apart = map.get-insert label_cmp_total r l v k ∙ ap (λ b. cond b (Some v) (map.get r k)) apart

pub get-overlay : (o r : Entries) (l : Label) → map.get (overlay o r) l ≡ option_or (map.get o l) (map.get r l)
get-overlay o r l = get-append o r l

pub get-restrict : (r : Entries) (v : Labels) (l : Label) → map.get (restrict r v) l ≡ (if contains v l then map.get r l else None)
get-restrict r v l = get-retain_keys r (contains v) l

turned : {A : Type 0} (b : Bool) (x : Option A) → cond (not b) x None ≡ (if b then None else x)
turned true x = refl
turned false x = refl

-- what is inherited: what stands at the labels that are not named
pub get-others : (r : Entries) (v : Labels) (l : Label) → map.get (map.retain_keys r (λ k. not (contains v k))) l ≡ (if contains v l then None else map.get r l)
get-others r v l = get-retain_keys r (λ k. not (contains v k)) l ∙ turned (contains v l) (map.get r l)

pub get-inherit : (r : Entries) (v : Labels) (o : Entries) (l : Label) → map.get (inherit r v o) l ≡ option_or (map.get o l) (if contains v l then None else map.get r l)
get-inherit r v o l = get-overlay o _ l ∙ ap (option_or (map.get o l)) (get-others r v l)

-- the labels of a record with one value more
pub contains_key-insert : (r : Entries) (l : Label) (v : Value) (k : Label) → map.contains_key (map.insert r l v) k ≡ (eq_by_cmp label_cmp k l || map.contains_key r k)
contains_key-insert r l v k = ap is_some (map.get-insert label_cmp_total r l v k) ∙ is_some-cond (eq_by_cmp label_cmp k l) v (map.get r k)

is_some_if : {A : Type 0} (named : Bool) (x : Option A) → is_some (if named then x else None) ≡ (named && is_some x)
is_some_if true x = refl
is_some_if false x = refl

pub contains_key-restrict : (r : Entries) (v : Labels) (l : Label) → map.contains_key (restrict r v) l ≡ (contains v l && map.contains_key r l)
contains_key-restrict r v l = ap is_some (get-restrict r v l) ∙ is_some_if (contains v l) (map.get r l)

is_some_else : {A : Type 0} (named : Bool) (x y : Option A) → is_some (option_or x (if named then None else y)) ≡ (is_some x || (not named && is_some y))
is_some_else true None y = refl
is_some_else false None y = refl
is_some_else named (Some x) y = refl

-- the labels of the whole: those that were emitted, and those that were taken and not named
pub contains_key-inherit : (r : Entries) (v : Labels) (o : Entries) (l : Label) → map.contains_key (inherit r v o) l ≡ (map.contains_key o l || (not (contains v l) && map.contains_key r l))
contains_key-inherit r v o l = ap is_some (get-inherit r v o l) ∙ is_some_else (contains v l) (map.get o l) (map.get r l)

either_part : {A : Type 0} (named : Bool) (x : Option A) → option_or (if named then x else None) (if named then None else x) ≡ x
either_part true x = option_or-none x
either_part false x = refl

-- a component that emits what it names gives the record back
pub inherit-restrict : (r : Entries) (v : Labels) → inherit r v (restrict r v) ≡ r
inherit-restrict r v =
    same_record _ r
    (λ l. get-inherit r v (restrict r v) l ∙ ap (λ x. option_or x (if contains v l then None else map.get r l)) (get-restrict r v l) ∙ either_part (contains v l) (map.get r l))

first_wins : {A : Type 0} (x y z : Option A) → is_some x ≡ true → option_or x y ≡ option_or x z
first_wins None y z e = cc
first_wins (Some x) y z e = refl

-- a label that was emitted keeps its value
pub get-inherit_emitted : (r : Entries) (v : Labels) (o : Entries) (l : Label) → IsTrue (map.contains_key o l) → map.get (inherit r v o) l ≡ map.get o l
get-inherit_emitted r v o l there = get-inherit r v o l ∙ first_wins _ _ None there ∙ option_or-none (map.get o l)

-- with nothing named and nothing emitted, all is inherited
pub inherit-empty : (r : Entries) → inherit r map.empty map.empty ≡ r
inherit-empty r = same_record _ r (λ l. get-inherit r map.empty map.empty l ∙ rw (map.get-empty label_cmp l, map.get-empty label_cmp l) refl)

-- a label of the emitted record is one of the whole
pub emitted_there : (r : Entries) (v : Labels) (o : Entries) (l : Label) → IsTrue (map.contains_key o l) → IsTrue (map.contains_key (inherit r v o) l)
emitted_there r v o l there = ap is_some (get-inherit_emitted r v o l there) ∙ there

pub IsRecord-empty : IsRecord map.empty
IsRecord-empty l = rw (map.get-empty label_cmp l) tt

pub IsRecord-insert : (r : Entries) (l : Label) (v : Value) → IsRecord r → FitsLabel l v → IsRecord (map.insert r l v)
IsRecord-insert r l v whole fits k =
    rw (map.get-insert label_cmp_total r l v k)
    (elim (eq_by_cmp label_cmp k l) as (λ b. eq_by_cmp label_cmp k l ≡ b → IfSome (cond b (Some v) (map.get r k)) (FitsLabel k)) [
      | true ↦ λ ties. subst (λ x. FitsLabel x v) (sym (same_label k l ties)) fits
      | false ↦ λ apart. whole k
    ] refl)

-- after `set`, whether it had memory or not
pub IsRecord-set : {A E : Type 0} (outcome : Result A E) (r s : Entries) (l : Label) (v : Value)
    → IsRecord r → FitsLabel l v → OnOk outcome (s ≡ map.insert r l v) → OnErr outcome (s ≡ r) → IsRecord s
IsRecord-set (Ok x) r s l v whole fits is _ = subst IsRecord (sym is) (IsRecord-insert r l v whole fits)
IsRecord-set (Err x) r s l v whole fits _ is = subst IsRecord (sym is) whole

fits_where : (b : Bool) (x : Option Value) (l : Label) → IfSome x (FitsLabel l) → IfSome (cond b x None) (FitsLabel l)
fits_where true x l fits = fits
fits_where false x l fits = tt

pub IsRecord-retain_keys : (r : Entries) (p : Label → Bool) → IsRecord r → IsRecord (map.retain_keys r p)
IsRecord-retain_keys r p whole l = rw (get-retain_keys r p l) (fits_where (p l) (map.get r l) l (whole l))

fits_either : (x y : Option Value) (l : Label) → IfSome x (FitsLabel l) → IfSome y (FitsLabel l) → IfSome (option_or x y) (FitsLabel l)
fits_either None y l first second = second
fits_either (Some x) y l first second = first

pub IsRecord-inherit : (r : Entries) (v : Labels) (o : Entries) → IsRecord r → IsRecord o → IsRecord (inherit r v o)
IsRecord-inherit r v o from emitted l =
    rw (get-overlay o (map.retain_keys r (λ k. not (contains v k))) l)
    (fits_either _ _ l (emitted l) (IsRecord-retain_keys r (λ k. not (contains v k)) from l))

-- the i-th entry of a record has a value that fits its label
pub FitsLabel-slice_get : (r : Entries) (i : ℕ) (l : Label) (v : Value) → IsRecord r → slice_get (map.entries r) i ≡ Some (l, v) → FitsLabel l v
FitsLabel-slice_get r i l v whole is = subst (λ x. IfSome x (FitsLabel l)) (get-slice_get r i l v is) (whole l)

-- the same, as a loop over the entries has it
pub FitsLabel-get_or : (r : Entries) (es : List (Label × Value)) (i : ℕ) (e : Label × Value) → es ≡ map.entries r → IsRecord r → i < length es → e ≡ get_or es i e → FitsLabel e.0 e.1
FitsLabel-get_or r es i e same whole within here =
    FitsLabel-slice_get r i e.0 e.1 whole (sym (ap (λ xs. slice_get xs i) same) ∙ slice_get-get_or es i e within ∙ sym (ap (λ (x : Label × Value). Some x) here))

only_missing : {A : Type 0} (named : Bool) (x y : Option A) → option_or x (cond (not named && not (is_some x)) y None) ≡ option_or x (if named then None else y)
only_missing named (Some x) y = refl
only_missing true None y = refl
only_missing false None y = refl

-- what is inherited is what is missing
pub inherit-missing : (r : Entries) (v : Labels) (o : Entries) → overlay o (map.retain_keys r (is_missing v o)) ≡ inherit r v o
inherit-missing r v o =
    same_record _ _
    (λ l. get-overlay o (map.retain_keys r (is_missing v o)) l ∙ ap (option_or (map.get o l)) (get-retain_keys r (is_missing v o) l)
    ∙ only_missing (contains v l) (map.get o l) (map.get r l) ∙ sym (get-inherit r v o l))

-- each value of a list fits its label, and so does each of its map
found_fits : (l : Label) (es : List (Label × Value)) → All (λ e. FitsLabel e.0 e.1) es → IfSome (find label_cmp l es) (FitsLabel l)
found_fits l [] fit = tt
found_fits l (e ∷ es) fit =
    elim (eq_by_cmp label_cmp l e.0) as (λ b. eq_by_cmp label_cmp l e.0 ≡ b → IfSome (cond b (Some e.1) (find label_cmp l es)) (FitsLabel l)) [
      | true ↦ λ ties. subst (λ x. FitsLabel x e.1) (sym (same_label l e.0 ties)) (All-head (λ (x : Label × Value). FitsLabel x.0 x.1) e es fit)
      | false ↦ λ apart. found_fits l es (All-tail (λ (x : Label × Value). FitsLabel x.0 x.1) e es fit)
    ] refl

pub IsRecord-from_entries : (es : List (Label × Value)) → All (λ e. FitsLabel e.0 e.1) es → IsRecord (map.from_entries es)
IsRecord-from_entries es fit l = subst (λ x. IfSome x (FitsLabel l)) (sym (map.get-from_entries label_cmp_total es l)) (found_fits l es fit)

unnamed : {A : Type 0} (named : Bool) (x : Option A) → named ≡ false → (if named then None else x) ≡ x
unnamed true x e = cc
unnamed false x e = refl

-- with nothing named, what the left record lacks is inherited
pub inherit-overlay : (r o : Entries) → inherit r map.empty o ≡ overlay o r
inherit-overlay r o =
    same_record _ _
    (λ l. get-inherit r map.empty o l ∙ ap (option_or (map.get o l)) (unnamed (contains map.empty l) (map.get r l) (ap is_some (map.get-empty label_cmp l))) ∙ sym (get-overlay o r l))
