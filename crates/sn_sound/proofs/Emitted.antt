-- What is emitted and what it inherits.
use Rattle.std.proofs.Common.{◌≡◌, ◌&&◌, ◌||◌, Bool, true, false, not, is_some, IsTrue, List, [], ◌∷◌, Option, None, Some, refl, sym, ap, ◌∙◌, subst, ◌⊎◌, inl, inr, arith}
use Rattle.std.specs.List.{list_any, Contains}
use Rattle.std.specs.FinMap as map
use Rattle.std.specs.Ordering.{eq_by_cmp}
use Rattle.std.specs.Option.{option_or}
use Rattle.sn_record.specs.declared.label.Label.{Label}
use Rattle.sn_record.specs.declared.value.Value.{Value}
use Rattle.sn_record.specs.Label.{label_cmp}
use Rattle.sn_record.specs.LabelSet.{Labels, contains, union, minus}
use Rattle.sn_record.specs.Record.{Entries, Matches, is_match, overlay, inherit}
use Rattle.sn_record.proofs.Fitting.{fits_itself, fits_same, fits_through}
use Rattle.sn_record.proofs.Records.{contains_key-inherit, get-overlay}
use Rattle.sn_record.proofs.Scores.{is_match-Matches}
use Rattle.sn_record.proofs.Sets.{contains-union, contains-minus}
use Rattle.sn_net.specs.Face.{variant_of}
use Rattle.sn_typing.proofs.Subsets.{contains-variant_of}
use Rattle.sn_types.specs.RecordType.{HasFit}
use Rattle.sn_sound.proofs.Scores.{contains_cases}

inherited_label : (out v named made r : Bool) → (IsTrue out → IsTrue made) → (IsTrue v → IsTrue r) → IsTrue (out || (v && not named)) → IsTrue (made || (not named && r))
inherited_label true v named true r f g h = refl
inherited_label true v named false r f g h = absurd (differ (f refl))
  where
    differ : false ≡ true → ⊥
    differ e = cc
inherited_label false v named true r f g h = refl
inherited_label false true true false r f g h = h
inherited_label false true false false r f g h = g refl
inherited_label false false named false r f g h = absurd (differ h)
  where
    differ : false ≡ true → ⊥
    differ e = cc

named_label : (made r named out v : Bool) → (IsTrue made → IsTrue out) → (IsTrue r → IsTrue v) → IsTrue (made || (not named && r)) → IsTrue (out || (v && not named))
named_label made r named true v f g h = refl
named_label true r named false v f g h = absurd (differ (f refl))
  where
    differ : false ≡ true → ⊥
    differ e = cc
named_label false r true false v f g h = absurd (differ h)
  where
    differ : false ≡ true → ⊥
    differ e = cc
named_label false r false false true f g h = refl
named_label false r false false false f g h = g h

-- the labels of what is set, and of what is not named
pub flowing : (out v named : Labels) (l : Label) → contains (union out (minus v named)) l ≡ (contains out l || (contains v l && not (contains named l)))
flowing out v named l = contains-union out (minus v named) l ∙ ap (λ b. contains out l || b) (contains-minus v named l)

-- an emitted record has its own labels, and those of v that are not named, and no other binding tags
pub inherits : (r made : Entries) (out v named : Labels) → Matches made out → Matches r v → Matches (inherit r named made) (union out (minus v named))
inherits r made out v named own from = record {
  within = λ l there.
      contains_key-inherit r named made l
      ∙ inherited_label (contains out l) (contains v l) (contains named l) (map.contains_key made l) (map.contains_key r l) (own.within l) (from.within l)
      (sym (flowing out v named l) ∙ there);
  bound = λ l binds there.
      flowing out v named l
      ∙ named_label (map.contains_key made l) (map.contains_key r l) (contains named l) (contains out l) (contains v l) (own.bound l binds) (from.bound l binds)
      (sym (contains_key-inherit r named made l) ∙ there);
}

either_has : {A : Type 0} (x y : Option A) → IsTrue (is_some x) → IsTrue (is_some (option_or x y))
either_has None y e = cc
either_has (Some x) y e = refl

second_has : {A : Type 0} (x y : Option A) → IsTrue (is_some y) → IsTrue (is_some (option_or x y))
second_has None y e = e
second_has (Some x) y e = refl

of_either : {A : Type 0} (x y : Option A) (P : Type 0) → (IsTrue (is_some x) → P) → (IsTrue (is_some y) → P) → IsTrue (is_some (option_or x y)) → P
of_either None y P f g e = g e
of_either (Some x) y P f g e = f refl

-- the labels of one of two records, both together have
pub overlay_first : (o r : Entries) (l : Label) → IsTrue (map.contains_key o l) → IsTrue (map.contains_key (overlay o r) l)
overlay_first o r l there = ap is_some (get-overlay o r l) ∙ either_has (map.get o l) (map.get r l) there

pub overlay_second : (o r : Entries) (l : Label) → IsTrue (map.contains_key r l) → IsTrue (map.contains_key (overlay o r) l)
overlay_second o r l there = ap is_some (get-overlay o r l) ∙ second_has (map.get o l) (map.get r l) there

-- and no others
pub overlay_either : (o r : Entries) (l : Label) (P : Type 0) → (IsTrue (map.contains_key o l) → P) → (IsTrue (map.contains_key r l) → P) → IsTrue (map.contains_key (overlay o r) l) → P
overlay_either o r l P first second there = of_either (map.get o l) (map.get r l) P first second (sym (ap is_some (get-overlay o r l)) ∙ there)

-- a record that matches v matches a variant of the list that fits v
pub matches_fit : (variants : List Labels) (r : Entries) (v : Labels) → (has : HasFit variants v) → Matches r v → Matches r has.variant
matches_fit variants r v has matches = fits_through (map.contains_key r) has.variant v has.fits matches

pub matches_any : (variants : List Labels) (r : Entries) (v : Labels) → HasFit variants v → Matches r v → IsTrue (list_any (is_match r) variants)
matches_any whole r v has matches = at whole has.listed
  where
    here : (b c : Bool) → b ≡ true → IsTrue (b || c)
    here true c e = refl
    here false c e = cc

    behind : (b c : Bool) → IsTrue c → IsTrue (b || c)
    behind true c e = refl
    behind false c e = e

    at : (variants : List Labels) → Contains variants has.variant → IsTrue (list_any (is_match r) variants)
    at [] (k, below, is) = absurd (omega (arith, below))
    at (w ∷ variants) there = which (contains_cases w variants has.variant there) (λ rest. at variants rest)
      where
        which : (w ≡ has.variant) ⊎ Contains variants has.variant → (Contains variants has.variant → IsTrue (list_any (is_match r) variants)) → IsTrue (list_any (is_match r) (w ∷ variants))
        which (inl same) later = here (is_match r w) _ ((is_match-Matches r w).1 (subst (Matches r) (sym same) (matches_fit whole r v has matches)))
        which (inr rest) later = behind (is_match r w) _ (later rest)

-- the one variant of a list
pub only_variant : (p : Labels) (r : Entries) (v : Labels) → HasFit (p ∷ []) v → Matches r v → Matches r p
only_variant p r v has matches = which (contains_cases p [] has.variant has.listed)
  where
    which : (p ≡ has.variant) ⊎ Contains [] has.variant → Matches r p
    which (inl same) = subst (Matches r) (sym same) (matches_fit (p ∷ []) r v has matches)
    which (inr (k, below, is)) = absurd (omega (arith, below))

-- what was made from nothing with some labels matches their variant
pub made_matches : (labels : List Label) (made : Entries)
    → ((l : Label) → map.contains_key made l ≡ (map.contains_key (map.empty {X = Value} {R = label_cmp}) l || list_any (eq_by_cmp label_cmp l) labels)) → Matches made (variant_of labels)
made_matches labels made has =
    fits_same (contains (variant_of labels)) (map.contains_key made) (variant_of labels)
    (λ l. contains-variant_of labels l ∙ sym (has l ∙ ap (λ b. b || list_any (eq_by_cmp label_cmp l) labels) (ap is_some (map.get-empty {X = Value} label_cmp l))))
    (fits_itself (variant_of labels))

-- none of no variants fits
pub no_fit : (v : Labels) → HasFit [] v → ⊥
no_fit v has = at has.listed
  where
    at : Contains [] has.variant → ⊥
    at (k, below, is) = absurd (omega (arith, below))
