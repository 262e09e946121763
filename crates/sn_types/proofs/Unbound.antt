-- Where no label is a binding tag, what fits is what is a subset.
use Rattle.std.proofs.Common.{◌≡◌, ◌↔◌, Bool, true, false, IsTrue, List, [], ◌∷◌, cond, Some, None, get_or, refl, sym, ◌∙◌}
use Rattle.std.specs.FinMap as map
use Rattle.std.specs.List.{All, list_all}
use Rattle.std.proofs.lemmas.List.Folds.{list_all-map}
use Rattle.std.specs.Cmp.{both_ways}
use Rattle.sn_record.specs.declared.label.Label.{Label}
use Rattle.sn_record.specs.LabelSet.{Labels, contains, IsSubset}
use Rattle.sn_record.specs.Fits.{BindAlike, Fits, FitsAmong}
use Rattle.sn_record.specs.Record.{Entries, Matches, greater, is_match, score}
use Rattle.sn_record.proofs.Maps.{list_all-entries}
use Rattle.sn_record.proofs.Scores.{is_match-Matches}
use Rattle.sn_types.specs.RecordType.{HasFit, IsSubtype}
use Rattle.sn_types.specs.Subsets as plain
use Rattle.sn_types.specs.Subsets.{Has, HasSubset, IsUnbound, NoneBinds}

-- among labels of which none binds
pub unbound_fits : (has : Label → Bool) (w : Labels) → NoneBinds has → ((l : Label) → IsTrue (contains w l) → IsTrue (has l)) → FitsAmong has w
unbound_fits has w none within = record { within = within; bound = λ l binds there. absurd (none l binds there) }

pub fits_unbound : (w s : Labels) → IsUnbound s → Fits w s ↔ IsSubset w s
fits_unbound w s none = (λ fit. fit.within, λ within. unbound_fits (contains s) w none within)

pub unbound_alike : (s t : Labels) → IsUnbound s → IsUnbound t → BindAlike s t
unbound_alike s t first second l binds = neither (contains s l) (contains t l) (first l binds) (second l binds)
  where
    neither : (a b : Bool) → (IsTrue a → ⊥) → (IsTrue b → ⊥) → a ≡ b
    neither true b f g = absurd (f refl)
    neither false true f g = absurd (g refl)
    neither false false f g = refl

-- what fits an unbound set is unbound, as is each subset of it
pub subset_unbound : (w s : Labels) → IsSubset w s → IsUnbound s → IsUnbound w
subset_unbound w s within none l binds there = none l binds (within l there)

pub matches_unbound : (r : Entries) (v : Labels) → NoneBinds (map.contains_key r) → Matches r v ↔ Has r v
matches_unbound r v none = (λ matches. matches.within, λ has. unbound_fits (map.contains_key r) v none has)

same_when : (a b : Bool) (P : Type 0) → IsTrue a ↔ P → IsTrue b ↔ P → a ≡ b
same_when a b P first second = both_ways a b (λ told. second.1 (first.0 told)) (λ told. first.1 (second.0 told))

pub score_unbound : (vs : List Labels) (r : Entries) → NoneBinds (map.contains_key r) → score vs r ≡ plain.score vs r
score_unbound [] r none = refl
score_unbound (v ∷ vs) r none =
    let law = list_all-entries (map.contains_key r) v in
    let each = list_all-map (map.contains_key r) (λ e. e.0) (map.entries v) in
    let test : is_match r v ≡ list_all (map.contains_key r) (map.keys v) =
    same_when (is_match r v) (list_all (map.contains_key r) (map.keys v)) (Has r v) (
      (λ told. (matches_unbound r v none).0 ((is_match-Matches r v).0 told)),
      (λ has. (is_match-Matches r v).1 ((matches_unbound r v none).1 has)),
    )
    ((λ told. law.0 (sym each ∙ told)), (λ has. each ∙ law.1 has)) in
    λ i. greater (cond (test i) (Some (map.len v)) None) (score_unbound vs r none i)

pub subset_has : (y : List Labels) (v : Labels) → IsUnbound v → HasFit y v ↔ HasSubset y v
subset_has y v none = (
  λ has. record { variant = has.variant; listed = has.listed; within = has.fits.within },
  λ has. record { variant = has.variant; listed = has.listed; fits = (fits_unbound has.variant v none).1 has.within },
)

pub subtype_unbound : (x y : List Labels) → All IsUnbound x → IsSubtype x y ↔ plain.IsSubtype x y
subtype_unbound x y none = (
  λ subtype k d within. (subset_has y (get_or x k d) (none k d within)).0 (subtype k d within),
  λ subtype k d within. (subset_has y (get_or x k d) (none k d within)).1 (subtype k d within),
)
