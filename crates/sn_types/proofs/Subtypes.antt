-- The tests of fits and of subtypes.
use Rattle.std.proofs.Common.{◌≡◌, ◌↔◌, Bool, true, IsTrue, List}
use Rattle.std.specs.Cmp.{both_ways}
use Rattle.std.specs.List.{list_all}
use Rattle.std.proofs.lemmas.List.Elements.{All-weaker}
use Rattle.std.proofs.lemmas.List.Folds.{Any-from_list_any, list_any-from_Any}
use Rattle.std.proofs.lemmas.List.Sums.{AllPass-from_list_all, list_all-from_AllPass}
use Rattle.sn_record.specs.LabelSet.{Labels}
use Rattle.sn_record.specs.Fits.{Fits, fits}
use Rattle.sn_record.proofs.Fitting.{fits-Fits}
use Rattle.sn_types.specs.RecordType.{HasFit, IsSubtype, has_fit}

-- what holds exactly where there is one is the test
pub same_test : (b : Bool) (s t : Labels) → IsTrue b ↔ Fits s t → b ≡ fits s t
same_test b s t law = both_ways b (fits s t) (λ told. (fits-Fits s t).1 (law.0 told)) (λ test. law.1 ((fits-Fits s t).0 test))

found_fit : (variants : List Labels) (v : Labels) → IsTrue (has_fit variants v) → HasFit variants v
found_fit variants v test =
    let found = Any-from_list_any (λ w. fits w v) variants test in
    record { variant = found.1; listed = (found.0, found.2, found.3); fits = (fits-Fits found.1 v).0 found.4 }

fit_found : (variants : List Labels) (v : Labels) → HasFit variants v → IsTrue (has_fit variants v)
fit_found variants v has =
    list_any-from_Any (λ w. fits w v) variants (has.listed.0, has.variant, has.listed.1, has.listed.2, (fits-Fits has.variant v).1 has.fits)

pub has_fit-HasFit : (variants : List Labels) (v : Labels) → IsTrue (has_fit variants v) ↔ HasFit variants v
has_fit-HasFit variants v = (found_fit variants v, fit_found variants v)

-- the test of a subtype
pub list_all-IsSubtype : (x y : List Labels) → IsTrue (list_all (has_fit y) x) ↔ IsSubtype x y
list_all-IsSubtype x y = (
  λ test. All-weaker (λ v. has_fit y v ≡ true) (HasFit y) (found_fit y) x (AllPass-from_list_all (has_fit y) x test),
  λ subtype. list_all-from_AllPass (has_fit y) x (All-weaker (HasFit y) (λ v. has_fit y v ≡ true) (fit_found y) x subtype),
)
