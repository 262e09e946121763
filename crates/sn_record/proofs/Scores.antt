-- The size of the largest variant that a record matches.
use Rattle.std.proofs.Common.{◌≡◌, true, false, cond, IsTrue, ◌↔◌, None, Some, refl, ap}
use Rattle.std.specs.FinMap as map
use Rattle.sn_record.specs.LabelSet.{Labels}
use Rattle.sn_record.specs.Record.{Entries, Matches, is_match, size_matched}
use Rattle.sn_record.proofs.Fitting.{fits-Fits}

-- the test of a match holds exactly where there is one
pub is_match-Matches : (r : Entries) (v : Labels) → IsTrue (is_match r v) ↔ Matches r v
is_match-Matches r v = fits-Fits v r

pub size_matched-match : (r : Entries) (v : Labels) → Matches r v → size_matched r v ≡ Some (map.len v)
size_matched-match r v matches = ap (λ b. cond b (Some (map.len v)) None) ((is_match-Matches r v).1 matches)

pub size_matched-no_match : (r : Entries) (v : Labels) → ¬ Matches r v → size_matched r v ≡ None
size_matched-no_match r v apart =
    elim (is_match r v) as (λ b. is_match r v ≡ b → cond b (Some (map.len v)) None ≡ None) [
      | true ↦ λ test. absurd (apart ((is_match-Matches r v).0 test))
      | false ↦ λ test. refl
    ] refl
