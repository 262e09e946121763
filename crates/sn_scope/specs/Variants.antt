-- Different variants, in the order in which they were first added.
use Rattle.std.specs.Prelude.{◌≡◌, ℕ, Bool, List, [], ◌∷◌, ◌++◌, take, if◌then◌else◌}
use Rattle.std.specs.List.{fold, list_any}
use Rattle.std.specs.Ordering.{eq_by_cmp}
use Rattle.std.specs.Cmp.Lexicographic.{pointwise}
use Rattle.std.specs.FinMap as map
use Rattle.sn_record.specs.Label.{label_cmp}
use Rattle.sn_record.specs.LabelSet.{Labels}

-- whether two variants have the same labels
abbrev pub is_same : Labels → Labels → Bool
is_same v w = pointwise (eq_by_cmp label_cmp) (map.keys v) (map.keys w)

-- whether the variant is one of those
abbrev pub is_among : List Labels → Labels → Bool
is_among vs v = list_any (is_same v) vs

-- a variant that is none of those goes to the end
abbrev pub added : List Labels → Labels → List Labels
added vs v = if is_among vs v then vs else vs ++ v ∷ []

-- some first of the sets were added
abbrev pub IsBegun : List Labels → List Labels → List Labels → Type 0
IsBegun old sets new' = (n : ℕ) × (new' ≡ fold added old (take n sets))
