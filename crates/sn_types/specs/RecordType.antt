-- Record types, as lists of variants.
use Rattle.std.specs.Prelude.{Bool, not, ◌&&◌, ◌||◌, if◌then◌else◌, List, [], ◌∷◌, ◌++◌}
use Rattle.std.specs.List.{All, AllPairs, Any, Contains, list_any}
use Rattle.sn_record.specs.LabelSet.{Labels}
use Rattle.sn_record.specs.Fits.{Fits, fits}
use Rattle.sn_record.specs.Record.{Entries, Matches}

-- the record r is of the type: it matches one of the variants
abbrev pub IsOfType : List Labels → Entries → Type 0
IsOfType variants r = Any (Matches r) variants

-- one of the variants fits v
pub record HasFit (variants : List Labels) (v : Labels) : Type 0 where
  pub variant : Labels
  pub listed : Contains variants variant
  pub fits : Fits variant v

-- x is a subtype of y: for each variant of x some variant of y fits it
abbrev pub IsSubtype : List Labels → List Labels → Type 0
IsSubtype x y = All (HasFit y) x

-- no variant fits another one
abbrev pub IsMinimal : List Labels → Type 0
IsMinimal variants = AllPairs (λ v w. (¬ Fits v w) × (¬ Fits w v)) variants

-- whether one of the variants fits v: the test of `HasFit`
abbrev pub has_fit : List Labels → Labels → Bool
has_fit variants v = list_any (λ w. fits w v) variants

-- whether s and t have the same labels
abbrev pub is_same : Labels → Labels → Bool
is_same s t = fits s t && fits t s

-- whether s fits t and has not all its labels
abbrev pub fits_properly : Labels → Labels → Bool
fits_properly s t = fits s t && not (fits t s)

-- whether v repeats one of the earlier variants, or a different one of the whole type fits it: the type says the same without it
abbrev pub is_needless : List Labels → List Labels → Labels → Bool
is_needless whole earlier v = list_any (λ w. is_same w v) earlier || list_any (λ w. fits_properly w v) whole

-- what stays of the variants that stand behind the earlier ones
abbrev pub minimal_from : List Labels → List Labels → List Labels → List Labels
minimal_from whole earlier [] = []
minimal_from whole earlier (v ∷ later) =
    if is_needless whole earlier v then minimal_from whole (earlier ++ v ∷ []) later else v ∷ minimal_from whole (earlier ++ v ∷ []) later

-- the variants that neither repeat an earlier one nor have a different one that fits them
abbrev pub minimal : List Labels → List Labels
minimal whole = minimal_from whole [] whole
