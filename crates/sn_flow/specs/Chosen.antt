-- Which variants a choice sends to its branches, by tests.
use Rattle.std.specs.Prelude.{◌==◌, ◌&&◌, ◌||◌, ℕ, ◌+◌, Bool, false, not, nat_lt, List, [], ◌∷◌, if◌then◌else◌, unwrap_or, slice_get}
use Rattle.std.specs.List.{list_any}
use Rattle.std.specs.FinMap as map
use Rattle.sn_record.specs.LabelSet.{Labels, union}
use Rattle.sn_record.specs.Fits.{bind_alike, fits}

-- whether a variant x of branch j is taken within s in place of one of branch i that has so many labels
abbrev pub is_before : ℕ → ℕ → Labels → ℕ → Labels → Bool
is_before i size s j x = fits x s && (nat_lt size (map.len x) || ((map.len x == size) && nat_lt j i))

-- whether a variant of one of the faces, which are those of the branches from j on, is
abbrev pub is_beaten_from : ℕ → ℕ → Labels → ℕ → List (List Labels) → Bool
is_beaten_from i size s j [] = false
is_beaten_from i size s j (face ∷ faces) = list_any (is_before i size s j) face || is_beaten_from i size s (j + 1) faces

abbrev pub is_beaten : List (List Labels) → ℕ → ℕ → Labels → Bool
is_beaten faces i size s = is_beaten_from i size s 0 faces

-- whether no record of v is sent to branch i for its variant w: it has other binding tags, or is beaten within both
abbrev pub is_passed_over : List (List Labels) → ℕ → Labels → Labels → Bool
is_passed_over faces i v w = not (bind_alike w v) || is_beaten faces i (map.len w) (union v w)

-- v with each of these variants of branch i that isn't passed over
abbrev pub chosen_of : List (List Labels) → ℕ → Labels → List Labels → List Labels
chosen_of faces i v [] = []
chosen_of faces i v (w ∷ ws) = if is_passed_over faces i v w then chosen_of faces i v ws else union v w ∷ chosen_of faces i v ws

-- the variants that are sent to branch j
abbrev pub sent_of : List (List Labels) → Labels → ℕ → List Labels
sent_of faces v j = chosen_of faces j v (unwrap_or (slice_get faces j) [])

-- as far as the branches before i
abbrev pub sent_until : List (List Labels) → Labels → ℕ → ℕ → List Labels
sent_until faces v i j = if nat_lt j i then sent_of faces v j else []
