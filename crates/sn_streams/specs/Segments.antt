-- Streams with borders. What stands between two borders is a segment.
use Rattle.std.specs.Prelude.{ℕ, List, [], ◌∷◌, ◌++◌, take, drop, map}

-- a stream of items of A
abbrev pub Segments : Type 0 → Type 0
Segments A = List (List A)

-- the items of all segments in order, without the borders
abbrev pub joined : {A : Type 0} → Segments A → List A
joined [] = []
joined (xs ∷ xss) = xs ++ joined xss

-- the first n segments are joined to one, then the next n', and so on; the segments that are left stay as they are
abbrev pub regrouped : {A : Type 0} → List ℕ → Segments A → Segments A
regrouped [] xss = xss
regrouped (n ∷ ns) xss = joined (take n xss) ∷ regrouped ns (drop n xss)

-- a segment for each item
abbrev pub singles : {A : Type 0} → List A → Segments A
singles xs = map (λ x. x ∷ []) xs

-- the first segment, or one without items
abbrev pub first_segment : {A : Type 0} → Segments A → List A
first_segment [] = []
first_segment (xs ∷ xss) = xs

-- those behind the first
abbrev pub other_segments : {A : Type 0} → Segments A → Segments A
other_segments [] = []
other_segments (xs ∷ xss) = xss
