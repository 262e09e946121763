-- Shuffles: lists put together so that each keeps its order.
use Rattle.std.specs.Prelude.{◌≡◌, List, [], ◌∷◌, ◌++◌}
use Rattle.sn_streams.specs.Keys.{Key, replaced_at}
use Rattle.sn_streams.specs.Segments.{Segments}

-- none of the lists has an item
abbrev pub AllEmpty : {A : Type 0} → List (List A) → Type 0
AllEmpty [] = Unit {0}
AllEmpty (list ∷ lists) = (list ≡ []) × AllEmpty lists

-- A list without items is a shuffle of lists without items. Another is a shuffle of lists where its head is the head of
-- one of them, and its tail a shuffle of the lists with that head taken away.
abbrev pub Shuffle : {A : Type 0} → List A → List (List A) → Type 0
Shuffle [] lists = AllEmpty lists
Shuffle {A} (y ∷ ys) lists =
    (before : List (List A)) × (tail : List A) × (behind : List (List A))
    × (lists ≡ before ++ ((y ∷ tail) ∷ behind)) × Shuffle ys (before ++ (tail ∷ behind))

-- the same of one list for each key
abbrev pub ShuffleByKey : {A : Type 0} → List A → (Key → List A) → Type 0
ShuffleByKey [] lists = (k : Key) → lists k ≡ []
ShuffleByKey {A} (y ∷ ys) lists =
    (k : Key) × (tail : List A) × (lists k ≡ y ∷ tail) × ShuffleByKey ys (replaced_at lists k tail)

-- each segment of the stream is a shuffle of the segments at its place, of one stream for each key
abbrev pub SegmentShuffles : {A : Type 0} → Segments A → (Key → Segments A) → Type 0
SegmentShuffles [] streams = (k : Key) → streams k ≡ []
SegmentShuffles {A} (ys ∷ yss) streams =
    (firsts : Key → List A) × (others : Key → Segments A)
    × ((k : Key) → streams k ≡ firsts k ∷ others k) × ShuffleByKey ys firsts × SegmentShuffles yss others
