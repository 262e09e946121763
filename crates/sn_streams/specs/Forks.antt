-- Which streams components may answer that stand in series, or side by side under a merge.
use Rattle.std.specs.Prelude.{◌≡◌, List, map, filter, if◌then◌else◌}
use Rattle.sn_streams.specs.Keys.{Key, key_eq}
use Rattle.sn_streams.specs.Machines.{Machine, transduced}
use Rattle.sn_streams.specs.Segments.{Segments, joined, singles, first_segment, other_segments}
use Rattle.sn_streams.specs.Shuffles.{SegmentShuffles}

-- which streams are answers to a stream
abbrev pub Relation : Type 0 → Type 1
Relation A = Segments A → Segments A → Type 0

-- the answer of a function alone
abbrev pub exactly : {A : Type 0} → (Segments A → Segments A) → Relation A
exactly f xss yss = yss ≡ f xss

-- what the first component answers flows into the second
pub record InSeries {A : Type 0} (first second : Relation A) (xss yss : Segments A) : Type 0 where
  pub between : Segments A
  pub from_first : first xss between
  pub from_second : second between yss

-- where a fork sends an item, and what becomes of an item that passes its children by
pub record Router (A : Type 0) : Type 0 where
  pub key : A → Key
  pub own : A → A

-- the items that go to the child of a key
abbrev pub items_of : {A : Type 0} → Router A → Key → List A → List A
items_of r k xs = filter (λ x. key_eq k (r.key x)) xs

-- what the child of a free fork gets: of each segment the items of its key
abbrev pub by_segment : {A : Type 0} → Router A → Key → Segments A → Segments A
by_segment r k xss = map (items_of r k) xss

-- what the child of a deterministic fork gets: a segment for each item of its key
abbrev pub by_item : {A : Type 0} → Router A → Key → Segments A → Segments A
by_item r k xss = singles (items_of r k (joined xss))

-- A free fork: each child answers what it gets, and the answers are shuffled, segment by segment.
pub record FreelyForked {A : Type 0} (r : Router A) (child : Key → Relation A) (xss yss : Segments A) : Type 0 where
  pub answers : Key → Segments A
  pub answered : (k : Key) → child k (by_segment r k xss) (answers k)
  pub shuffled : SegmentShuffles yss answers

-- The deterministic merge, as a machine. Its state is what the children answered and was not passed on yet; for each item
-- it passes on the next segment of the answer of that item's child.
abbrev pub in_turn : {A : Type 0} → Router A → Machine A (Key → Segments A)
in_turn r = record {
  next = λ answers x k. if key_eq k (r.key x) then other_segments (answers k) else answers k;
  emits = λ answers x. first_segment (answers (r.key x));
}

-- A deterministic fork: each child answers what it gets, and the answers are taken in turn.
pub record ForkedInTurn {A : Type 0} (r : Router A) (child : Key → Relation A) (xss yss : Segments A) : Type 0 where
  pub answers : Key → Segments A
  pub answered : (k : Key) → child k (by_item r k xss) (answers k)
  pub in_order : yss ≡ transduced (in_turn r) answers xss

-- how the answers of the children are put together
pub data Merge : Type 0 where
  Free : Merge
  Deterministic : Merge

-- a fork of either kind
abbrev pub Forked : {A : Type 0} → Merge → Router A → (Key → Relation A) → Relation A
Forked Free r child = FreelyForked r child
Forked Deterministic r child = ForkedInTurn r child
