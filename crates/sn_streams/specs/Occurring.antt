-- The streams of a tree, as they are told where a fork has children for the keys that occur alone.
use Rattle.std.specs.Prelude.{◌≡◌, ℕ, true, List, [], ◌∷◌, map, length, get_or, if◌then◌else◌}
use Rattle.sn_streams.specs.Forks.{Relation, exactly, InSeries, Router, by_segment, by_item, in_turn, Merge, Free, Deterministic}
use Rattle.sn_streams.specs.Keys.{Key, is_among}
use Rattle.sn_streams.specs.Machines.{transduced}
use Rattle.sn_streams.specs.Segments.{Segments, joined}
use Rattle.sn_streams.specs.Shuffles.{Shuffle}
use Rattle.sn_streams.specs.Trees.{Tree, Component, Series, Fork}

-- the keys of items, each once
abbrev pub keys_of : {A : Type 0} → Router A → List A → List Key
keys_of r [] = []
keys_of r (x ∷ xs) = if is_among (r.key x) (keys_of r xs) then keys_of r xs else r.key x ∷ keys_of r xs

-- the keys that occur in a stream
abbrev pub keys_in : {A : Type 0} → Router A → Segments A → List Key
keys_in r xss = keys_of r (joined xss)

-- A free fork: for each key that occurs, its child answers what it gets; each segment is a shuffle of those at its place.
pub record FreelyForkedOccurring {A : Type 0} (r : Router A) (child : Key → Relation A) (xss yss : Segments A) : Type 0 where
  pub answers : Key → Segments A
  pub answered : (k : Key) → is_among k (keys_in r xss) ≡ true → child k (by_segment r k xss) (answers k)
  pub borders : length yss ≡ length xss
  pub shuffled : (i : ℕ) → Shuffle (get_or yss i []) (map (λ k. get_or (answers k) i []) (keys_in r xss))

-- A deterministic fork: for each key that occurs, its child answers what it gets; the answers are taken in turn.
pub record ForkedInTurnOccurring {A : Type 0} (r : Router A) (child : Key → Relation A) (xss yss : Segments A) : Type 0 where
  pub answers : Key → Segments A
  pub answered : (k : Key) → is_among k (keys_in r xss) ≡ true → child k (by_item r k xss) (answers k)
  pub in_order : yss ≡ transduced (in_turn r) answers xss

-- a fork of either kind
abbrev pub ForkedOccurring : {A : Type 0} → Merge → Router A → (Key → Relation A) → Relation A
ForkedOccurring Free r child = FreelyForkedOccurring r child
ForkedOccurring Deterministic r child = ForkedInTurnOccurring r child

-- which streams the tree may answer to a stream, where all its forks are such
abbrev pub AllowsOccurring : {A S : Type 0} → Tree A S → Relation A
AllowsOccurring (Component m s) = exactly (transduced m s)
AllowsOccurring (Series a b) = InSeries (AllowsOccurring a) (AllowsOccurring b)
AllowsOccurring (Fork merge r child) = ForkedOccurring merge r (λ k. AllowsOccurring (child k))
