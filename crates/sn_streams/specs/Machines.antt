-- Machines: what they emit for an item depends on the items before it, through a state.
use Rattle.std.specs.Prelude.{List, [], ◌∷◌, ◌++◌}
use Rattle.sn_streams.specs.Segments.{Segments}

-- A machine over items of A, with states of S.
pub record Machine (A S : Type 0) : Type 0 where
  pub next : S → A → S
  pub emits : S → A → List A

-- what the machine emits for items, from a state
abbrev pub emitted : {A S : Type 0} → Machine A S → S → List A → List A
emitted m s [] = []
emitted m s (x ∷ xs) = m.emits s x ++ emitted m (m.next s x) xs

-- its state after the items
abbrev pub after : {A S : Type 0} → Machine A S → S → List A → S
after m s [] = s
after m s (x ∷ xs) = after m (m.next s x) xs

-- what it emits for a stream: a segment for each segment, with the state kept over the borders
abbrev pub transduced : {A S : Type 0} → Machine A S → S → Segments A → Segments A
transduced m s [] = []
transduced m s (xs ∷ xss) = emitted m s xs ∷ transduced m (after m s xs) xss
