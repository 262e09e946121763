-- What choices, splits and stars keep, where code holds the states of their children in lists.
use Rattle.std.specs.Prelude.{◌≡◌, ℕ, ℤ, Bool, if◌then◌else◌, List, [], ◌∷◌, slice_get, unwrap_or}
use Rattle.std.specs.Ordering.{int_eq}
use Rattle.sn_streams.specs.Keys.{Key, Branch, Inside, Value}
use Rattle.sn_pass.specs.Keeping.{Keeping, Fresh, Both, Each, child_of}

-- the state at a place of the list; nothing is kept past its end
abbrev pub kept_at : {S : Type 0} → List (Keeping S) → ℕ → Keeping S
kept_at states i = unwrap_or (slice_get states i) Fresh

-- the states of the branches of a choice, from the left
abbrev pub of_branch : {S : Type 0} → List (Keeping S) → Key → Keeping S
of_branch states (Branch i) = kept_at states i
of_branch states k = Fresh

abbrev pub branches_held : {S : Type 0} → List (Keeping S) → Keeping S
branches_held states = Each (of_branch states)

-- the states of the replicas of a split, by their values
abbrev pub of_replica : {S : Type 0} → (ℤ → Keeping S) → Key → Keeping S
of_replica states (Value n) = states n
of_replica states k = Fresh

abbrev pub replicas_held : {S : Type 0} → (ℤ → Keeping S) → Keeping S
replicas_held states = Each (of_replica states)

-- A replica of a split: the value that it is for, and what it keeps.
pub record Replica (S : Type 0) : Type 0 where
  pub value : ℤ
  pub state : Keeping S

-- the replica is for this value
abbrev pub is_for : {S : Type 0} → ℤ → Replica S → Bool
is_for n replica = int_eq replica.value n

-- what the leftmost replica for a value keeps; nothing is kept where there is none
abbrev pub kept_for : {S : Type 0} → List (Replica S) → ℤ → Keeping S
kept_for [] n = Fresh
kept_for (replica ∷ replicas) n = if is_for n replica then replica.state else kept_for replicas n

-- what a level of a star keeps: its body, and behind it the next level
abbrev pub in_level : {S : Type 0} → (body behind : Keeping S) → Key → Keeping S
in_level body behind Inside = Both body behind
in_level body behind k = Fresh

-- the states of the bodies of a star, from its first level on
abbrev pub levels_held : {S : Type 0} → List (Keeping S) → Keeping S
levels_held [] = Fresh
levels_held (body ∷ bodies) = Each (in_level body (levels_held bodies))

-- the states of the bodies of a star of which this is kept: all of them, or none where nothing is kept for the first
pub data LevelsOf {S : Type 0} (q : Keeping S) (bodies : List (Keeping S)) : Type 0 where
  all : q ≡ levels_held bodies → LevelsOf q bodies
  none : bodies ≡ [] → child_of q Inside ≡ Fresh → LevelsOf q bodies
