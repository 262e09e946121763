-- Keys: where a fork sends an item.
use Rattle.std.specs.Prelude.{◌≡◌, ℕ, ℤ, Bool, true, false, ◌==◌, if◌then◌else◌, List, [], ◌∷◌}
use Rattle.std.specs.Ordering.{int_eq}

-- past the children; to a branch of a choice; into the body of a star; to the replica of a split for a tag's value
pub data Key : Type 0 where
  Own : Key
  Branch : (index : ℕ) → Key
  Inside : Key
  Value : (tag : ℤ) → Key

-- whether two keys are the same
abbrev pub key_eq : Key → Key → Bool
key_eq Own Own = true
key_eq (Branch i) (Branch j) = i == j
key_eq Inside Inside = true
key_eq (Value a) (Value b) = int_eq a b
key_eq _ _ = false

-- what f has for each key, but for one key that has something else
abbrev pub replaced_at : {B : Type 0} → (Key → B) → Key → B → Key → B
replaced_at f k other j = if key_eq j k then other else f j

-- the key is one of the keys
abbrev pub is_among : Key → List Key → Bool
is_among k [] = false
is_among k (j ∷ keys) = if key_eq k j then true else is_among k keys

-- no key stands twice
abbrev pub AreDistinct : List Key → Type 0
AreDistinct [] = Unit {0}
AreDistinct (k ∷ keys) = (is_among k keys ≡ false) × AreDistinct keys
