-- The replicas of a split by their values.
use Rattle.std.specs.Prelude.{◌≡◌, ℕ, ℤ, List, Option}
use Rattle.std.specs.List.{position_from}
use Rattle.std.specs.Ordering.{int_eq}
use Rattle.indexmap.specs.IndexMap.{IndexMap, get}
use Rattle.sn_streams.specs.Keys.{Key, Value, key_eq}
use Rattle.sn_fork.specs.Seen.{ChildSeen, keys_of}

-- the number of the first of these keys that is this one
abbrev pub number_in : List Key → Key → Option ℕ
number_in keys k = position_from (key_eq k) 0 keys

-- the table gives the number of the first child for each value, and nothing for a value without a child
abbrev pub AreKeyed : {S : Type 0} → List ChildSeen → IndexMap ℤ ℕ S → Type 0
AreKeyed children replicas = (v : ℤ) → get int_eq replicas v ≡ number_in (keys_of children) (Value v)
