-- Children by their keys.
use Rattle.std.specs.Prelude.{◌≡◌, ◌==◌, ℕ, ℤ, Bool, false, List, Option, None, Some, map, if◌then◌else◌}
use Rattle.std.specs.Ordering.{int_eq}
use Rattle.indexmap.specs.IndexMap.{IndexMap, get}
use Rattle.sn_streams.specs.Keys.{Key, Value, key_eq}
use Rattle.sn_view.specs.Next.{child_of as child_number}
use Rattle.sn_node.specs.Child.{child_of}
use Rattle.sn_node.specs.declared.children.Child.{Child}

-- the map gives the number of the first child for each value, and nothing for a value without a child
abbrev pub AreKeyed : {S : Type 0} → List Child → IndexMap ℤ ℕ S → Type 0
AreKeyed list values = (v : ℤ) → get int_eq values v ≡ child_number (map child_of list) (Value v)

-- what is found for a value once the child of a key and a number was added
abbrev pub found_with : Key → ℕ → ℤ → Option ℕ → Option ℕ
found_with key number v found = if key_eq (Value v) key then Some number else found

abbrev pub is_found_at : Option ℕ → ℕ → Bool
is_found_at None number = false
is_found_at (Some found) number = found == number

abbrev pub unless_it_is : ℕ → Option ℕ → Option ℕ
unless_it_is number found = if is_found_at found number then None else found

-- what is found for a value once the child of a key and a number was taken away
abbrev pub found_without : Key → ℕ → ℤ → Option ℕ → Option ℕ
found_without key number v found = if key_eq (Value v) key then unless_it_is number found else found
