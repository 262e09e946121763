-- Names of labels, numbered from 0 in the order in which they were entered.
use Rattle.std.specs.Prelude.{◌≡◌, ◌<◌, ◌≤◌, ◌^◌, ◌+◌, ◌-◌, ◌==◌, nat_le, ℕ, suc, Bool, true, false, IsTrue, not, ◌&&◌, ◌||◌, List, [], ◌∷◌, ◌++◌, length, get_or, if◌then◌else◌}
use Rattle.std.specs.List.{list_any}
use Rattle.std.specs.Str.{bytes_eq}
use Rattle.sn_record.specs.Label.{first_binding}

-- whether a name is among the names
abbrev pub is_held : List (List ℕ) → List ℕ → Bool
is_held names n = list_any (λ m. bytes_eq m n) names

-- a new name goes to the end
abbrev pub entered : List (List ℕ) → List ℕ → List (List ℕ)
entered names n = if is_held names n then names else names ++ n ∷ []

-- several names are entered one after another
abbrev pub all_entered : List (List ℕ) → List (List ℕ) → List (List ℕ)
all_entered names [] = names
all_entered names (n ∷ ns) = all_entered (entered names n) ns

-- the number of a name
abbrev pub number_in : List (List ℕ) → List ℕ → ℕ
number_in [] n = 0
number_in (m ∷ names) n = if bytes_eq m n then 0 else suc (number_in names n)

-- the name of a number
abbrev pub name_at : List (List ℕ) → ℕ → List ℕ
name_at names i = get_or names i []

-- no name stands twice
abbrev pub are_distinct : List (List ℕ) → Bool
are_distinct [] = true
are_distinct (m ∷ names) = not (is_held names m) && are_distinct names

-- different names, so few that no place is the number of a binding tag
pub record AreNumbered (names : List (List ℕ)) : Type 0 where
  pub countable : length names < 2 ^ 31
  pub distinct : IsTrue (are_distinct names)

-- at most 4,096 different names
pub record AreNames (names : List (List ℕ)) : Type 0 where
  pub few : length names ≤ 4096
  pub distinct : IsTrue (are_distinct names)

-- a name is new to names that are as many as may be
pub record IsFull (names : List (List ℕ)) (n : List ℕ) : Type 0 where
  pub fresh : is_held names n ≡ false
  pub most : length names ≡ 4096

-- whether a name begins with '#', as those of binding tags do
abbrev pub is_marked : List ℕ → Bool
is_marked [] = false
is_marked (c ∷ cs) = c == 35

-- the number of a label, by its name and the place of that among the names; behind 2^31 names, which nobody has, all go on from there
abbrev pub numbered : List ℕ → ℕ → ℕ
numbered n place = if is_marked n || nat_le first_binding place then first_binding + place else place

-- the place of a number
abbrev pub place_of : ℕ → ℕ
place_of id = if nat_le first_binding id then id - first_binding else id

-- the number of a label's name
abbrev pub label_number : List (List ℕ) → List ℕ → ℕ
label_number names n = numbered n (number_in names n)

-- the name of a label's number
abbrev pub label_name : List (List ℕ) → ℕ → List ℕ
label_name names id = name_at names (place_of id)

-- the number is that of a held name
pub record IsHeld (names : List (List ℕ)) (id : ℕ) : Type 0 where
  pub within : place_of id < length names
  pub number : numbered (label_name names id) (place_of id) ≡ id
