-- Forks that run: what they have decided, what they have sent to their children, and what they have given of what came from these.
use Rattle.std.specs.Prelude.{◌≡◌, Bool, true, false, if◌then◌else◌, List, [], ◌∷◌, ◌++◌, map}
use Rattle.std.specs.List.{flat_map, list_all}
use Rattle.sn_streams.specs.Forks.{Router}
use Rattle.sn_streams.specs.Keys.{Key, key_eq}
use Rattle.sn_histories.specs.Entries.{Entry, Item, To, Mark, End, HasGroups, left_over, replaced}
use Rattle.sn_histories.specs.Histories.{decision_on}

-- what goes to the child of a key for one entry: an item of that key with a mark behind it, and the end
abbrev pub for_child : {A : Type 0} → Router A → Key → Entry A → List (Entry A)
for_child r k (Item x) = if key_eq k (r.key x) then Item x ∷ Mark ∷ [] else []
for_child r k End = End ∷ []
for_child r k e = []

-- and for all that was received
abbrev pub to_child : {A : Type 0} → Router A → Key → List (Entry A) → List (Entry A)
to_child r k received = flat_map (for_child r k) received

-- whether an entry is an item of the key
abbrev pub is_for : {A : Type 0} → Router A → Key → Entry A → Bool
is_for r k (Item x) = key_eq k (r.key x)
is_for r k e = false

-- the decisions on what was received are those that were served, and then those that are kept
abbrev pub Decides : {A : Type 0} → Router A → (received served kept : List (Entry A)) → Type 0
Decides r received served kept = served ++ kept ≡ map (decision_on r) received

-- the next group is one of the child of k: the first decision that is kept asks for it
abbrev pub is_next : {A : Type 0} → Key → List (Entry A) → Bool
is_next k (To j ∷ kept) = key_eq k j
is_next k kept = false

-- what has come of that group so far; nothing where no group is next
abbrev pub begun : {A : Type 0} → (Key → List (Entry A)) → List (Entry A) → List (Entry A)
begun left (To k ∷ kept) = left k
begun left kept = []

abbrev pub is_item : {A : Type 0} → Entry A → Bool
is_item (Item x) = true
is_item e = false

-- What a fork has given is its served decisions, each To(k) replaced by the next group that came from child k, and then what has come so far
-- of the group that is next. Of that group only items have come, so that it isn't whole, and nothing else has come from a child.
pub record Merges {A : Type 0} (came : Key → List (Entry A)) (served kept given : List (Entry A)) : Type 0 where
  pub groups : HasGroups came served
  pub image : given ≡ replaced came served ++ begun (left_over came served) kept
  pub unfinished : list_all is_item (begun (left_over came served) kept) ≡ true
  pub nothing_else : (k : Key) → is_next k kept ≡ false → left_over came served k ≡ []

-- one entry more has come, from the child of k
abbrev pub ComesFrom : {A : Type 0} → Key → Entry A → (before now : Key → List (Entry A)) → Type 0
ComesFrom k e before now = (j : Key) → now j ≡ before j ++ (if key_eq j k then e ∷ [] else [])
