-- Sets of labels, by which labels they hold.
use Rattle.std.specs.Prelude.{Bool, IsTrue, not, ◌++◌}
use Rattle.std.specs.FinMap as map
use Rattle.sn_record.specs.declared.label.Label.{Label}
use Rattle.sn_record.specs.Label.{label_cmp}

-- a map with nothing at each label
abbrev pub Labels : Type 0
Labels = map.FinMap label_cmp (Unit {0})

abbrev pub contains : Labels → Label → Bool
contains s l = map.contains_key s l

abbrev pub IsSubset : Labels → Labels → Type 0
IsSubset s t = (l : Label) → IsTrue (contains s l) → IsTrue (contains t l)

-- the labels of s, and those of t
abbrev pub union : Labels → Labels → Labels
union s t = map.from_entries (map.entries s ++ map.entries t)

-- the labels of s that are not in t
abbrev pub minus : Labels → Labels → Labels
minus s t = map.retain_keys s (λ l. not (contains t l))
