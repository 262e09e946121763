-- Matching and subtypes by subsets alone: what they are where no label is a binding tag.
use Rattle.std.specs.Prelude.{ℕ, Bool, IsTrue, if◌then◌else◌, List, [], ◌∷◌, Option, None, Some}
use Rattle.std.specs.List.{All, Contains, list_all}
use Rattle.std.specs.FinMap as map
use Rattle.sn_record.specs.declared.label.Label.{Label}
use Rattle.sn_record.specs.Label.{is_binding}
use Rattle.sn_record.specs.LabelSet.{Labels, contains, IsSubset}
use Rattle.sn_record.specs.Record.{Entries, greater}

-- none of the labels that `has` tells is a binding tag
abbrev pub NoneBinds : (Label → Bool) → Type 0
NoneBinds has = (l : Label) → IsTrue (is_binding l) → IsTrue (has l) → ⊥

-- no label of the set is a binding tag
abbrev pub IsUnbound : Labels → Type 0
IsUnbound s = NoneBinds (contains s)

-- each label of v is one of r
abbrev pub Has : Entries → Labels → Type 0
Has r v = (l : Label) → IsTrue (contains v l) → IsTrue (map.contains_key r l)

-- the size of the largest variant whose labels r has, or none
abbrev pub score : List Labels → Entries → Option ℕ
score [] r = None
score (v ∷ vs) r = greater (if list_all (map.contains_key r) (map.keys v) then Some (map.len v) else None) (score vs r)

-- one of the variants is a subset of v
pub record HasSubset (variants : List Labels) (v : Labels) : Type 0 where
  pub variant : Labels
  pub listed : Contains variants variant
  pub within : IsSubset variant v

-- each variant of x has a subset among those of y
abbrev pub IsSubtype : List Labels → List Labels → Type 0
IsSubtype x y = All (HasSubset y) x
