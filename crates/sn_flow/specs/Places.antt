-- Where variants stand in a list, by the lists of their labels.
use Rattle.std.specs.Prelude.{◌≡◌, ℕ, zero, suc, Vec, List, [], ◌∷◌, if◌then◌else◌, Option, None, Some}
use Rattle.std.specs.BTreeMap.{BTreeMap, get}
use Rattle.std.specs.Cmp.Lexicographic.{slice_cmp}
use Rattle.std.specs.FinMap as map
use Rattle.std.specs.Option.{option_map}
use Rattle.std.specs.Ordering.{is_eq}
use Rattle.std.proofs.Common.{Global}
use Rattle.std.specs.declared.cmp.Ordering.{Ordering}
use Rattle.sn_record.specs.declared.label.Label.{Label}
use Rattle.sn_record.specs.Label.{label_cmp}
use Rattle.sn_record.specs.LabelSet.{Labels}
use Rattle.sn_types.specs.RecordType.{is_same}

-- labels in ascending order, as a key
abbrev pub Key : Type 0
Key = Vec Label Global

abbrev pub key_cmp : Key → Key → Ordering
key_cmp x y = slice_cmp label_cmp x.items y.items

-- the place of the first of the variants that has just these labels
abbrev pub place_in : List Labels → List Label → Option ℕ
place_in [] labels = None
place_in (v ∷ vs) labels = if is_eq (slice_cmp label_cmp labels (map.keys v)) then Some zero else option_map suc (place_in vs labels)

-- the map has the place of each of the variants, and no other
abbrev pub Tells : BTreeMap Key ℕ → List Labels → Type 0
Tells places variants = (key : Key) → get key_cmp places key ≡ place_in variants key.items

-- the first of the variant
abbrev pub first_of : {X : Type 0} → (X → Labels) → List X → Labels → Option X
first_of variant_of [] v = None
first_of variant_of (x ∷ xs) v = if is_same (variant_of x) v then Some x else first_of variant_of xs v
