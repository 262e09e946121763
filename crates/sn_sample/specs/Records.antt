-- The records of numbers.
use Rattle.std.specs.Prelude.{ℕ, zero, suc, ◌/◌, ◌%◌, pos, IsTrue, List, [], ◌∷◌, ◌++◌, codes}
use Rattle.std.specs.FinMap as finite
use Rattle.sn_record.specs.declared.item.Item.{Item}
use Rattle.sn_record.specs.declared.item.Item.TheVariants as item
use Rattle.sn_record.specs.declared.label.Kind.{Kind}
use Rattle.sn_record.specs.declared.label.Kind.TheVariants.{Field, Tag}
use Rattle.sn_record.specs.declared.label.Label.{Label}
use Rattle.sn_record.specs.declared.value.Value.TheVariants.{Int}
use Rattle.sn_record.specs.Record.{Entries}
use Rattle.sn_names.specs.Names.{is_held, label_number}
use Rattle.sn_sample.specs.Numbers.{number_at}

-- the names of the three labels are held
pub record HasLabels (names : List (List ℕ)) : Type 0 where
  pub v : IsTrue (is_held names (codes "v"))
  pub k : IsTrue (is_held names (codes "k"))
  pub n : IsTrue (is_held names (codes "n"))

abbrev pub label : List (List ℕ) → Kind → List ℕ → Label
label names kind name = record { kind = kind; id = label_number names name }

-- the record of a number: the field v, and the tags k and n
abbrev pub sample_record : List (List ℕ) → ℕ → Entries
sample_record names x = finite.from_entries (
    (label names Field (codes "v"), Int (pos (x % 1000)))
    ∷ (label names Tag (codes "k"), Int (pos (x / 65536 % 8)))
    ∷ (label names Tag (codes "n"), Int (pos (x / 524288 % 16)))
    ∷ [])

-- the records of the first numbers, from the one at 1 on
abbrev pub sample_items : List (List ℕ) → ℕ → ℕ → List Item
sample_items names first zero = []
sample_items names first (suc i) = sample_items names first i ++ item.Rec (sample_record names (number_at first (suc i))) ∷ []
