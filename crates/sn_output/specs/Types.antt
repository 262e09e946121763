-- Variants and types as they are printed.
use Rattle.std.specs.Prelude.{◌≡◌, ℕ, List, ◌++◌, codes, map}
use Rattle.std.specs.Cmp.Lexicographic.{slice_cmp}
use Rattle.std.specs.Ordering.{nat_cmp}
use Rattle.std.specs.FinMap as finite
use Rattle.std.specs.List.Sorted.{IsPermutation, IsSorted}
use Rattle.sn_record.specs.LabelSet.{Labels}
use Rattle.sn_record.specs.declared.label.Label.{Label}
use Rattle.sn_names.specs.Names.{label_name}
use Rattle.sn_output.specs.Line.{by_name, joined, printed_label}

abbrev pub label_text : List (List ℕ) → Label → List ℕ
label_text names label = printed_label label.kind (label_name names label.id)

-- the entries of a map with nothing at each of the labels
abbrev pub beside_nothing : List Label → List (Label × Unit {0})
beside_nothing = map (λ label. (label, tt))

-- the labels of a variant in the order in which they are printed
abbrev pub ordered_labels : List (List ℕ) → Labels → List Label
ordered_labels names variant = finite.keys (finite.from_entries {X = Unit {0}} {R = by_name names} (beside_nothing (finite.keys variant)))

abbrev pub variant_text : List (List ℕ) → Labels → List ℕ
variant_text names variant = codes "{" ++ (joined (codes ", ") (map (label_text names) (ordered_labels names variant)) ++ codes "}")

-- the texts of the variants in byte order, with a bar between any two
pub record IsTypeText (names : List (List ℕ)) (variants : List Labels) (text : List ℕ) : Type 0 where
  pub texts : List (List ℕ)
  pub permuted : IsPermutation (map (variant_text names) variants) texts
  pub sorted : IsSorted (slice_cmp nat_cmp) texts
  pub text_is : text ≡ joined (codes " | ") texts
