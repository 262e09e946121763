-- Labels by the numbers of their names, and variants.
use Rattle.std.specs.Prelude.{ℕ, Bool, true, false, not, List, [], ◌∷◌, Option}
use Rattle.std.specs.List.{fold}
use Rattle.std.specs.FinMap as map
use Rattle.sn_ast.specs.declared.label.LabelAt.{LabelAt}
use Rattle.sn_ast.specs.declared.label.Variant.{Variant}
use Rattle.sn_record.specs.declared.label.Kind.{Kind}
use Rattle.sn_record.specs.declared.label.Kind.TheVariants.{Field, Tag}
use Rattle.sn_record.specs.declared.label.Label.{Label}
use Rattle.sn_record.specs.LabelSet.{Labels, contains}
use Rattle.sn_names.specs.Names.{label_number}
use Rattle.sn_label_scope.specs.Refusals.{required}
use Rattle.sn_label_scope.specs.declared.refusal.Reason.TheVariants.{Twice}
use Rattle.sn_label_scope.specs.declared.refusal.Refusal.{Refusal}

abbrev pub kind_of : Bool → Kind
kind_of true = Tag
kind_of false = Field

-- a label has the number of its name among the names
abbrev pub label_at : List (List ℕ) → LabelAt → Label
label_at names label = record { kind = kind_of label.tag; id = label_number names label.name.text }

-- the set of the labels
abbrev pub labels_at : List (List ℕ) → List LabelAt → Labels
labels_at names labels = fold (λ set label. map.insert set (label_at names label) tt) map.empty labels

abbrev pub variant_at : List (List ℕ) → Variant → Labels
variant_at names variant = labels_at names variant.labels

-- each label is refused that is in the set already, or stands before in the list
abbrev pub no_repeats : List (List ℕ) → Labels → List LabelAt → Option Refusal → Option Refusal
no_repeats names set [] least = least
no_repeats names set (label ∷ labels) least =
    no_repeats names (map.insert set (label_at names label) tt) labels (required (not (contains set (label_at names label))) Twice label.name.at least)

-- a variant has no label twice
abbrev pub variant_required : List (List ℕ) → Option Refusal → Variant → Option Refusal
variant_required names least variant = no_repeats names map.empty variant.labels least
