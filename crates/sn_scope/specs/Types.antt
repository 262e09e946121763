-- Types and signatures, with each name of a type replaced by its variants.
use Rattle.std.specs.Prelude.{ℕ, List, [], get_or, Option, Some, None, is_some}
use Rattle.std.specs.List.{fold}
use Rattle.sn_ast.specs.declared.label.TypePart.{TypePart}
use Rattle.sn_ast.specs.declared.label.TypePart.TheVariants.{Set, Named}
use Rattle.sn_record.specs.LabelSet.{Labels}
use Rattle.sn_label_scope.specs.Labels.{variant_at, variant_required}
use Rattle.sn_label_scope.specs.Refusals.{required, Check}
use Rattle.sn_scope.specs.Scopes.{type_of}
use Rattle.sn_scope.specs.Variants.{added}
use Rattle.sn_label_scope.specs.declared.refusal.Reason.TheVariants.{Unknown}
use Rattle.sn_label_scope.specs.declared.refusal.Refusal.{Refusal}
use Rattle.sn_scope.specs.declared.scopes.Scopes.{Scopes}

-- the variants of a type by its number, and none where it is unknown
abbrev pub variants_of : List (List Labels) → Option ℕ → List Labels
variants_of types (Some number) = get_or types number []
variants_of types None = []

-- one more part: a variant, or those of the type that the name stands for; each variant counts once
abbrev pub part_added : List (List ℕ) → Scopes → List (List Labels) → List Labels → TypePart → List Labels
part_added names scopes types variants (Set variant) = added variants (variant_at names variant)
part_added names scopes types variants (Named name) = fold added variants (variants_of types (type_of scopes name.text))

-- the variants of the parts, in the order of their first places
abbrev pub type_at : List (List ℕ) → Scopes → List (List Labels) → List TypePart → List Labels
type_at names scopes types parts = fold (part_added names scopes types) [] parts

-- a part is a variant without a label twice, or the name of a type
abbrev pub part_required : List (List ℕ) → Scopes → Option Refusal → TypePart → Option Refusal
part_required names scopes least (Set variant) = variant_required names least variant
part_required names scopes least (Named name) = required (is_some (type_of scopes name.text)) Unknown name.at least

abbrev pub type_required : List (List ℕ) → Scopes → List TypePart → Check
type_required names scopes parts least = fold (part_required names scopes) least parts
