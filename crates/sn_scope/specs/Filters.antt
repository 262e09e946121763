-- Filters by the numbers of their labels.
use Rattle.std.specs.Prelude.{ℕ, Bool, not, ◌&&◌, nat_le, List, [], ◌∷◌, length, map as each, Option}
use Rattle.std.specs.List.{fold, list_all}
use Rattle.std.specs.FinMap as map
use Rattle.sn_ast.specs.declared.network.ArmAt.{ArmAt}
use Rattle.sn_ast.specs.declared.network.ItemAt.{ItemAt}
use Rattle.sn_ast.specs.declared.network.ItemSource.{ItemSource}
use Rattle.sn_ast.specs.declared.network.ItemSource.TheVariants.{Same, Field, Expr}
use Rattle.sn_ast.specs.declared.network.TemplateAt.{TemplateAt}
use Rattle.sn_ast.specs.declared.label.LabelAt.{LabelAt}
use Rattle.sn_ast.specs.declared.label.Variant.{Variant}
use Rattle.sn_record.specs.LabelSet.{Labels, contains}
use Rattle.sn_names.specs.Names.{label_number}
use Rattle.sn_net.specs.Filter.{field, target}
use Rattle.sn_net.specs.declared.filter.Arm.{Arm}
use Rattle.sn_net.specs.declared.filter.Filter.{Filter}
use Rattle.sn_net.specs.declared.filter.Part.{Part}
use Rattle.sn_net.specs.declared.filter.Part.TheVariants.{Copy, Rename, Compute}
use Rattle.sn_net.specs.declared.filter.Template.{Template}
use Rattle.sn_label_scope.specs.Labels.{label_at, variant_at, variant_required}
use Rattle.sn_label_scope.specs.Refusals.{required, Check}
use Rattle.sn_scope.specs.Tags.{tag_expr, tags_required}
use Rattle.sn_label_scope.specs.declared.refusal.Reason.TheVariants.{Unknown, Twice, Arity, GuardTag}
use Rattle.sn_label_scope.specs.declared.refusal.Refusal.{Refusal}

-- the count is one of those from the least to the most
abbrev pub is_between : ℕ → ℕ → ℕ → Bool
is_between least most count = nat_le least count && nat_le count most

-- an item copies its label, renames a field to it, or computes it
abbrev pub part_of : List (List ℕ) → LabelAt → ItemSource → Part
part_of names label Same = Copy (label_at names label)
part_of names label (Field name) = Rename (label_number names label.name.text) (label_number names name.text)
part_of names label (Expr e) = Compute (label_number names label.name.text) (tag_expr names e)

abbrev pub part_at : List (List ℕ) → ItemAt → Part
part_at names item = part_of names item.target item.source

abbrev pub template_at : List (List ℕ) → TemplateAt → Template
template_at names template = record { parts = each (part_at names) template.items }

abbrev pub arm_at : List (List ℕ) → ArmAt → Arm
arm_at names arm = record { guard = tag_expr names arm.guard; templates = each (template_at names) arm.templates }

abbrev pub filter_at : List (List ℕ) → ℕ → Variant → List ArmAt → List TemplateAt → Filter
filter_at names place pattern arms templates = record {
  place = place;
  pattern = variant_at names pattern;
  arms = each (arm_at names) arms;
  templates = each (template_at names) templates;
}

-- the filter that passes each record on
abbrev pub identity_at : ℕ → Filter
identity_at place = record { place = place; pattern = map.empty; arms = []; templates = record { parts = [] } ∷ [] }

-- the label that an item copies, and what it renames or computes from, is in the pattern
abbrev pub from_required : List (List ℕ) → Labels → LabelAt → ItemSource → Check
from_required names pattern label Same least = required (contains pattern (label_at names label)) Unknown label.name.at least
from_required names pattern label (Field name) least = required (contains pattern (field (label_number names name.text))) Unknown name.at least
from_required names pattern label (Expr e) least = tags_required names pattern Unknown e least

abbrev pub source_required : List (List ℕ) → Labels → ItemAt → Check
source_required names pattern item = from_required names pattern item.target item.source

-- each item takes from the pattern, and sets a label that none before it sets and that is not in the set
abbrev pub items_required : List (List ℕ) → Labels → Labels → List ItemAt → Check
items_required names pattern set [] least = least
items_required names pattern set (item ∷ items) least =
    items_required names pattern (map.insert set (target (part_at names item)) tt) items
    (required (not (contains set (target (part_at names item)))) Twice item.target.name.at (source_required names pattern item least))

abbrev pub template_required : List (List ℕ) → Labels → Option Refusal → TemplateAt → Option Refusal
template_required names pattern least template = items_required names pattern map.empty template.items least

abbrev pub templates_required : List (List ℕ) → Labels → List TemplateAt → Check
templates_required names pattern templates least = fold (template_required names pattern) least templates

-- the tags of a guard are in the pattern, and the arm's templates are over it
abbrev pub arm_required : List (List ℕ) → Labels → Option Refusal → ArmAt → Option Refusal
arm_required names pattern least arm = templates_required names pattern arm.templates (tags_required names pattern GuardTag arm.guard least)

-- 0 to 16 arms, and 1 to 16 templates in each list
abbrev pub are_few : List ArmAt → List TemplateAt → Bool
are_few arms templates = is_between 0 16 (length arms) && (list_all (λ arm. is_between 1 16 (length arm.templates)) arms && is_between 1 16 (length templates))

-- a filter has few enough arms and templates, no label twice in its pattern, and guards and templates over the pattern
abbrev pub filter_required : List (List ℕ) → ℕ → Variant → List ArmAt → List TemplateAt → Check
filter_required names place pattern arms templates least =
    let labels = variant_at names pattern in
    templates_required names labels templates (fold (arm_required names labels) (variant_required names (required (are_few arms templates) Arity place least) pattern) arms)
