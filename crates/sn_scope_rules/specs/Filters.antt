-- What is refused in filters.
use Rattle.std.specs.List.{list_any}
use Rattle.std.specs.Str.{bytes_eq}
use Rattle.std.specs.Prelude.{◌≡◌, ℕ, Bool, true, false, ◌&&◌, List, [], ◌∷◌, ◌++◌, length}
use Rattle.sn_ast.specs.declared.label.Ident.{Ident}
use Rattle.sn_ast.specs.declared.label.LabelAt.{LabelAt}
use Rattle.sn_ast.specs.declared.label.Variant.{Variant}
use Rattle.sn_ast.specs.declared.network.ArmAt.{ArmAt}
use Rattle.sn_ast.specs.declared.network.ItemAt.{ItemAt}
use Rattle.sn_ast.specs.declared.network.ItemSource.{ItemSource}
use Rattle.sn_ast.specs.declared.network.ItemSource.TheVariants.{Same, Field, Expr}
use Rattle.sn_ast.specs.declared.network.TemplateAt.{TemplateAt}
use Rattle.sn_ast.specs.declared.tag_expr.TExpr.{TExpr, fold-TExpr}
use Rattle.sn_ast.specs.declared.tag_expr.TForm.TheOpen.{TForm-F}
use Rattle.sn_box_scope.specs.Variables.{same_kind}
use Rattle.sn_label_scope.specs.declared.refusal.Refusal.{Refusal}
use Rattle.sn_scope.specs.Filters.{is_between}
use Rattle.sn_scope_rules.specs.Labels.{LabelsBreak, has_label}
use Rattle.sn_scope_rules.specs.Refusals.{arity, guard_tag, twice, unknown}
use Rattle.sn_scope_rules.specs.Standing.{StandsBehind, StandsIn}

-- one level, with the tags of each part in its place
abbrev pub tags_step : TForm-F (List Ident) (List Ident) → List Ident
tags_step (TForm-F.Number n) = []
tags_step (TForm-F.Tag name) = name ∷ []
tags_step (TForm-F.Neg e) = e
tags_step (TForm-F.Not e) = e
tags_step (TForm-F.Op o e f) = e ++ f
tags_step (TForm-F.And e f) = e ++ f
tags_step (TForm-F.Or e f) = e ++ f
tags_step (TForm-F.Cond c e f) = c ++ (e ++ f)

-- the tags that an expression names
abbrev pub tags_in : TExpr → List Ident
tags_in = fold-TExpr (List Ident) (List Ident) tags_step (λ e. e.form)

-- the expression names a tag that is none of the labels
pub data NamesOther (labels : List LabelAt) (e : TExpr) : Ident → Type 0 where
  no_such_tag : {name : Ident} → StandsIn name (tags_in e) → has_label labels true name.text ≡ false → NamesOther labels e name

-- a label that an item copies, renames or computes from, which the pattern does not have
pub data SourceBreaks (pattern : List LabelAt) (label : LabelAt) : ItemSource → Refusal → Type 0 where
  copies_no_label : has_label pattern label.tag label.name.text ≡ false → SourceBreaks pattern label Same (unknown label.name.at)
  renames_no_field : {name : Ident} → has_label pattern false name.text ≡ false → SourceBreaks pattern label (Field name) (unknown name.at)
  computes_from_no_tag : {e : TExpr} {name : Ident} → NamesOther pattern e name → SourceBreaks pattern label (Expr e) (unknown name.at)

-- an item that renames sets a field, one that computes sets a tag, and any other sets what it copies
abbrev pub sets_tag : LabelAt → ItemSource → Bool
sets_tag label Same = label.tag
sets_tag label (Field name) = false
sets_tag label (Expr e) = true

-- the item sets the tag, or the field, of the name
abbrev pub is_set : Bool → List ℕ → ItemAt → Bool
is_set tag name item = same_kind (sets_tag item.target item.source) tag && bytes_eq item.target.name.text name

-- one of the items sets what the item sets
abbrev pub sets_again : List ItemAt → ItemAt → Bool
sets_again items item = list_any (is_set (sets_tag item.target item.source) item.target.name.text) items

-- what is refused in the source of an item, or an item that sets what one before it sets
pub data ItemsBreak (pattern : List LabelAt) (items : List ItemAt) : Refusal → Type 0 where
  in_source : {item : ItemAt} {r : Refusal} → StandsIn item items → SourceBreaks pattern item.target item.source r → ItemsBreak pattern items r
  set_twice : {before : List ItemAt} {item : ItemAt} → StandsBehind item before items → sets_again before item ≡ true → ItemsBreak pattern items (twice item.target.name.at)

-- a filter with more than 16 arms, or without 1 to 16 templates in an arm or in its last list; a label twice in its pattern; a tag of a guard that the
-- pattern does not have; or what is refused in a template of an arm or of the last list
pub data FilterBreaks (place : ℕ) (pattern : Variant) (arms : List ArmAt) (templates : List TemplateAt) : Refusal → Type 0 where
  arm_count : is_between 0 16 (length arms) ≡ false → FilterBreaks place pattern arms templates (arity place)
  arm_template_count : {arm : ArmAt} → StandsIn arm arms → is_between 1 16 (length arm.templates) ≡ false → FilterBreaks place pattern arms templates (arity place)
  template_count : is_between 1 16 (length templates) ≡ false → FilterBreaks place pattern arms templates (arity place)
  in_pattern : {r : Refusal} → LabelsBreak pattern.labels r → FilterBreaks place pattern arms templates r
  in_guard : {arm : ArmAt} {name : Ident} → StandsIn arm arms → NamesOther pattern.labels arm.guard name → FilterBreaks place pattern arms templates (guard_tag name.at)
  in_arm_template : {arm : ArmAt} {template : TemplateAt} {r : Refusal} → StandsIn arm arms → StandsIn template arm.templates →
      ItemsBreak pattern.labels template.items r → FilterBreaks place pattern arms templates r
  in_template : {template : TemplateAt} {r : Refusal} → StandsIn template templates → ItemsBreak pattern.labels template.items r → FilterBreaks place pattern arms templates r
