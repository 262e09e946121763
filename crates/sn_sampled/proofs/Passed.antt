-- Checks that pass: what is required holds, so no refusal is added.
use Rattle.std.proofs.Common.{◌≡◌, ℕ, Bool, true, ◌&&◌, not, List, [], ◌∷◌, Option, refl, ap, ◌∙◌}
use Rattle.std.specs.FinMap as map
use Rattle.std.proofs.lemmas.Bool.{and_parts}
use Rattle.sn_ast.specs.Networks.{same_item, computed_item}
use Rattle.sn_ast.specs.declared.label.Ident.{Ident}
use Rattle.sn_ast.specs.declared.label.LabelAt.{LabelAt}
use Rattle.sn_ast.specs.declared.label.Variant.{Variant}
use Rattle.sn_ast.specs.declared.network.ItemAt.{ItemAt}
use Rattle.sn_ast.specs.declared.network.TemplateAt.{TemplateAt}
use Rattle.sn_ast.specs.declared.tag_expr.Operator.{Operator}
use Rattle.sn_ast.specs.declared.tag_expr.TExpr.{TExpr}
use Rattle.sn_ast.specs.declared.tag_expr.TForm.TheVariants as tag_form
use Rattle.sn_label_scope.specs.Labels.{label_at, variant_at, no_repeats}
use Rattle.sn_label_scope.specs.Refusals.{Check, required}
use Rattle.sn_label_scope.specs.declared.refusal.Reason.{Reason}
use Rattle.sn_label_scope.specs.declared.refusal.Reason.TheVariants.{Unknown, Twice}
use Rattle.sn_label_scope.specs.declared.refusal.Refusal.{Refusal}
use Rattle.sn_names.specs.Names.{label_number}
use Rattle.sn_net.specs.Filter.{tag, target}
use Rattle.sn_record.specs.declared.label.Label.{Label}
use Rattle.sn_record.specs.LabelSet.{Labels, contains}
use Rattle.sn_roundtrip.proofs.Tags as tag_folds
use Rattle.sn_scope.specs.Filters.{part_at, source_required, items_required, template_required, filter_required}
use Rattle.sn_scope.specs.Tags.{tags_required, tags_step}
use Rattle.sn_sampled.proofs.Labels.{has, Holds, holds_none, holds_more}

abbrev pub Passes : Check → Type 0
Passes check = (least : Option Refusal) → check least ≡ least

required_passes : (b : Bool) (reason : Reason) (at : ℕ) → b ≡ true → Passes (required b reason at)
required_passes b reason at holds least = ap (λ test. required test reason at least) holds

module _ (names : List (List ℕ)) where
  -- the labels are none of those seen, and no two are one
  abbrev pub apart : List Label → List LabelAt → Bool
  apart seen [] = true
  apart seen (label ∷ labels) = not (has seen (label_at names label)) && apart (label_at names label ∷ seen) labels

  repeats_pass : (set : Labels) (seen : List Label) → Holds set seen → (labels : List LabelAt) → apart seen labels ≡ true → Passes (no_repeats names set labels)
  repeats_pass set seen holds [] h least = refl
  repeats_pass set seen holds (label ∷ labels) h least =
      let parts = and_parts (not (has seen (label_at names label))) (apart (label_at names label ∷ seen) labels) h in
      let fresh = ap not (holds (label_at names label)) ∙ parts.0 in
      ap (no_repeats names (map.insert set (label_at names label) tt) labels) (required_passes (not (contains set (label_at names label))) Twice label.name.at fresh least)
      ∙ repeats_pass (map.insert set (label_at names label) tt) (label_at names label ∷ seen) (holds_more set seen (label_at names label) holds) labels parts.1 least

  -- labels that are apart are refused nowhere, in a variant or a tuple
  pub labels_pass : (labels : List LabelAt) → apart [] labels ≡ true → Passes (no_repeats names map.empty labels)
  labels_pass = repeats_pass map.empty [] holds_none

  module _ (pattern : Labels) (among : List Label) (holds : Holds pattern among) where
    abbrev pub TagsPass : Reason → TExpr → Type 0
    TagsPass reason e = Passes (tags_required names pattern reason e)

    pub number_passes : (reason : Reason) (at : ℕ) (n : _) → TagsPass reason (record { at = at; form = tag_form.Number n })
    number_passes reason at n least = ap (λ check. check least) (tag_folds.fold_number (tags_step names pattern reason) (λ e. e.form) at n)

    pub tag_passes : (reason : Reason) (at : ℕ) (name : Ident) → has among (tag (label_number names name.text)) ≡ true → TagsPass reason (record { at = at; form = tag_form.Tag name })
    tag_passes reason at name here least =
        ap (λ check. check least) (tag_folds.fold_tag (tags_step names pattern reason) (λ e. e.form) at name)
        ∙ required_passes (contains pattern (tag (label_number names name.text))) reason name.at (holds (tag (label_number names name.text)) ∙ here) least

    pub op_passes : (reason : Reason) (at : ℕ) (o : Operator) (e f : TExpr) → TagsPass reason e → TagsPass reason f → TagsPass reason (record { at = at; form = tag_form.Op o e f })
    op_passes reason at o e f first second least =
        ap (λ check. check least) (tag_folds.fold_op (tags_step names pattern reason) (λ e. e.form) at o e f)
        ∙ ap (tags_required names pattern reason f) (first least) ∙ second least

    abbrev pub ItemPasses : ItemAt → Type 0
    ItemPasses item = Passes (source_required names pattern item)

    pub same_passes : (label : LabelAt) → has among (label_at names label) ≡ true → ItemPasses (same_item label)
    same_passes label here = required_passes (contains pattern (label_at names label)) Unknown label.name.at (holds (label_at names label) ∙ here)

    pub computed_passes : (name : Ident) (e : TExpr) → TagsPass Unknown e → ItemPasses (computed_item name e)
    computed_passes name e passes = passes

    abbrev pub ItemsPass : List ItemAt → Type 0
    ItemsPass [] = Unit {0}
    ItemsPass (item ∷ items) = ItemPasses item × ItemsPass items

    -- no two items set one label
    abbrev pub targets_apart : List Label → List ItemAt → Bool
    targets_apart seen [] = true
    targets_apart seen (item ∷ items) = not (has seen (target (part_at names item))) && targets_apart (target (part_at names item) ∷ seen) items

    items_pass : (set : Labels) (seen : List Label) → Holds set seen → (items : List ItemAt) → ItemsPass items →
        targets_apart seen items ≡ true → Passes (items_required names pattern set items)
    items_pass set seen set_holds [] each h least = refl
    items_pass set seen set_holds (item ∷ items) each h least =
        let parts = and_parts (not (has seen (target (part_at names item)))) (targets_apart (target (part_at names item) ∷ seen) items) h in
        let fresh = ap not (set_holds (target (part_at names item))) ∙ parts.0 in
        let more = map.insert set (target (part_at names item)) tt in
        ap (λ least. items_required names pattern more items (required (not (contains set (target (part_at names item)))) Twice item.target.name.at least)) (each.0 least)
        ∙ ap (items_required names pattern more items) (required_passes (not (contains set (target (part_at names item)))) Twice item.target.name.at fresh least)
        ∙ items_pass more (target (part_at names item) ∷ seen) (holds_more set seen (target (part_at names item)) set_holds) items each.1 parts.1 least

    pub template_passes : (template : TemplateAt) → ItemsPass template.items → targets_apart [] template.items ≡ true → Passes (λ least. template_required names pattern least template)
    template_passes template = items_pass map.empty [] holds_none template.items

  -- a filter of one template
  pub filter_passes : (place : ℕ) (pattern : Variant) (template : TemplateAt) → apart [] pattern.labels ≡ true →
      Passes (λ least. template_required names (variant_at names pattern) least template) →
      Passes (filter_required names place pattern [] (template ∷ []))
  filter_passes place pattern template labels passes least =
      ap (λ before. template_required names (variant_at names pattern) before template) (labels_pass pattern.labels labels least) ∙ passes least
