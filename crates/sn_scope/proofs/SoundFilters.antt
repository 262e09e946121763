-- Filters that are not refused are closed.
use Rattle.std.proofs.Common.{◌≡◌, ◌≢◌, ℕ, false, not, IsTrue, List, [], ◌∷◌, length, map as each, All, sym, ◌∙◌, true≢false, arith}
use Rattle.std.specs.List.{fold}
use Rattle.std.specs.FinMap as finite
use Rattle.std.specs.Ordering.{eq_by_cmp}
use Rattle.std.proofs.lemmas.Bool.{not-true, or_parts}
use Rattle.std.proofs.lemmas.List.Elements.{All-nil, All-cons, All-map, All-weaker}
use Rattle.std.proofs.lemmas.List.Kept.{AllPairs-cons}
use Rattle.sn_ast.specs.declared.label.LabelAt.{LabelAt}
use Rattle.sn_ast.specs.declared.label.Variant.{Variant}
use Rattle.sn_ast.specs.declared.network.ArmAt.{ArmAt}
use Rattle.sn_ast.specs.declared.network.ItemAt.{ItemAt}
use Rattle.sn_ast.specs.declared.network.ItemSource.{ItemSource}
use Rattle.sn_ast.specs.declared.network.ItemSource.TheVariants.{Same, Field, Expr}
use Rattle.sn_ast.specs.declared.network.TemplateAt.{TemplateAt}
use Rattle.sn_names.specs.Names.{label_number}
use Rattle.sn_net.specs.Filter.{field, is_from, target, IsClosed, IsClosedArm, IsClosedTemplate}
use Rattle.sn_net.specs.declared.filter.Part.{Part}
use Rattle.sn_net.specs.declared.filter.Template.{Template}
use Rattle.sn_record.specs.declared.label.Label.{Label}
use Rattle.sn_record.specs.Label.{label_cmp}
use Rattle.sn_record.specs.LabelSet.{Labels, contains}
use Rattle.sn_record.proofs.Sets.{contains-insert}
use Rattle.sn_scope.specs.Filters.{are_few, arm_at, arm_required, filter_at, filter_required, from_required, identity_at, items_required, part_at, part_of, source_required, template_at, template_required, templates_required}
use Rattle.sn_scope.specs.Tags.{tags_required}
use Rattle.sn_scope.specs.Keys.{label_Decides}
use Rattle.sn_label_scope.specs.Labels.{label_at, variant_at, variant_required}
use Rattle.sn_label_scope.specs.Refusals.{required}
use Rattle.sn_label_scope.specs.declared.refusal.Reason.TheVariants.{Unknown, Twice, Arity, GuardTag}
use Rattle.sn_label_scope.proofs.Checks.{Tells, required_tells, tells_each, variant_tells}
use Rattle.sn_scope.proofs.SoundTags.{tags_tell}

-- a label that is not in a set with one label more is another, and was not in the set
another : (set : Labels) (added label : Label) → contains (finite.insert set added tt) label ≡ false → (added ≢ label) × (contains set label ≡ false)
another set added label absent =
    let parts = or_parts (eq_by_cmp label_cmp label added) (contains set label) (sym (contains-insert set added label) ∙ absent) in
    (λ same. true≢false (sym ((label_Decides label added).1 (sym same)) ∙ parts.0), parts.1)

-- no label that the parts set is in the set
abbrev AreNew : Labels → List Part → Type 0
AreNew set parts = All (λ part. contains set (target part) ≡ false) parts

module _ (names : List (List ℕ)) (pattern : Labels) where
  -- an item that is not refused takes from the pattern
  source_tells : (label : LabelAt) (source : ItemSource) → Tells (from_required names pattern label source) (IsTrue (is_from pattern (part_of names label source)))
  source_tells label Same = required_tells (contains pattern (label_at names label)) Unknown label.name.at
  source_tells label (Field name) = required_tells (contains pattern (field (label_number names name.text))) Unknown name.at
  source_tells label (Expr e) = tags_tell names pattern Unknown e

  abbrev parts_at : List ItemAt → List Part
  parts_at items = each (part_at names) items

  -- items that are not refused make a closed template, and set no label of the set
  items_tell : (set : Labels) (items : List ItemAt) → Tells (items_required names pattern set items) (IsClosedTemplate pattern (record { parts = parts_at items }) × AreNew set (parts_at items))
  items_tell set [] least none = (none, (record { named = All-nil _; apart = λ i j d before within. absurd (omega arith) }, All-nil _))
  items_tell set (item ∷ items) least none =
      let part = part_at names item in
      let parts = parts_at items in
      let rest = items_tell (finite.insert set (target part) tt) items
      (required (not (contains set (target part))) Twice item.target.name.at (source_required names pattern item least)) none in
      let new = required_tells (not (contains set (target part))) Twice item.target.name.at (source_required names pattern item least) rest.0 in
      let taken = source_tells item.target item.source least new.0 in
      let closed = rest.1.0 in
      let others = All-weaker (λ other. contains (finite.insert set (target part) tt) (target other) ≡ false) (λ other. (target part ≢ target other) × (contains set (target other) ≡ false))
      (λ other absent. another set (target part) (target other) absent) parts rest.1.1 in (
        taken.0,
        (
          record {
            named = All-cons (λ other. IsTrue (is_from pattern other)) part parts taken.1 closed.named;
            apart = AllPairs-cons (λ one other. target one ≢ target other) part parts (λ i d within. (others i d within).0) closed.apart;
          },
          All-cons (λ other. contains set (target other) ≡ false) part parts (not-true (contains set (target part)) new.1) (λ i d within. (others i d within).1),
        ),
      )

  -- a template that is not refused is closed
  template_tells : (template : TemplateAt) → Tells (λ least. template_required names pattern least template) (IsClosedTemplate pattern (template_at names template))
  template_tells template least none = let told = items_tell finite.empty template.items least none in (told.0, told.1.0)

  templates_tell : (templates : List TemplateAt) → Tells (templates_required names pattern templates) (All (IsClosedTemplate pattern) (each (template_at names) templates))
  templates_tell templates least none =
      let closed = tells_each (template_required names pattern) (λ template. IsClosedTemplate pattern (template_at names template)) template_tells templates least none in
      (closed.0, All-map (IsClosedTemplate pattern) (template_at names) templates closed.1)

  -- so is an arm
  arm_tells : (arm : ArmAt) → Tells (λ least. arm_required names pattern least arm) (IsClosedArm pattern (arm_at names arm))
  arm_tells arm least none =
      let templates = templates_tell arm.templates (tags_required names pattern GuardTag arm.guard least) none in
      let guard = tags_tell names pattern GuardTag arm.guard least templates.0 in
      (guard.0, record { guard = guard.1; templates = templates.1 })

-- a filter that is not refused is closed
pub filter_tells : (names : List (List ℕ)) (place : ℕ) (pattern : Variant) (arms : List ArmAt) (templates : List TemplateAt)
    → Tells (filter_required names place pattern arms templates) (IsClosed (filter_at names place pattern arms templates))
filter_tells names place pattern arms templates least none =
    let set = variant_at names pattern in
    let first = required (are_few arms templates) Arity place least in
    let last = templates_tell names set templates (fold (arm_required names set) (variant_required names first pattern) arms) none in
    let closed = tells_each (arm_required names set) (λ arm. IsClosedArm set (arm_at names arm)) (arm_tells names set) arms (variant_required names first pattern) last.0 in
    let before = variant_tells names pattern first closed.0 in (
      (required_tells (are_few arms templates) Arity place least before.0).0,
      record { arms = All-map (IsClosedArm set) (arm_at names) arms closed.1; last = last.1 },
    )

-- the filter that passes each record on is closed
pub identity_closed : (place : ℕ) → IsClosed (identity_at place)
identity_closed place =
    let empty : Template = record { parts = [] } in
    let closed : IsClosedTemplate finite.empty empty = record { named = All-nil (λ part. IsTrue (is_from finite.empty part)); apart = λ i j d before within. absurd (omega arith) } in
    record { arms = All-nil (IsClosedArm finite.empty); last = All-cons (IsClosedTemplate finite.empty) empty [] closed (All-nil (IsClosedTemplate finite.empty)) }
