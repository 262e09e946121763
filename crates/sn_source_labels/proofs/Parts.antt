-- The labels of parts of a source are known to names that hold theirs.
use Rattle.std.proofs.Common.{◌∙◌, ℕ, ◌||◌, Bool, true, false, is_some, IsTrue, List, [], ◌∷◌, fold, map as each, refl, sym, ap, subst}
use Rattle.std.specs.List.{AllByRecursion, flat_map, list_any}
use Rattle.std.specs.FinMap as map
use Rattle.sn_ast.specs.declared.declaration.BoxDecl.{BoxDecl}
use Rattle.sn_ast.specs.declared.label.Ident.{Ident}
use Rattle.sn_ast.specs.declared.label.LabelAt.{LabelAt}
use Rattle.sn_ast.specs.declared.label.Tuple.{Tuple}
use Rattle.sn_ast.specs.declared.label.Variant.{Variant}
use Rattle.sn_ast.specs.declared.network.ArmAt.{ArmAt}
use Rattle.sn_ast.specs.declared.network.ItemAt.{ItemAt}
use Rattle.sn_ast.specs.declared.network.ItemSource.{ItemSource}
use Rattle.sn_ast.specs.declared.network.ItemSource.TheVariants.{Same, Field, Expr}
use Rattle.sn_ast.specs.declared.network.TemplateAt.{TemplateAt}
use Rattle.sn_record.specs.declared.label.Kind.{Kind}
use Rattle.sn_record.specs.declared.label.Kind.TheVariants as kind
use Rattle.sn_record.specs.declared.label.Label.{Label}
use Rattle.sn_record.specs.Label.{label_cmp}
use Rattle.sn_record.specs.LabelSet.{Labels, contains}
use Rattle.sn_record.proofs.Maps.{same_label}
use Rattle.sn_record.proofs.Sets.{contains-insert}
use Rattle.sn_names.specs.Names.{label_number}
use Rattle.sn_names.proofs.Labels.{number_is_held}
use Rattle.sn_net.specs.Filter.{every_template, target}
use Rattle.sn_net.specs.declared.filter.Filter.{Filter}
use Rattle.sn_net.specs.declared.filter.Template.{Template}
use Rattle.sn_label_scope.specs.Labels.{kind_of, label_at, variant_at}
use Rattle.sn_box_scope.specs.Boxes.{box_at, tuple_at}
use Rattle.sn_scope.specs.Filters.{arm_at, filter_at, identity_at, part_at, part_of, template_at}
use Rattle.sn_labels.specs.Labels.{is_among, is_in_some, is_label, is_of_box, is_of_filter, is_set_by}
use Rattle.sn_labels.proofs.Records.{Covers, each_both}
use Rattle.sn_pieces.specs.Known.{is_known}
use Rattle.sn_pieces.proofs.Knowing.{held_known}
use Rattle.sn_scope_rules.specs.Standing.StandsIn.{here, later}
use Rattle.sn_scope_rules.proofs.Held.{Each, HeldArm, HeldBox, HeldIdent, HeldItem, HeldLabel, HeldLabels, HeldTemplate, HeldTuple, HeldVariant}

module _ (names : List (List ℕ)) where
  -- each label that passes the test is known
  abbrev pub Known : (Label → Bool) → Type 0
  Known test = Covers (is_known names) test

  pub number_known : (kind : Kind) (name : Ident) → HeldIdent names name → IsTrue (is_known names (record { kind = kind; id = label_number names name.text }))
  number_known kind name held = held_known names (record { kind = kind; id = label_number names name.text }) (number_is_held names name.text held)

  pub label_covered : (label : Label) → IsTrue (is_known names label) → Known (is_label label)
  label_covered label is l there = subst (λ (k : Label). IsTrue (is_known names k)) (sym (same_label l label there)) is

  pub nothing_covered : Known (λ l. false)
  nothing_covered l there = cc

  pub either_covered : (one other : Label → Bool) → Known one → Known other → Known (λ l. one l || other l)
  either_covered one other first second l there = by (one l) (other l) (first l) (second l) there
    where
      by : (a b : Bool) → (IsTrue a → IsTrue (is_known names l)) → (IsTrue b → IsTrue (is_known names l)) → IsTrue (a || b) → IsTrue (is_known names l)
      by true b f s h = f refl
      by false b f s h = s h

  -- what holds of the test of each holds of the test of any
  pub any_covered : {A : Type 0} (test : A → Label → Bool) (xs : List A) → AllByRecursion (λ x. Known (test x)) xs → Known (λ l. list_any (λ x. test x l) xs)
  any_covered test [] all = nothing_covered
  any_covered test (x ∷ xs) all = either_covered (test x) (λ l. list_any (λ y. test y l) xs) all.0 (any_covered test xs all.1)

  pub each_made : {A B : Type 0} (make : A → B) (P : A → Type 0) (Q : B → Type 0) → ((x : A) → P x → Q (make x)) → (xs : List A) → Each P xs → AllByRecursion Q (each make xs)
  each_made make P Q one [] held = tt
  each_made make P Q one (x ∷ xs) held = (one x (held x here), each_made make P Q one xs (λ y at. held y (later at)))

  -- sets
  empty_covered : Known (contains map.empty)
  empty_covered l there = nothing_covered l (sym (ap is_some (map.get-empty label_cmp l)) ∙ there)

  set_covered : (set : Labels) (labels : List LabelAt) → Known (contains set) → HeldLabels names labels → Known (contains (fold (λ s label. map.insert s (label_at names label) tt) set labels))
  set_covered set [] known held = known
  set_covered set (label ∷ labels) known held =
      let added : Known (is_label (label_at names label)) = label_covered (label_at names label) (number_known (kind_of label.tag) label.name (held label here)) in
      set_covered (map.insert set (label_at names label) tt) labels
      (λ l there. either_covered (is_label (label_at names label)) (contains set) added known l (sym (contains-insert set (label_at names label) l) ∙ there))
      (λ y at. held y (later at))

  pub variant_covered : (variant : Variant) → HeldVariant names variant → Known (contains (variant_at names variant))
  variant_covered variant held = set_covered map.empty variant.labels empty_covered held

  pub patterns_covered : (patterns : List Variant) → Each (HeldVariant names) patterns → Known (is_in_some (each (variant_at names) patterns))
  patterns_covered patterns held =
      any_covered contains (each (variant_at names) patterns) (each_made (variant_at names) (HeldVariant names) (λ set. Known (contains set)) variant_covered patterns held)

  -- filters
  part_covered : (item : ItemAt) → HeldItem names item → Known (is_label (target (part_at names item)))
  part_covered item held = by item.target item.source held.0
    where
      by : (label : LabelAt) (source : ItemSource) → HeldLabel names label → Known (is_label (target (part_of names label source)))
      by label Same is = label_covered (label_at names label) (number_known (kind_of label.tag) label.name is)
      by label (Field name) is = label_covered (record { kind = kind.Field; id = label_number names label.name.text }) (number_known kind.Field label.name is)
      by label (Expr e) is = label_covered (record { kind = kind.Tag; id = label_number names label.name.text }) (number_known kind.Tag label.name is)

  abbrev Set : Template → Type 0
  Set template = Known (is_set_by template)

  template_covered : (template : TemplateAt) → HeldTemplate names template → Set (template_at names template)
  template_covered template held =
      any_covered (λ part l. is_label (target part) l) (each (part_at names) template.items)
      (each_made (part_at names) (HeldItem names) (λ part. Known (is_label (target part))) part_covered template.items held)

  templates_covered : (templates : List TemplateAt) → Each (HeldTemplate names) templates → AllByRecursion Set (each (template_at names) templates)
  templates_covered templates held = each_made (template_at names) (HeldTemplate names) Set template_covered templates held

  arms_covered : (arms : List ArmAt) → Each (HeldArm names) arms → AllByRecursion Set (flat_map (λ arm. arm.templates) (each (arm_at names) arms))
  arms_covered [] held = tt
  arms_covered (arm ∷ arms) held =
      each_both Set (each (template_at names) arm.templates) (flat_map (λ a. a.templates) (each (arm_at names) arms)) (templates_covered arm.templates (held arm here).1)
      (arms_covered arms (λ y at. held y (later at)))

  pub filter_covered : (place : ℕ) (pattern : Variant) (arms : List ArmAt) (templates : List TemplateAt) → HeldVariant names pattern → Each (HeldArm names) arms → Each (HeldTemplate names) templates
      → Known (is_of_filter (filter_at names place pattern arms templates))
  filter_covered place pattern arms templates labels held last =
      let filter : Filter = filter_at names place pattern arms templates in
      either_covered (contains (variant_at names pattern)) (λ l. list_any (λ t. is_set_by t l) (every_template filter)) (variant_covered pattern labels)
      (any_covered is_set_by (every_template filter)
      (each_both Set (flat_map (λ a. a.templates) (each (arm_at names) arms)) (each (template_at names) templates) (arms_covered arms held) (templates_covered templates last)))

  pub identity_covered : (place : ℕ) → Known (is_of_filter (identity_at place))
  identity_covered place = either_covered (contains map.empty) (λ l. false || false) empty_covered (either_covered (λ l. false) (λ l. false) nothing_covered nothing_covered)

  -- boxes
  tuple_covered : (tuple : Tuple) → HeldTuple names tuple → Known (is_among (tuple_at names tuple))
  tuple_covered tuple held =
      any_covered is_label (each (label_at names) tuple.labels)
      (each_made (label_at names) (HeldLabel names) (λ label. Known (is_label label)) (λ label is. label_covered (label_at names label) (number_known (kind_of label.tag) label.name is)) tuple.labels held)

  pub box_covered : (declaration : BoxDecl) → HeldBox names declaration → Known (is_of_box (box_at names declaration))
  box_covered declaration held =
      either_covered (is_among (tuple_at names declaration.input)) (λ l. list_any (λ labels. is_among labels l) (each (tuple_at names) declaration.outputs)) (tuple_covered declaration.input held.0)
      (any_covered is_among (each (tuple_at names) declaration.outputs) (each_made (tuple_at names) (HeldTuple names) (λ labels. Known (is_among labels)) tuple_covered declaration.outputs held.1))
