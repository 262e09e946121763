-- Checks of expressions over tags and of filters find what breaks their rules.
use Rattle.std.proofs.Common.{◌≡◌, ℕ, Bool, true, false, not, ◌&&◌, List, [], ◌∷◌, ◌++◌, length, fold, ◌⊎◌, inl, inr, refl, sym, ap, ◌∙◌, subst, subst₂, true≢false}
use Rattle.std.specs.FinMap as finite
use Rattle.std.specs.List.{list_all}
use Rattle.sn_ast.specs.declared.label.Ident.{Ident}
use Rattle.sn_ast.specs.declared.label.LabelAt.{LabelAt}
use Rattle.sn_ast.specs.declared.label.Variant.{Variant}
use Rattle.sn_ast.specs.declared.network.ArmAt.{ArmAt}
use Rattle.sn_ast.specs.declared.network.ItemAt.{ItemAt}
use Rattle.sn_ast.specs.declared.network.ItemSource.{ItemSource}
use Rattle.sn_ast.specs.declared.network.ItemSource.TheVariants.{Same, Field, Expr}
use Rattle.sn_ast.specs.declared.network.TemplateAt.{TemplateAt}
use Rattle.sn_ast.specs.declared.tag_expr.TExpr.{TExpr, fold-roll-TExpr}
use Rattle.sn_ast.specs.declared.tag_expr.TForm.{TForm, fold-TForm}
use Rattle.sn_ast.specs.declared.tag_expr.TForm.TheFolds.{fold-roll-TForm, ind-TExpr, map-TForm}
use Rattle.sn_ast.specs.declared.tag_expr.TForm.TheOpen.{TForm-F}
use Rattle.sn_ast.specs.declared.tag_expr.TForm.TheViews.{roll-TForm, roll-TExpr}
use Rattle.sn_label_scope.specs.Labels.{labels_at, variant_at, variant_required}
use Rattle.sn_label_scope.specs.Refusals.{Check, required}
use Rattle.sn_label_scope.specs.declared.refusal.Reason.{Reason}
use Rattle.sn_label_scope.specs.declared.refusal.Reason.TheVariants.{Unknown, Twice, Arity, GuardTag}
use Rattle.sn_label_scope.specs.declared.refusal.Refusal.{Refusal}
use Rattle.sn_names.specs.Names.{label_number}
use Rattle.sn_net.specs.Filter.{tag, target}
use Rattle.sn_record.specs.LabelSet.{Labels, contains}
use Rattle.sn_scope.specs.Filters.{are_few, arm_required, filter_required, from_required, is_between, items_required, part_at, source_required, template_required, templates_required}
use Rattle.sn_scope.specs.Tags.{tags_required, tags_step as check_step}
use Rattle.sn_scope_rules.specs.Filters.{FilterBreaks, ItemsBreak, NamesOther, SourceBreaks, tags_in, tags_step}
use Rattle.sn_scope_rules.specs.Filters.FilterBreaks.{arm_count, arm_template_count, in_arm_template, in_guard, in_pattern, in_template, template_count}
use Rattle.sn_scope_rules.specs.Filters.ItemsBreak.{in_source, set_twice}
use Rattle.sn_scope_rules.specs.Filters.NamesOther.{no_such_tag}
use Rattle.sn_scope_rules.specs.Filters.SourceBreaks.{computes_from_no_tag, copies_no_label, renames_no_field}
use Rattle.sn_scope_rules.specs.Labels.{LabelsBreak, has_label}
use Rattle.sn_scope_rules.specs.Refusals.{unknown}
use Rattle.sn_scope_rules.specs.Standing.{StandsIn}
use Rattle.sn_scope_rules.specs.Standing.StandsIn.{here, later}
use Rattle.sn_scope_rules.proofs.Checks.{Among, Fails, Finds, among_cases, among_cons, among_none, finds_both, finds_each, finds_nothing, finds_required, finds_same, held_from}
use Rattle.sn_scope_rules.proofs.Labels.{labels_break}
use Rattle.sn_scope_rules.proofs.Held.{Each, HeldArm, HeldIdent, HeldItem, HeldLabel, HeldSource, HeldTags, HeldTemplate, HeldVariant}
use Rattle.sn_scope_rules.proofs.Texts.{contains_label, contains_set, numbered}
use Rattle.sn_scope_rules.proofs.Standing.{Behind, behind_cases, behind_first, behind_in, behind_more, in_behind, in_either, in_left, in_right, none_behind}

-- what is refused in two lists in a row
among_append : {A : Type 0} (P : A → Refusal → Type 0) (xs ys : List A) (r : Refusal) → Among P xs r ⊎ Among P ys r → Among P (xs ++ ys) r
among_append P xs ys r (inl one) = (one.0, in_left one.0 xs ys one.1, one.2)
among_append P xs ys r (inr one) = (one.0, in_right one.0 xs ys one.1, one.2)

among_either : {A : Type 0} (P : A → Refusal → Type 0) (xs ys : List A) (r : Refusal) → Among P (xs ++ ys) r → Among P xs r ⊎ Among P ys r
among_either P xs ys r one = side (in_either one.0 xs ys one.1)
  where
    side : StandsIn one.0 xs ⊎ StandsIn one.0 ys → Among P xs r ⊎ Among P ys r
    side (inl at) = inl (one.0, at, one.2)
    side (inr at) = inr (one.0, at, one.2)

module _ (names : List (List ℕ)) (pattern : Labels) (reason : Reason) where
  abbrev Missing : Ident → Refusal → Type 0
  Missing name r = Fails (contains pattern (tag (label_number names name.text))) reason name.at r

  -- the check and the tags of a form
  abbrev form_check : TForm → Check
  form_check = fold-TForm Check Check (check_step names pattern reason) (λ e. e.form)

  abbrev form_tags : TForm → List Ident
  form_tags = fold-TForm (List Ident) (List Ident) tags_step (λ e. e.form)

  abbrev check_of : TExpr → Check
  check_of = tags_required names pattern reason

  abbrev FormFinds : TForm → Type 0
  FormFinds form = Finds (form_check form) (Among Missing (form_tags form))

  abbrev ExprFinds : TExpr → Type 0
  ExprFinds e = Finds (check_of e) (Among Missing (tags_in e))

  level : (x : TForm-F TForm TExpr) → Finds (check_step names pattern reason (map-TForm TForm TExpr Check Check form_check check_of x)) (Among Missing (tags_step (map-TForm TForm TExpr (List Ident) (List Ident) form_tags tags_in x)))
      → FormFinds (roll-TForm x)
  level x found = subst₂ (λ check tags. Finds check (Among Missing tags)) (sym (fold-roll-TForm Check Check (check_step names pattern reason) (λ e. e.form) x)) (sym (fold-roll-TForm (List Ident) (List Ident) tags_step (λ e. e.form) x)) found

  two : (one other : Check) (xs ys : List Ident) → Finds one (Among Missing xs) → Finds other (Among Missing ys) → Finds (λ least. other (one least)) (Among Missing (xs ++ ys))
  two one other xs ys first second = finds_same (λ least. other (one least)) (λ r. Among Missing xs r ⊎ Among Missing ys r) (Among Missing (xs ++ ys))
      (finds_both one other (Among Missing xs) (Among Missing ys) first second) (among_append Missing xs ys) (among_either Missing xs ys)

  one_tag : (name : Ident) → Finds (required (contains pattern (tag (label_number names name.text))) reason name.at) (Among Missing (name ∷ []))
  one_tag name = finds_same (required (contains pattern (tag (label_number names name.text))) reason name.at) (Missing name) (Among Missing (name ∷ []))
      (finds_required (contains pattern (tag (label_number names name.text))) reason name.at) (λ r missing. among_cons Missing name [] r (inl missing)) (λ r one. alone r (among_cases Missing name [] r one))
    where
      alone : (r : Refusal) → Missing name r ⊎ Among Missing [] r → Missing name r
      alone r (inl missing) = missing
      alone r (inr one) = absurd (among_none Missing r one)

  tags_find : (e : TExpr) → Finds (tags_required names pattern reason e) (Among Missing (tags_in e))
  tags_find = ind-TExpr FormFinds ExprFinds
      (λ x y is. subst (λ z. FormFinds (roll-TForm z)) is (level (map-TForm _ _ TForm TExpr (λ e. e.0) (λ e. e.0) y) (elim y as (λ z. Finds
      (check_step names pattern reason (map-TForm TForm TExpr Check Check form_check check_of (map-TForm _ _ TForm TExpr (λ e. e.0) (λ e. e.0) z)))
      (Among Missing (tags_step (map-TForm TForm TExpr (List Ident) (List Ident) form_tags tags_in (map-TForm _ _ TForm TExpr (λ e. e.0) (λ e. e.0) z))))) [
        | TForm-F.Number n ↦ finds_nothing (Among Missing []) (among_none Missing)
        | TForm-F.Tag name ↦ one_tag name
        | TForm-F.Neg e ↦ e.1
        | TForm-F.Not e ↦ e.1
        | TForm-F.Op o e f ↦ two (check_of e.0) (check_of f.0) (tags_in e.0) (tags_in f.0) e.1 f.1
        | TForm-F.And e f ↦ two (check_of e.0) (check_of f.0) (tags_in e.0) (tags_in f.0) e.1 f.1
        | TForm-F.Or e f ↦ two (check_of e.0) (check_of f.0) (tags_in e.0) (tags_in f.0) e.1 f.1
        | TForm-F.Cond c e f ↦ two (check_of c.0) (λ least. check_of f.0 (check_of e.0 least)) (tags_in c.0) (tags_in e.0 ++ tags_in f.0) c.1 (two (check_of e.0) (check_of f.0) (tags_in e.0) (tags_in f.0) e.1 f.1)
      ])))
      (λ x y is. subst (λ z. ExprFinds (roll-TExpr z)) is
      (subst₂ (λ check tags. Finds check (Among Missing tags))
      (sym (fold-roll-TExpr Check Check (check_step names pattern reason) (λ e. e.form) (record { at = y.at; form = y.form.0 })))
      (sym (fold-roll-TExpr (List Ident) (List Ident) tags_step (λ e. e.form) (record { at = y.at; form = y.form.0 }))) y.form.1))

module _ (names : List (List ℕ)) (labels : List LabelAt) where
  -- the labels by their numbers
  abbrev pattern : Labels
  pattern = labels_at names labels

  -- a tag that the expression names and the labels do not have
  abbrev pub OtherTag : Reason → TExpr → Refusal → Type 0
  OtherTag reason e r = (name : Ident) × NamesOther labels e name × (record { reason = reason; at = name.at } ≡ r)

  other_to : (reason : Reason) (e : TExpr) → HeldTags names e → (r : Refusal) → Among (Missing names pattern reason) (tags_in e) r → OtherTag reason e r
  other_to reason e held r one = (one.0, no_such_tag one.1 (sym (contains_label names labels true one.0.text (held one.0 one.1)) ∙ one.2.0), one.2.1)

  other_missing : (e : TExpr) → HeldTags names e → (name : Ident) → NamesOther labels e name → StandsIn name (tags_in e) × (contains pattern (tag (label_number names name.text)) ≡ false)
  other_missing e held name (no_such_tag at missing) = (at, contains_label names labels true name.text (held name at) ∙ missing)

  other_from : (reason : Reason) (e : TExpr) → HeldTags names e → (r : Refusal) → OtherTag reason e r → Among (Missing names pattern reason) (tags_in e) r
  other_from reason e held r one = let known = other_missing e held one.0 one.1 in (one.0, known.0, (known.1, one.2))

  pub other_tags : (reason : Reason) (e : TExpr) → HeldTags names e → Finds (tags_required names pattern reason e) (OtherTag reason e)
  other_tags reason e held = finds_same (tags_required names pattern reason e) (Among (Missing names pattern reason) (tags_in e)) (OtherTag reason e) (tags_find names pattern reason e) (other_to reason e held) (other_from reason e held)

  -- a label that is looked for by its number
  label_finds : (tag : Bool) (name : Ident) → HeldIdent names name → (P : Refusal → Type 0) → (has_label labels tag name.text ≡ false → P (unknown name.at)) → ((r : Refusal) → P r → (has_label labels tag name.text ≡ false) × (unknown name.at ≡ r))
      → Finds (required (contains pattern (numbered names tag name.text)) Unknown name.at) P
  label_finds tag name held P to from = finds_same (required (contains pattern (numbered names tag name.text)) Unknown name.at) (Fails (contains pattern (numbered names tag name.text)) Unknown name.at) P
      (finds_required (contains pattern (numbered names tag name.text)) Unknown name.at)
      (λ r fails. subst P fails.1 (to (sym same ∙ fails.0))) (λ r one. let known = from r one in (same ∙ known.0, known.1))
    where
      same : contains pattern (numbered names tag name.text) ≡ has_label labels tag name.text
      same = contains_label names labels tag name.text held

  copied_from : (label : LabelAt) (r : Refusal) → SourceBreaks labels label Same r → (has_label labels label.tag label.name.text ≡ false) × (unknown label.name.at ≡ r)
  copied_from label r (copies_no_label missing) = (missing, refl)

  renamed_from : (label : LabelAt) (name : Ident) (r : Refusal) → SourceBreaks labels label (Field name) r → (has_label labels false name.text ≡ false) × (unknown name.at ≡ r)
  renamed_from label name r (renames_no_field missing) = (missing, refl)

  computed_to : (label : LabelAt) (e : TExpr) (r : Refusal) → OtherTag Unknown e r → SourceBreaks labels label (Expr e) r
  computed_to label e r one = subst (SourceBreaks labels label (Expr e)) one.2 (computes_from_no_tag one.1)

  computed_from : (label : LabelAt) (e : TExpr) (r : Refusal) → SourceBreaks labels label (Expr e) r → OtherTag Unknown e r
  computed_from label e r (computes_from_no_tag {name} other) = (name, other, refl)

  source_finds : (label : LabelAt) (source : ItemSource) → HeldLabel names label → HeldSource names source → Finds (from_required names pattern label source) (SourceBreaks labels label source)
  source_finds label Same own held = label_finds label.tag label.name own (SourceBreaks labels label Same) (λ missing. copies_no_label missing) (copied_from label)
  source_finds label (Field name) own held = label_finds false name held (SourceBreaks labels label (Field name)) (λ missing. renames_no_field missing) (renamed_from label name)
  source_finds label (Expr e) own held = finds_same (tags_required names pattern Unknown e) (OtherTag Unknown e) (SourceBreaks labels label (Expr e)) (other_tags Unknown e held) (computed_to label e) (computed_from label e)

  abbrev with_item : Labels → ItemAt → Labels
  with_item set item = finite.insert set (target (part_at names item)) tt

  -- an item is refused for its source, or for what it sets
  abbrev Item : Refusal → Labels → ItemAt → Type 0
  Item r set item = SourceBreaks labels item.target item.source r ⊎ Fails (not (contains set (target (part_at names item)))) Twice item.target.name.at r

  abbrev HeldItems : List ItemAt → Type 0
  HeldItems items = Each (HeldItem names) items

  items_find : (set : Labels) (items : List ItemAt) → HeldItems items → Finds (items_required names pattern set items) (λ r. Behind with_item set (Item r) items)
  items_find set [] held = finds_nothing (λ r. Behind with_item set (Item r) []) (λ r one. none_behind one.1 one.0 one.2)
  items_find set (item ∷ items) held = finds_same (items_required names pattern set (item ∷ items)) (λ r. Item r set item ⊎ Behind with_item (with_item set item) (Item r) items) (λ r. Behind with_item set (Item r) (item ∷ items))
      (finds_both (λ least. required new Twice item.target.name.at (source_required names pattern item least)) (items_required names pattern (with_item set item) items) (λ r. Item r set item) (λ r. Behind with_item (with_item set item) (Item r) items)
      (finds_both (source_required names pattern item) (required new Twice item.target.name.at) (SourceBreaks labels item.target item.source) (Fails new Twice item.target.name.at)
      (source_finds item.target item.source (held item here).0 (held item here).1) (finds_required new Twice item.target.name.at))
      (items_find (with_item set item) items (λ i at. held i (later at))))
      to (λ r one. behind_cases with_item set (Item r) item one.1 items one.0 one.2 one.3)
    where
      new : Bool
      new = not (contains set (target (part_at names item)))

      to : (r : Refusal) → Item r set item ⊎ Behind with_item (with_item set item) (Item r) items → Behind with_item set (Item r) (item ∷ items)
      to r (inl one) = behind_first with_item set (Item r) item items one
      to r (inr one) = behind_more with_item set (Item r) item items one

  items_to : (items : List ItemAt) → HeldItems items → (r : Refusal) → Behind with_item finite.empty (Item r) items → ItemsBreak labels items r
  items_to items held r one = one_item one.3
    where
      at : StandsIn one.1 items
      at = behind_in one.1 one.0 items one.2

      one_item : Item r (fold with_item finite.empty one.0) one.1 → ItemsBreak labels items r
      one_item (inl breaks) = in_source at breaks
      one_item (inr fails) = subst (ItemsBreak labels items) fails.1 (set_twice one.2 (sym (contains_set names one.0 one.1 (held one.1 at).0) ∙ held_from _ fails.0))

  items_from : (items : List ItemAt) → HeldItems items → (r : Refusal) → ItemsBreak labels items r → Behind with_item finite.empty (Item r) items
  items_from items held r (in_source {item} at breaks) = let there = in_behind item items at in (there.0, item, there.1, inl breaks)
  items_from items held r (set_twice {before} {item} at again) = (before, item, at, inr (ap not (contains_set names before item (held item (behind_in item before items at)).0 ∙ again), refl))

  items_break : (items : List ItemAt) → HeldItems items → Finds (items_required names pattern finite.empty items) (ItemsBreak labels items)
  items_break items held = finds_same (items_required names pattern finite.empty items) (λ r. Behind with_item finite.empty (Item r) items) (ItemsBreak labels items) (items_find finite.empty items held) (items_to items held) (items_from items held)

-- where two tests do not both hold, one of them fails
and_fails : (a b : Bool) → (a && b) ≡ false → (a ≡ false) ⊎ (b ≡ false)
and_fails true b fails = inr fails
and_fails false b fails = inl refl

left_fails : (a b : Bool) → a ≡ false → (a && b) ≡ false
left_fails a b fails = ap (λ x. x && b) fails

right_fails : (a b : Bool) → b ≡ false → (a && b) ≡ false
right_fails true b fails = fails
right_fails false b fails = refl

-- where a test does not hold of all, it fails for one
abbrev FailsIn : {A : Type 0} → (A → Bool) → List A → Type 0
FailsIn {A} test xs = (x : A) × StandsIn x xs × (test x ≡ false)

fails_later : {A : Type 0} (test : A → Bool) (x : A) (xs : List A) → FailsIn test xs → FailsIn test (x ∷ xs)
fails_later test x xs one = (one.0, later one.1, one.2)

one_fails : {A : Type 0} (test : A → Bool) (xs : List A) → list_all test xs ≡ false → FailsIn test xs
one_fails test [] fails = absurd (true≢false fails)
one_fails test (x ∷ xs) fails = by (and_fails (test x) (list_all test xs) fails) (λ rest. fails_later test x xs (one_fails test xs rest))
  where
    by : (test x ≡ false) ⊎ (list_all test xs ≡ false) → (list_all test xs ≡ false → FailsIn test (x ∷ xs)) → FailsIn test (x ∷ xs)
    by (inl own) more = (x, here, own)
    by (inr rest) more = more rest

all_fails : {A : Type 0} (test : A → Bool) (x : A) (xs : List A) → StandsIn x xs → test x ≡ false → list_all test xs ≡ false
all_fails test x _ (here {xs}) fails = left_fails (test x) (list_all test xs) fails
all_fails test x _ (later {y} {xs} at) fails = right_fails (test y) (list_all test xs) (all_fails test x xs at fails)

module _ (names : List (List ℕ)) (place : ℕ) (pattern : Variant) (arms : List ArmAt) (templates : List TemplateAt) where
  abbrev InTemplate : TemplateAt → Refusal → Type 0
  InTemplate template = ItemsBreak pattern.labels template.items

  abbrev InArm : ArmAt → Refusal → Type 0
  InArm arm r = OtherTag names pattern.labels GuardTag arm.guard r ⊎ Among InTemplate arm.templates r

  abbrev FilterHas : Refusal → Type 0
  FilterHas r = ((Fails (are_few arms templates) Arity place r ⊎ LabelsBreak pattern.labels r) ⊎ Among InArm arms r) ⊎ Among InTemplate templates r

  abbrev Breaks : Refusal → Type 0
  Breaks = FilterBreaks place pattern arms templates

  abbrev has_few : ArmAt → Bool
  has_few arm = is_between 1 16 (length arm.templates)

  few_breaks : are_few arms templates ≡ false → Breaks (record { reason = Arity; at = place })
  few_breaks fails = by (and_fails (is_between 0 16 (length arms)) (list_all has_few arms && is_between 1 16 (length templates)) fails)
    where
      of_lists : (list_all has_few arms ≡ false) ⊎ (is_between 1 16 (length templates) ≡ false) → Breaks (record { reason = Arity; at = place })
      of_lists (inl some) = let one = one_fails has_few arms some in arm_template_count one.1 one.2
      of_lists (inr wrong) = template_count wrong

      by : (is_between 0 16 (length arms) ≡ false) ⊎ ((list_all has_few arms && is_between 1 16 (length templates)) ≡ false) → Breaks (record { reason = Arity; at = place })
      by (inl many) = arm_count many
      by (inr lists) = of_lists (and_fails (list_all has_few arms) (is_between 1 16 (length templates)) lists)

  lists_fail : (list_all has_few arms && is_between 1 16 (length templates)) ≡ false → are_few arms templates ≡ false
  lists_fail fails = right_fails (is_between 0 16 (length arms)) (list_all has_few arms && is_between 1 16 (length templates)) fails

  arm_to : (arm : ArmAt) (r : Refusal) → StandsIn arm arms → InArm arm r → Breaks r
  arm_to arm r at (inl other) = subst Breaks other.2 (in_guard at other.1)
  arm_to arm r at (inr one) = in_arm_template at one.1 one.2

  filter_to : (r : Refusal) → FilterHas r → Breaks r
  filter_to r (inl (inl (inl fails))) = subst Breaks fails.1 (few_breaks fails.0)
  filter_to r (inl (inl (inr one))) = in_pattern one
  filter_to r (inl (inr one)) = arm_to one.0 r one.1 one.2
  filter_to r (inr one) = in_template one.1 one.2

  filter_from : (r : Refusal) → Breaks r → FilterHas r
  filter_from r (arm_count many) = inl (inl (inl (left_fails (is_between 0 16 (length arms)) (list_all has_few arms && is_between 1 16 (length templates)) many, refl)))
  filter_from r (arm_template_count {arm} at wrong) =
      inl (inl (inl (lists_fail (left_fails (list_all has_few arms) (is_between 1 16 (length templates)) (all_fails has_few arm arms at wrong)), refl)))
  filter_from r (template_count wrong) = inl (inl (inl (lists_fail (right_fails (list_all has_few arms) (is_between 1 16 (length templates)) wrong), refl)))
  filter_from r (in_pattern one) = inl (inl (inr one))
  filter_from r (in_guard {arm} {name} at other) = inl (inr (arm, at, inl (name, other, refl)))
  filter_from r (in_arm_template {arm} {template} at within one) = inl (inr (arm, at, inr (template, within, one)))
  filter_from r (in_template {template} at one) = inr (template, at, one)

  templates_find : (some : List TemplateAt) → Each (HeldTemplate names) some → Finds (templates_required names (variant_at names pattern) some) (Among InTemplate some)
  templates_find some held =
      finds_each (template_required names (variant_at names pattern)) InTemplate some (λ template at. items_break names pattern.labels template.items (held template at))

  arm_finds : (arm : ArmAt) → HeldArm names arm → Finds (λ least. arm_required names (variant_at names pattern) least arm) (InArm arm)
  arm_finds arm held = finds_both (tags_required names (variant_at names pattern) GuardTag arm.guard) (templates_required names (variant_at names pattern) arm.templates)
      (OtherTag names pattern.labels GuardTag arm.guard) (Among InTemplate arm.templates)
      (other_tags names pattern.labels GuardTag arm.guard held.0) (templates_find arm.templates held.1)

  pub filter_finds : HeldVariant names pattern → Each (HeldArm names) arms → Each (HeldTemplate names) templates → Finds (filter_required names place pattern arms templates) Breaks
  filter_finds held_pattern held_arms held = finds_same (filter_required names place pattern arms templates) FilterHas Breaks
      (finds_both (λ least. fold (arm_required names (variant_at names pattern)) (variant_required names (required few Arity place least) pattern) arms)
      (templates_required names (variant_at names pattern) templates)
      (λ r. (Fails few Arity place r ⊎ LabelsBreak pattern.labels r) ⊎ Among InArm arms r) (Among InTemplate templates)
      (finds_both (λ least. variant_required names (required few Arity place least) pattern) (λ least. fold (arm_required names (variant_at names pattern)) least arms)
      (λ r. Fails few Arity place r ⊎ LabelsBreak pattern.labels r) (Among InArm arms)
      (finds_both (required few Arity place) (λ least. variant_required names least pattern) (Fails few Arity place) (LabelsBreak pattern.labels)
      (finds_required few Arity place) (labels_break names pattern.labels held_pattern))
      (finds_each (arm_required names (variant_at names pattern)) InArm arms (λ arm at. arm_finds arm (held_arms arm at))))
      (templates_find templates held))
      filter_to filter_from
    where
      few : Bool
      few = are_few arms templates
