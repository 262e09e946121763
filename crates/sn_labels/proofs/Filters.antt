-- What a filter gives has the labels that came, and those that the filter sets.
use Rattle.std.proofs.Common.{ℕ, ℤ, Bool, true, false, cond, IsTrue, List, [], ◌∷◌, ◌++◌, map as each, Option, None, Some, Result, Ok, Err}
use Rattle.std.specs.List.{All, AllByRecursion as Each, flat_map, list_any}
use Rattle.std.specs.Result.{IfOk}
use Rattle.std.proofs.lemmas.List.Elements.{All-nil, All-cons}
use Rattle.std.specs.FinMap.{empty}
use Rattle.sn_record.specs.declared.label.Label.{Label}
use Rattle.sn_record.specs.declared.value.Value.{Value}
use Rattle.sn_record.specs.LabelSet.{Labels, contains}
use Rattle.sn_record.specs.Record.{Entries, is_match}
use Rattle.sn_tagexpr.specs.declared.fault.ExprFault.{ExprFault}
use Rattle.sn_net.specs.declared.filter.Arm.{Arm}
use Rattle.sn_net.specs.declared.filter.Filter.{Filter}
use Rattle.sn_net.specs.declared.filter.Part.{Part}
use Rattle.sn_net.specs.declared.filter.Template.{Template}
use Rattle.sn_net.specs.Answer.{and_then, chosen, filter_answer, inherited, outcomes, part_value, tag_number, template_record, up_to_fault, used, with_parts}
use Rattle.sn_net.proofs.Chosen.{of_chosen}
use Rattle.sn_net.specs.Filter.{every_template, target}
use Rattle.sn_net.specs.Item.{ModelItem, Rec, Fault, Stuck}
use Rattle.sn_model.specs.Components.{filter_item}
use Rattle.sn_labels.specs.Labels.{is_label, is_of_filter, is_set_by}
use Rattle.sn_labels.specs.Flowing.{HasOnly, ItemHasOnly}
use Rattle.sn_labels.proofs.Records.{Covers, each_covered, label_itself, only_empty, only_inherit, only_insert, or_second}

module _ (known : Label → Bool) where
  -- the record, if no fault came before
  abbrev ResultHasOnly : Result Entries ExprFault → Type 0
  ResultHasOnly (Ok made) = HasOnly known made
  ResultHasOnly (Err fault) = Unit {0}

  value_only : (made : Entries) (label : Label) (value : Result (Option Value) ExprFault) (next : Entries → Result Entries ExprFault) → HasOnly known made → IsTrue (known label)
      → ((more : Entries) → HasOnly known more → ResultHasOnly (next more)) → ResultHasOnly (and_then made label value next)
  value_only made label (Ok None) next only is later = later made only
  value_only made label (Ok (Some value)) next only is later = later _ (only_insert known made label value only is)
  value_only made label (Err fault) next only is later = tt

  parts_only : (r : Entries) (parts : List Part) (made : Entries) → Each (λ part. Covers known (is_label (target part))) parts → HasOnly known made → ResultHasOnly (with_parts r parts made)
  parts_only r [] made covers only = only
  parts_only r (part ∷ parts) made covers only =
      value_only made (target part) (part_value r part) (with_parts r parts) only (covers.0 (target part) (label_itself (target part))) (λ more so_far. parts_only r parts more covers.1 so_far)

  inherited_only : (r : Entries) (pattern : Labels) (result : Result Entries ExprFault) → HasOnly known r → ResultHasOnly result → ResultHasOnly (inherited r pattern result)
  inherited_only r pattern (Ok made) from own = only_inherit known r pattern made from own
  inherited_only r pattern (Err fault) from own = tt

  templates_only : (r : Entries) (pattern : Labels) (templates : List Template) → HasOnly known r → Each (λ template. Covers known (is_set_by template)) templates
      → Each ResultHasOnly (each (template_record r pattern) templates)
  templates_only r pattern [] from covers = tt
  templates_only r pattern (template ∷ templates) from covers = (
    inherited_only r pattern (with_parts r template.parts empty) from
        (parts_only r template.parts empty (each_covered known (λ part. is_label (target part)) template.parts covers.0) (only_empty known)),
    templates_only r pattern templates from covers.1,
  )

  outcomes_only : (r : Entries) (pattern : Labels) (x : Result (List Template) ExprFault) → HasOnly known r → IfOk x (Each (λ template. Covers known (is_set_by template)))
      → Each ResultHasOnly (outcomes r pattern x)
  outcomes_only r pattern (Ok templates) from covers = templates_only r pattern templates from covers
  outcomes_only r pattern (Err fault) from covers = (tt, tt)

  -- what holds of each template of all lists holds of each of the arms' and of each of the last list
  each_split : (P : Template → Type 0) (xs ys : List Template) → Each P (xs ++ ys) → Each P xs × Each P ys
  each_split P [] ys both = (tt, both)
  each_split P (x ∷ xs) ys both = let rest = each_split P xs ys both.1 in ((both.0, rest.0), rest.1)

  each_arm : (P : Template → Type 0) (arms : List Arm) → Each P (flat_map (λ arm. arm.templates) arms) → All (λ arm. Each P arm.templates) arms
  each_arm P [] set = All-nil (λ (arm : Arm). Each P arm.templates)
  each_arm P (arm ∷ arms) set =
      let parts = each_split P arm.templates (flat_map (λ arm. arm.templates) arms) set in
      All-cons (λ (arm : Arm). Each P arm.templates) arm arms parts.0 (each_arm P arms parts.1)

  chosen_only : (tags : ℕ → ℤ) (filter : Filter) → Each (λ template. Covers known (is_set_by template)) (every_template filter)
      → IfOk (chosen tags filter.arms filter.templates) (Each (λ template. Covers known (is_set_by template)))
  chosen_only tags filter set =
      let P : Template → Type 0 = λ template. Covers known (is_set_by template) in
      let parts = each_split P (flat_map (λ arm. arm.templates) filter.arms) filter.templates set in
      of_chosen (Each P) tags filter.arms filter.templates (each_arm P filter.arms parts.0) parts.1

  up_to_only : (place : ℕ) (results : List (Result Entries ExprFault)) → Each ResultHasOnly results → Each (ItemHasOnly known) (up_to_fault place results)
  up_to_only place [] only = tt
  up_to_only place (Ok r ∷ more) only = (only.0, up_to_only place more only.1)
  up_to_only place (Err fault ∷ more) only = (tt, tt)

  pub filter_only : (filter : Filter) (x : ModelItem) → Covers known (is_of_filter filter) → ItemHasOnly known x → Each (ItemHasOnly known) (filter_item filter x)
  filter_only filter (Rec r) covers only = at (is_match r filter.pattern)
    where
      set : Each (λ template. Covers known (is_set_by template)) (every_template filter)
      set = each_covered known is_set_by (every_template filter) (λ l there. covers l (or_second (contains filter.pattern l) (list_any (λ template. is_set_by template l) (every_template filter)) there))

      at : (b : Bool) → Each (ItemHasOnly known) (cond b (filter_answer filter r) (Stuck filter.place ∷ []))
      at true = up_to_only filter.place (outcomes r filter.pattern (used filter r)) (outcomes_only r filter.pattern (used filter r) only (chosen_only (tag_number r) filter set))
      at false = (tt, tt)
  filter_only filter (Fault fault) covers only = (tt, tt)
  filter_only filter (Stuck place) covers only = (tt, tt)
