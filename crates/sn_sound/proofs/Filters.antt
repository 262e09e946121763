-- A closed filter answers each record that it takes by records of its templates.
use Rattle.std.proofs.Common.{◌≡◌, ℕ, ◌||◌, cond, is_some, IsTrue, List, [], ◌∷◌, map as each, Option, None, Some, Result, Ok, Err, refl, sym, ap, ◌∙◌, subst}
use Rattle.std.specs.List.{All, AllByRecursion as Each, list_any, Contains}
use Rattle.std.specs.Result.{IfOk}
use Rattle.std.specs.Ordering.{eq_by_cmp}
use Rattle.std.specs.FinMap as map
use Rattle.std.proofs.lemmas.List.Elements.{All-head, All-tail}
use Rattle.std.proofs.lemmas.Result.{IfOk-weaker}
use Rattle.sn_record.specs.declared.label.Label.{Label}
use Rattle.sn_record.specs.declared.value.Value.{Value}
use Rattle.sn_record.specs.Label.{label_cmp}
use Rattle.sn_record.specs.LabelSet.{Labels, union, minus}
use Rattle.sn_record.specs.Record.{Entries, Matches}
use Rattle.sn_record.proofs.Records.{contains_key-insert}
use Rattle.sn_record.proofs.Scores.{is_match-Matches}
use Rattle.sn_tagexpr.specs.declared.fault.ExprFault.{ExprFault}
use Rattle.sn_tagexpr.specs.Evaluation.{worth}
use Rattle.sn_net.specs.declared.filter.Filter.{Filter}
use Rattle.sn_net.specs.declared.filter.Template.{Template}
use Rattle.sn_net.specs.declared.filter.Part.{Part}
use Rattle.sn_net.specs.declared.filter.Part.TheVariants.{Copy, Rename, Compute}
use Rattle.sn_net.specs.Answer.{and_then, computed, filter_answer, inherited, outcomes, part_value, tag_number, template_record, up_to_fault, used, with_parts}
use Rattle.sn_net.proofs.Chosen.{chosen_among, chosen_closed}
use Rattle.sn_net.specs.Filter.{IsClosed, IsClosedTemplate, every_template, field, is_from, target}
use Rattle.sn_net.specs.Item.{Stuck}
use Rattle.sn_net.specs.Cell.{Passing}
use Rattle.sn_model.specs.Components.{filter_item}
use Rattle.sn_typing.specs.Outline.{filter_outline, template_variant}
use Rattle.sn_typing.specs.Flow.{Flows}
use Rattle.sn_typing.specs.Typed.{IsOf}
use Rattle.sn_typing.proofs.Subsets.{or_false, or_turned}
use Rattle.sn_sound.proofs.Emitted.{inherits, made_matches, only_variant}
use Rattle.sn_sound.proofs.Follows.{Answers}
use Rattle.sn_sound.proofs.Scores.{contains_head, contains_behind, contains_mapped}

-- the part has a value, or a fault
abbrev GivesValue : Result (Option Value) ExprFault → Type 0
GivesValue (Ok value) = IsTrue (is_some value)
GivesValue (Err fault) = Unit {0}

module _ (r : Entries) (pattern : Labels) (matches : Matches r pattern) where
  computed_value : (x : Result _ ExprFault) → GivesValue (computed x)
  computed_value (Ok n) = refl
  computed_value (Err fault) = tt

  part_gives : (part : Part) → IsTrue (is_from pattern part) → GivesValue (part_value r part)
  part_gives (Copy label) from = matches.within label from
  part_gives (Rename new old) from = matches.within (field old) from
  part_gives (Compute id expr) from = computed_value (worth (tag_number r) expr)

  -- what is made has the labels of what was made before, and the target of each part
  parts_made : (parts : List Part) → All (λ part. IsTrue (is_from pattern part)) parts → (made result : Entries) → with_parts r parts made ≡ Ok result
      → (l : Label) → map.contains_key result l ≡ (map.contains_key made l || list_any (eq_by_cmp label_cmp l) (each target parts))
  parts_made [] named made result is l =
      let same : made ≡ result = cc in
      ap (λ (m : Entries). map.contains_key m l) (sym same) ∙ sym (or_false (map.contains_key made l))
  parts_made (part ∷ parts) named made result is l =
      at (part_value r part) (part_gives part (All-head (λ part. IsTrue (is_from pattern part)) part parts named)) is (λ next same. parts_made parts (All-tail (λ part. IsTrue (is_from pattern part)) part parts named) next result same l)
    where
      at : (x : Result (Option Value) ExprFault) → GivesValue x → and_then made (target part) x (with_parts r parts) ≡ Ok result
          → ((next : Entries) → with_parts r parts next ≡ Ok result → map.contains_key result l ≡ (map.contains_key next l || list_any (eq_by_cmp label_cmp l) (each target parts)))
          → map.contains_key result l ≡ (map.contains_key made l || (eq_by_cmp label_cmp l (target part) || list_any (eq_by_cmp label_cmp l) (each target parts)))
      at (Err fault) gives e later = cc
      at (Ok None) gives e later = cc
      at (Ok (Some value)) gives e later =
          later (map.insert made (target part) value) e
          ∙ ap (λ b. b || list_any (eq_by_cmp label_cmp l) (each target parts)) (contains_key-insert made (target part) value l)
          ∙ or_turned (eq_by_cmp label_cmp l (target part)) (map.contains_key made l) (list_any (eq_by_cmp label_cmp l) (each target parts))

  template_made : (template : Template) → IsClosedTemplate pattern template → (result : Entries) → with_parts r template.parts map.empty ≡ Ok result → Matches result (template_variant template)
  template_made template closed result is =
      made_matches (each target template.parts) result (λ l. parts_made template.parts closed.named map.empty result is l)

  module _ (place : ℕ) (v : Labels) (from : Matches r v) (W : Labels → Type 0) where
    templates_made : (templates : List Template) → All (IsClosedTemplate pattern) templates
        → ((template : Template) → Contains templates template → W (union (template_variant template) (minus v pattern)))
        → Each (IsOf W) (up_to_fault place (each (template_record r pattern) templates))
    templates_made [] closed among = tt
    templates_made (template ∷ templates) closed among =
        at (with_parts r template.parts map.empty) refl
        (templates_made templates (All-tail (IsClosedTemplate pattern) template templates closed) (λ other there. among other (contains_behind template templates other there)))
      where
        at : (x : Result Entries ExprFault) → with_parts r template.parts map.empty ≡ x → Each (IsOf W) (up_to_fault place (each (template_record r pattern) templates))
            → Each (IsOf W) (up_to_fault place (inherited r pattern x ∷ each (template_record r pattern) templates))
        at (Err fault) is rest = (tt, tt)
        at (Ok made) is rest = (
          record {
            variant = union (template_variant template) (minus v pattern);
            listed = among template (contains_head template templates);
            matched = inherits r made (template_variant template) v pattern (template_made template (All-head (IsClosedTemplate pattern) template templates closed) made is) from;
          },
          rest,
        )

    -- so is each record of the templates that were chosen; a guard that faults gives none
    chosen_made : (x : Result (List Template) ExprFault) → IfOk x (All (IsClosedTemplate pattern))
        → IfOk x (λ templates. (template : Template) → Contains templates template → W (union (template_variant template) (minus v pattern)))
        → Each (IsOf W) (up_to_fault place (outcomes r pattern x))
    chosen_made (Ok templates) closed among = templates_made templates closed among
    chosen_made (Err fault) closed among = (tt, tt)

pub filter_answers : (filter : Filter) → IsClosed filter
    → Answers (filter.pattern ∷ []) (Flows (filter_outline filter)) (record { next = λ s x. s; emits = λ s x. filter_item filter x }) Passing
filter_answers filter closed = record {
  start = tt;
  records = λ q r v here takes matches.
      let own : Matches r filter.pattern = only_variant filter.pattern r v takes.has matches in
      let W : Labels → Type 0 = Flows (filter_outline filter) v in
      let Listed : List Template → Type 0 = λ templates. (template : Template) → Contains templates template → Contains (every_template filter) template in
      let Given : List Template → Type 0 = λ templates. (template : Template) → Contains templates template → W (union (template_variant template) (minus v filter.pattern)) in (
        here,
        subst (λ b. Each (IsOf (Flows (filter_outline filter) v)) (cond b (filter_answer filter r) (Stuck filter.place ∷ []))) (sym ((is_match-Matches r filter.pattern).1 own))
            (chosen_made r filter.pattern own filter.place v matches W (used filter r)
            (chosen_closed (tag_number r) filter closed)
            (IfOk-weaker (used filter r) Listed Given (λ templates among template there. (takes, (template_variant template, contains_mapped template_variant (every_template filter) template (among template there), refl)))
            (chosen_among (tag_number r) filter))),
      );
  faults = λ q fault here. (here, refl);
}
