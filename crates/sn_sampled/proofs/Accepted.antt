-- The claim of the built-in source is accepted.
use Rattle.std.proofs.Common.{◌≡◌, true, List, [], ◌∷◌, ◌++◌, refl, sym, ap, ◌∙◌, subst}
use Rattle.std.specs.List.{Contains}
use Rattle.sn_label_scope.specs.Labels.{variant_at}
use Rattle.sn_net.specs.Face.{variant_of}
use Rattle.sn_net.specs.Filter.{field}
use Rattle.sn_net.specs.declared.net.Merge.TheVariants.{Det}
use Rattle.sn_record.specs.declared.label.Label.{Label}
use Rattle.sn_record.specs.LabelSet.{Labels, union}
use Rattle.sn_types.specs.RecordType.{HasFit}
use Rattle.sn_typing.specs.Accepted.{IsAccepted, IsBounded, IsDeclared}
use Rattle.sn_typing.specs.Flow.{Safe}
use Rattle.sn_typing.specs.Outline.{Outline, Component, Series, Star, Split, outline}
use Rattle.sn_typing.proofs.Forms.{outline-Box, outline-Filter, outline-Serial, outline-Star, outline-Split}
use Rattle.sn_sampled.proofs.Tree.{input_variant, output_variant}
use Rattle.sn_sampled.proofs.Entered.{the_names}
use Rattle.sn_sampled.proofs.Declared.{label_k, label_n, label_s, start_part, step_part, exit_labels, exit_guard}
use Rattle.sn_sampled.proofs.Labels.{Holds, holds_all, holds_flow, holds_same, holds_union, held_once, fits_by_lists}
use Rattle.sn_sampled.proofs.Narrow.{Narrow, narrow_component, narrow_series, narrow_star, narrow_split, narrow_bounded, narrow_declared, safe_series, safe_star, safe_from, one_fits, takes_one}
use Rattle.sn_sampled.proofs.Trees.{the_boxes, the_claim, main_net, behind_net, call_net, start_net, split_net, star_net, step_net}

abbrev pub label_v : Label
label_v = field 0

abbrev label_w : Label
label_w = field 1

-- the outline, from its parts up
abbrev pub call_outline : Outline
call_outline = Component 90 (variant_of (label_v ∷ []) ∷ []) (variant_of (label_v ∷ [])) (variant_of (label_w ∷ []) ∷ [])

abbrev pub start_outline : Outline
start_outline = Component 99 (start_part.pattern ∷ []) start_part.pattern (variant_of (label_n ∷ label_s ∷ []) ∷ [])

abbrev pub step_outline : Outline
step_outline = Component 127 (step_part.pattern ∷ []) step_part.pattern (variant_of (label_n ∷ label_s ∷ []) ∷ [])

abbrev pub star_outline : Outline
star_outline = Star exit_labels true step_outline

abbrev pub split_outline : Outline
split_outline = Split 190 2 star_outline

abbrev pub behind_outline : Outline
behind_outline = Series start_outline split_outline

abbrev pub main_outline : Outline
main_outline = Series call_outline behind_outline

outline_is : outline the_boxes main_net ≡ main_outline
outline_is =
    outline-Serial the_boxes call_net behind_net
    ∙ (λ i. Series (outline-Box the_boxes 90 0 i) ((outline-Serial the_boxes start_net split_net
    ∙ (λ j. Series (outline-Filter the_boxes start_part j) ((outline-Split the_boxes 190 Det star_net 2
    ∙ ap (Split 190 2) (outline-Star the_boxes 166 Det step_net exit_labels exit_guard ∙ ap (Star exit_labels true) (outline-Filter the_boxes step_part))) j))) i))

-- what flows
abbrev pub input_labels : Labels
input_labels = variant_at the_names input_variant

abbrev output_labels : Labels
output_labels = variant_at the_names output_variant

abbrev all_labels : List Label
all_labels = label_w ∷ label_k ∷ label_n ∷ label_s ∷ []

pub input_holds : Holds input_labels (label_v ∷ label_k ∷ label_n ∷ [])
input_holds = holds_all (label_v ∷ label_k ∷ label_n ∷ [])

abbrev call_narrow : Narrow call_outline input_labels
call_narrow = narrow_component 90 (variant_of (label_v ∷ []) ∷ []) (variant_of (label_v ∷ [])) (variant_of (label_w ∷ [])) input_labels

call_holds : Holds call_narrow.0 (label_w ∷ label_k ∷ label_n ∷ [])
call_holds = holds_flow (variant_of (label_w ∷ [])) input_labels (variant_of (label_v ∷ []))
    (label_w ∷ []) (label_v ∷ label_k ∷ label_n ∷ []) (label_v ∷ []) (label_w ∷ label_k ∷ label_n ∷ [])
    (holds_all (label_w ∷ [])) input_holds (holds_all (label_v ∷ [])) refl refl refl

abbrev start_narrow : Narrow start_outline call_narrow.0
start_narrow = narrow_component 99 (start_part.pattern ∷ []) start_part.pattern (variant_of (label_n ∷ label_s ∷ [])) call_narrow.0

start_holds : Holds start_narrow.0 all_labels
start_holds = holds_flow (variant_of (label_n ∷ label_s ∷ [])) call_narrow.0 start_part.pattern (label_n ∷ label_s ∷ []) (label_w ∷ label_k ∷ label_n ∷ []) (label_n ∷ []) all_labels
    (holds_all (label_n ∷ label_s ∷ [])) call_holds (holds_all (label_n ∷ [])) refl refl refl

abbrev step_narrow : Narrow step_outline start_narrow.0
step_narrow = narrow_component 127 (step_part.pattern ∷ []) step_part.pattern (variant_of (label_n ∷ label_s ∷ [])) start_narrow.0

step_holds : Holds step_narrow.0 all_labels
step_holds = holds_flow (variant_of (label_n ∷ label_s ∷ [])) start_narrow.0 step_part.pattern (label_n ∷ label_s ∷ []) all_labels (label_n ∷ label_s ∷ []) all_labels
    (holds_all (label_n ∷ label_s ∷ [])) start_holds (holds_all (label_n ∷ label_s ∷ [])) refl refl refl

-- a round of the star changes no label
round_same : step_narrow.0 ≡ start_narrow.0
round_same = held_once step_narrow.0 start_narrow.0 all_labels step_holds start_holds

abbrev star_narrow : Narrow star_outline start_narrow.0
star_narrow = narrow_star exit_labels true step_outline start_narrow.0 step_narrow round_same

abbrev split_narrow : Narrow split_outline start_narrow.0
split_narrow = narrow_split 190 2 star_outline start_narrow.0 star_narrow

abbrev behind_narrow : Narrow behind_outline call_narrow.0
behind_narrow = narrow_series start_outline split_outline call_narrow.0 start_narrow split_narrow

abbrev main_narrow : Narrow main_outline input_labels
main_narrow = narrow_series call_outline behind_outline input_labels call_narrow behind_narrow

main_holds : Holds main_narrow.0 all_labels
main_holds = holds_same (union start_narrow.0 exit_labels) (all_labels ++ label_n ∷ []) all_labels
    (holds_union start_narrow.0 exit_labels all_labels (label_n ∷ []) start_holds (holds_all (label_n ∷ []))) refl refl

-- each part has a route
call_safe : Safe call_outline input_labels
call_safe = takes_one (variant_of (label_v ∷ [])) input_labels
    (fits_by_lists (variant_of (label_v ∷ [])) input_labels (label_v ∷ []) (label_v ∷ label_k ∷ label_n ∷ []) (holds_all (label_v ∷ [])) input_holds refl refl)

start_safe : Safe start_outline call_narrow.0
start_safe = takes_one start_part.pattern call_narrow.0
    (fits_by_lists start_part.pattern call_narrow.0 (label_n ∷ []) (label_w ∷ label_k ∷ label_n ∷ []) (holds_all (label_n ∷ [])) call_holds refl refl)

step_safe : Safe step_outline start_narrow.0
step_safe = takes_one step_part.pattern start_narrow.0
    (fits_by_lists step_part.pattern start_narrow.0 (label_n ∷ label_s ∷ []) all_labels (holds_all (label_n ∷ label_s ∷ [])) start_holds refl refl)

split_safe : Safe split_outline start_narrow.0
split_safe = (start_holds label_k, safe_star exit_labels true step_outline start_narrow.0 step_narrow round_same step_safe)

main_safe : Safe main_outline input_labels
main_safe = safe_series call_outline behind_outline input_labels call_narrow call_safe (safe_series start_outline split_outline call_narrow.0 start_narrow start_safe split_safe)

output_fits : HasFit (output_labels ∷ []) main_narrow.0
output_fits = one_fits output_labels main_narrow.0 (fits_by_lists output_labels main_narrow.0 all_labels all_labels (holds_all all_labels) main_holds refl refl)

pub claim_accepted : IsAccepted the_boxes the_claim
claim_accepted =
    let at = subst (λ o. IsBounded o (input_labels ∷ []) × ((v : Labels) → Contains (input_labels ∷ []) v → Safe o v)
    × IsDeclared o (input_labels ∷ []) (output_labels ∷ [])) (sym outline_is) (
      narrow_bounded main_outline input_labels main_narrow,
      safe_from main_outline input_labels main_safe,
      narrow_declared main_outline input_labels main_narrow (output_labels ∷ []) output_fits,
    ) in
    record { bounded = at.0; safe = at.1; declared = at.2 }
