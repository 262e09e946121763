use Rattle.std.proofs.Common.{◌<◌, ◌≤◌, ◌-◌, Bool, max, ◌∷◌, [], List, map, refl, sym, ap, ◌∙◌, subst, rules, arith}
use Rattle.std.proofs.Math.Nat.{max-le, le-max_left, le-max_right}
use Rattle.std.proofs.lemmas.List.Elements.{All-get_or}
use Rattle.std.proofs.lemmas.Result.{err_from_is_err_and}
use Rattle.std.specs.Prelude.{Ok, Err, Some}
use Rattle.std.specs.FinMap.{empty}
use Rattle.sn_record.specs.LabelSet.{Labels}
use Rattle.sn_net.specs.declared.net.Net.TheViews.{the_lemmas}
use Rattle.sn_net.specs.Face.{variant_of}
use Rattle.sn_net.specs.Filter.{every_template}
use Rattle.sn_net.specs.WellFormed.{FitsBoxes}
use Rattle.sn_net.proofs.net.Net.TheLaws.{the_size}
use Rattle.sn_typing.specs.Outline.{Choice, Outline, Split, Star, branch_of, is_guarded, outline, template_variant}
use Rattle.sn_flow.specs.Chosen.{chosen_of}
use Rattle.sn_flow.specs.Tables.{part_at, rows_of}
use Rattle.sn_flow.specs.Visits.{Closes, ComponentFlows, FormVisited, PartVisitedAll, Turned, beside}
use Rattle.sn_flow.proofs.Choosing.{true_false}
use Rattle.sn_flow.proofs.Formed.{as_many, guard_some, box_is, box_room, branch_read, filter_is, left_formed, right_formed, serial_is, slices_are, slices_formed, slices_sound, split_formed, split_is, star_formed, star_is, sync_is}
use Rattle.sn_flow.proofs.Goings.{Gone, face_found, going_begins, going_ends, going_none, no_face, sent_read}
use Rattle.sn_flow.proofs.Handing.{branch_goes, branch_stops, closed_stops, component_any, exit_any, left_stops, member_any, part_any, replica_any, right_any, row_any, still_new, turn_goes, turn_stops}
use Rattle.sn_flow.proofs.Visiting.{Along, along_begins, along_ends, close_add_stops, close_begins, close_ends, close_passes, split_without, visit_full, visit_known, visit_stops}
use Rattle.sn_flow.proofs.visit.+visits.Goals as goal

pub visit-returns-then-known : goal.visit-returns-then-known
visit-returns-then-known t c =
    visit_known (outline c.args.boxes.now c.args.net.now) c.args.variant.now c.args.table.now (rows_of c.args.table.now) c.in_ok-known.known refl c.in_ok-known.ensures c.if-known.true

pub visit-returns-then-len-ge-MOST_VARIANTS : goal.visit-returns-then-len-ge-MOST_VARIANTS
visit-returns-then-len-ge-MOST_VARIANTS t c =
    visit_full (outline c.args.boxes.now c.args.net.now) c.args.variant.now c.args.table.now (rows_of c.args.table.now) c.in_ok-known.known refl c.in_ok-known.ensures c.len.result c.if-known.false c.len.ensures c.if-len-ge-MOST_VARIANTS.true

pub visit-returns-in_err-flow : goal.visit-returns-in_err-flow
visit-returns-in_err-flow t c =
    let p = err_from_is_err_and c.from_residual-in_err-flow.result c.from_residual-in_err-flow.ensures.1 in
    rw (p.1, p.2) (visit_stops (outline c.args.boxes.now c.args.net.now) c.args.variant.now c.args.table.now (rows_of c.args.table.now) c.in_ok-known.known refl c.in_ok-known.ensures _ c.in_err-flow.field-0.0 refl c.in_err-flow.ensures)

pub visit-add_row-requires : goal.visit-add_row-requires
visit-add_row-requires t c =
    still_new c.args.table.now c.visit_form.new.parts c.args.variant.now c.in_ok-known.known c.in_ok-known.ensures c.if-known.false

pub visit-returns : goal.visit-returns
visit-returns t c =
    row_any (outline c.args.boxes.now c.args.net.now) c.args.variant.now c.args.table.now c.in_ok-known.known c.len.result c.visit_form.new.parts c.in_ok-flow.flow c.add_row.new.rows c.add_row.result c.in_ok-known.ensures c.if-known.false c.len.ensures c.if-len-ge-MOST_VARIANTS.false c.in_ok-flow.ensures c.add_row.ensures

pub visit_form-at-requires : goal.visit_form-at-requires
visit_form-at-requires t c =
    box_room c.args.boxes.now c.args.net.now c.requires c.in-Box.place c.in-Box.number c.in-Box.is

pub visit_form-returns-in-Box : goal.visit_form-returns-in-Box
visit_form-returns-in-Box t c =
    component_any (outline c.args.boxes.now c.args.net.now) c.in-Box.place (variant_of c.at.result.now.input ∷ []) (variant_of c.at.result.now.input) (map variant_of c.at.result.now.outputs) c.args.variant.now c.args.parts.now c.box_flow.result
    (box_is c.args.boxes.now c.args.net.now c.in-Box.place c.in-Box.number c.at.result.now c.in-Box.is c.at.ensures) c.box_flow.ensures

pub visit_form-returns-in-Filter : goal.visit_form-returns-in-Filter
visit_form-returns-in-Filter t c =
    component_any (outline c.args.boxes.now c.args.net.now) c.in-Filter.filter.place (c.in-Filter.filter.pattern ∷ []) c.in-Filter.filter.pattern (map template_variant (every_template c.in-Filter.filter)) c.args.variant.now c.args.parts.now c.filter_flow.result
    (filter_is c.args.boxes.now c.args.net.now c.in-Filter.filter c.in-Filter.is) c.filter_flow.ensures

pub visit_form-returns-in-Sync : goal.visit_form-returns-in-Sync
visit_form-returns-in-Sync t c =
    component_any (outline c.args.boxes.now c.args.net.now) c.in-Sync.place c.in-Sync.patterns empty (empty ∷ []) c.args.variant.now c.args.parts.now c.cell_flow.result
    (sync_is c.args.boxes.now c.args.net.now c.in-Sync.place c.in-Sync.patterns c.in-Sync.is)
    (subst (λ (ps : List Labels). ComponentFlows ps empty (empty ∷ []) c.args.variant.now c.cell_flow.result) c.as_slice.ensures c.cell_flow.ensures)

pub visit_form-visit_series-requires : goal.visit_form-visit_series-requires
visit_form-visit_series-requires t c = (
  (
      let left : the_size c.get.result.now < the_size c.args.net.now = search (rules, the_lemmas) in
      let right : the_size c.get-in-Serial.result.now < the_size c.args.net.now = search (rules, the_lemmas) in
      let most : max (the_size c.get.result.now) (the_size c.get-in-Serial.result.now) ≤ the_size c.args.net.now - 1 = max-le (omega (arith, left)) (omega (arith, right)) in
      omega (arith, left, most)
      ),
  (
    left_formed c.args.boxes.now c.args.net.now c.requires c.in-Serial.left c.in-Serial.right c.get.result.now c.in-Serial.is c.get.ensures,
    right_formed c.args.boxes.now c.args.net.now c.requires c.in-Serial.left c.in-Serial.right c.get-in-Serial.result.now c.in-Serial.is c.get-in-Serial.ensures,
  ),
)

pub visit_form-returns-in-Serial : goal.visit_form-returns-in-Serial
visit_form-returns-in-Serial t c =
    subst (λ (o : Outline). FormVisited o c.args.variant.now c.args.parts.now (beside c.visit_series.new.parts c.visit_series.result))
    (sym (serial_is c.args.boxes.now c.args.net.now c.in-Serial.left c.in-Serial.right c.get.result.now c.get-in-Serial.result.now c.in-Serial.is c.get.ensures c.get-in-Serial.ensures)) c.visit_series.ensures

pub visit_form-visit_choice-requires : goal.visit_form-visit_choice-requires
visit_form-visit_choice-requires t c = (
  search (rules, the_lemmas),
  (
    slices_formed c.args.boxes.now c.args.net.now c.requires c.in-Choice.place c.in-Choice.merge c.in-Choice.branches c.in-Choice.faces c.in-Choice.is c.as_slice-branches.result.now c.as_slice-branches.ensures,
    slices_sound c.args.boxes.now c.args.net.now c.requires c.in-Choice.place c.in-Choice.merge c.in-Choice.branches c.in-Choice.faces c.in-Choice.is c.as_slice-branches.result.now c.as_slice-in-Choice.result.now c.as_slice-branches.ensures c.as_slice-in-Choice.ensures,
  ),
)

pub visit_form-returns-in-Choice : goal.visit_form-returns-in-Choice
visit_form-returns-in-Choice t c =
    subst (λ (o : Outline). FormVisited o c.args.variant.now c.args.parts.now (beside c.visit_choice.new.parts c.visit_choice.result))
    (sym (slices_are c.args.boxes.now c.args.net.now c.in-Choice.place c.in-Choice.merge c.in-Choice.branches c.in-Choice.faces c.as_slice-branches.result.now c.as_slice-in-Choice.result.now c.in-Choice.is c.as_slice-branches.ensures c.as_slice-in-Choice.ensures))
    (c.visit_choice.ensures c.in-Choice.place)

pub visit_form-visit_star-requires : goal.visit_form-visit_star-requires
visit_form-visit_star-requires t c =
    (search (rules, the_lemmas), star_formed c.args.boxes.now c.args.net.now c.requires c.in-Star.place c.in-Star.merge c.in-Star.body c.in-Star.exit c.in-Star.guard c.get-in-Star.result.now c.in-Star.is c.get-in-Star.ensures)

pub visit_form-returns-in-Star : goal.visit_form-returns-in-Star
visit_form-returns-in-Star t c =
    subst (λ (o : Outline). FormVisited o c.args.variant.now c.args.parts.now (beside c.visit_star.new.parts c.visit_star.result))
    (sym (star_is c.args.boxes.now c.args.net.now c.in-Star.place c.in-Star.merge c.in-Star.body c.in-Star.exit c.in-Star.guard c.get-in-Star.result.now c.in-Star.is c.get-in-Star.ensures)) c.visit_star.ensures

pub visit_form-visit_split-requires : goal.visit_form-visit_split-requires
visit_form-visit_split-requires t c =
    (search (rules, the_lemmas), split_formed c.args.boxes.now c.args.net.now c.requires c.in-Split.place c.in-Split.merge c.in-Split.body c.in-Split.tag c.get-in-Split.result.now c.in-Split.is c.get-in-Split.ensures)

pub visit_form-returns-in-Split : goal.visit_form-returns-in-Split
visit_form-returns-in-Split t c =
    subst (λ (o : Outline). FormVisited o c.args.variant.now c.args.parts.now (beside c.visit_split.new.parts c.visit_split.result))
    (sym (split_is c.args.boxes.now c.args.net.now c.in-Split.place c.in-Split.merge c.in-Split.body c.in-Split.tag c.get-in-Split.result.now c.in-Split.is c.get-in-Split.ensures)) (c.visit_split.ensures c.in-Split.place)

pub visit_series-visit_part-requires : goal.visit_series-visit_part-requires
visit_series-visit_part-requires t c =
    (omega (arith, le-max_left (the_size c.args.left.now) (the_size c.args.right.now)), (c.requires.left, omega arith))

pub visit_series-visit_part_with-requires : goal.visit_series-visit_part_with-requires
visit_series-visit_part_with-requires t c =
    (omega (arith, le-max_right (the_size c.args.left.now) (the_size c.args.right.now)), (c.requires.right, omega arith))

pub visit_series-returns-in_err-middle : goal.visit_series-returns-in_err-middle
visit_series-returns-in_err-middle t c =
    let p = err_from_is_err_and c.from_residual.result c.from_residual.ensures.1 in
    rw (p.1, p.2) (left_stops (outline c.args.boxes.now c.args.left.now) (outline c.args.boxes.now c.args.right.now) c.args.variant.now c.args.parts.now c.visit_part.new.parts c.in_err-middle.field-0.0 c.in_err-middle.ensures)

pub visit_series-returns : goal.visit_series-returns
visit_series-returns t c =
    right_any (outline c.args.boxes.now c.args.left.now) (outline c.args.boxes.now c.args.right.now) c.args.variant.now c.args.parts.now _ _ c.in_ok-middle.middle c.as_slice.result.now c.visit_part_with.result c.in_ok-middle.ensures c.as_slice.ensures c.visit_part_with.ensures

pub visit_split-visit_part-requires : goal.visit_split-visit_part-requires
visit_split-visit_part-requires t c =
    (omega arith, (c.requires, omega arith))

pub visit_split-returns-then-not-contains : goal.visit_split-returns-then-not-contains
visit_split-returns-then-not-contains t c place =
    split_without (Split place c.args.tag (outline c.args.boxes.now c.args.body.now)) place c.args.tag (outline c.args.boxes.now c.args.body.now) c.args.variant.now c.args.parts.now refl c.new.result (λ there. true_false (sym there ∙ sym c.contains.ensures ∙ c.if-not-contains.true)) c.new.ensures

pub visit_split-returns : goal.visit_split-returns
visit_split-returns t c place =
    replica_any place c.args.tag (outline c.args.boxes.now c.args.body.now) c.args.variant.now c.args.parts.now _ c.visit_part.result (sym c.contains.ensures ∙ c.if-not-contains.false) c.visit_part.ensures

pub visit_part-visit-visited-requires : goal.visit_part-visit-visited-requires
visit_part-visit-visited-requires t c =
    (omega arith, c.requires.formed)

pub visit_part-put_back-requires : goal.visit_part-put_back-requires
visit_part-put_back-requires t c =
    c.requires.few

pub visit_part-returns : goal.visit_part-returns
visit_part-returns t c =
    part_any (outline c.args.boxes.now c.args.net.now) c.args.i c.args.variant.now c.args.parts.now c.take_out-part.new.parts _ c.take_out-part.result _ c.visit-visited.result c.put_back.result c.take_out-part.ensures.part c.take_out-part.ensures.others c.visit-visited.ensures c.put_back.ensures

pub visit_part_with-loop-variant-init : goal.visit_part_with-loop-variant-init
visit_part_with-loop-variant-init t c =
    (subst (λ (flow : List Labels). Along (outline c.args.boxes.now c.args.net.now) c.args.variants.now (part_at c.args.parts.now c.args.i) (part_at c.args.parts.now c.args.i) flow 0) (sym c.new-flow.ensures) (along_begins (outline c.args.boxes.now c.args.net.now) c.args.variants.now (part_at c.args.parts.now c.args.i)), λ j apart. refl)

pub visit_part_with-visit_part-found-requires : goal.visit_part_with-visit_part-found-requires
visit_part_with-visit_part-found-requires t c =
    (omega arith, (c.requires.formed, c.requires.few))

pub visit_part_with-returns-in_err-add_found : goal.visit_part_with-returns-in_err-add_found
visit_part_with-returns-in_err-add_found t c =
    let p = err_from_is_err_and c.from_residual.result c.from_residual.ensures.1 in
    rw (p.1, p.2) (turn_stops (outline c.args.boxes.now c.args.net.now) c.args.variants.now (part_at c.args.parts.now c.args.i) c.args.i c.loop-variant.variant-index c.variant-item.result c.loop-variant.parts c.visit_part-found.new.parts c.loop-variant.flow c.add_found.new.sets c.loop-variant-test.true (sym c.variant-item.is) c.loop-variant.invariant.0 c.visit_part-found.result c.in_err-add_found.field-0.0 c.visit_part-found.ensures c.in_err-add_found.ensures)

pub visit_part_with-loop-variant-preserved : goal.visit_part_with-loop-variant-preserved
visit_part_with-loop-variant-preserved t c =
    let (along, kept) = turn_goes (outline c.args.boxes.now c.args.net.now) c.args.variants.now (part_at c.args.parts.now c.args.i) c.args.i c.loop-variant.variant-index c.variant-item.result c.loop-variant.parts c.visit_part-found.new.parts c.loop-variant.flow c.add_found.new.sets c.loop-variant-test.true (sym c.variant-item.is) c.loop-variant.invariant.0 c.visit_part-found.result c.visit_part-found.ensures c.in_ok-add_found.ensures in
    (along, λ j apart. kept j apart ∙ c.loop-variant.invariant.1 j apart)

pub visit_part_with-returns : goal.visit_part_with-returns
visit_part_with-returns t c =
    subst (λ (flow : List Labels). PartVisitedAll (outline c.args.boxes.now c.args.net.now) c.args.i c.args.variants.now c.args.parts.now c.loop-variant.parts (Ok flow)) (sym c.into_seq.ensures)
    (along_ends (outline c.args.boxes.now c.args.net.now) c.args.variants.now (part_at c.args.parts.now c.args.i) (part_at c.loop-variant.parts c.args.i) c.loop-variant.flow c.loop-variant.variant-index c.loop-variant-test.false c.loop-variant.invariant.0, c.loop-variant.invariant.1)

pub visit_choice-returns-then-not-has_face : goal.visit_choice-returns-then-not-has_face
visit_choice-returns-then-not-has_face t c place =
    going_none (branch_of (map (outline c.args.boxes.now) c.args.branches.now)) c.args.faces.now c.args.variant.now c.args.parts.now (Choice place c.args.faces.now (branch_of (map (outline c.args.boxes.now) c.args.branches.now))) place c.new.result refl (no_face c.args.faces.now c.args.variant.now c.has_face.result c.has_face.ensures c.if-not-has_face.true) c.new.ensures

pub visit_choice-bounds-faces-i : goal.visit_choice-bounds-faces-i
visit_choice-bounds-faces-i t c = omega (arith, as_many c.args.boxes.now c.args.branches.now c.args.faces.now c.requires.sound, c.loop-i-test.true)

pub visit_choice-loop-i-init : goal.visit_choice-loop-i-init
visit_choice-loop-i-init t c =
    subst (λ (flow : List Labels). Gone (branch_of (map (outline c.args.boxes.now) c.args.branches.now)) c.args.faces.now c.args.variant.now c.args.parts.now 0 c.args.parts.now flow) (sym c.new-flow.ensures) (going_begins (branch_of (map (outline c.args.boxes.now) c.args.branches.now)) c.args.faces.now c.args.variant.now c.args.parts.now)

pub visit_choice-visit_part_with-found-requires : goal.visit_choice-visit_part_with-found-requires
visit_choice-visit_part_with-found-requires t c =
    (search (rules, the_lemmas, c.loop-i-test.true), (subst (FitsBoxes c.args.boxes.now) (sym c.index-branches-i.is) (All-get_or (FitsBoxes c.args.boxes.now) c.args.branches.now c.loop-i.i c.index-branches-i.result c.loop-i-test.true c.requires.formed), omega (arith, c.requires.sound.few, c.loop-i-test.true)))

pub visit_choice-returns-in_err-add_found : goal.visit_choice-returns-in_err-add_found
visit_choice-returns-in_err-add_found t c =
    let p = err_from_is_err_and c.from_residual-in_err-add_found.result c.from_residual-in_err-add_found.ensures.1 in
    rw (p.1, p.2) (λ place. branch_stops (branch_of (map (outline c.args.boxes.now) c.args.branches.now)) c.args.faces.now c.args.variant.now c.args.parts.now c.loop-i.i c.loop-i.parts c.visit_part_with-found.new.parts c.loop-i.flow c.add_found.new.sets c.as_slice-in-loop-i.result.now c.loop-i.invariant
    (c.as_slice-in-loop-i.ensures ∙ c.in_ok-sent.ensures ∙ ap (chosen_of c.args.faces.now c.loop-i.i c.args.variant.now) c.as_slice.ensures
    ∙ sent_read c.args.faces.now c.loop-i.i c.args.variant.now c.index-faces-i.result (omega (arith, as_many c.args.boxes.now c.args.branches.now c.args.faces.now c.requires.sound, c.loop-i-test.true)) c.index-faces-i.is)
    (Choice place c.args.faces.now (branch_of (map (outline c.args.boxes.now) c.args.branches.now))) place c.visit_part_with-found.result c.in_err-add_found.field-0.0 refl (face_found c.args.faces.now c.args.variant.now c.has_face.result c.has_face.ensures c.if-not-has_face.false)
    (subst (λ (o : Outline). PartVisitedAll o c.loop-i.i c.as_slice-in-loop-i.result.now c.loop-i.parts c.visit_part_with-found.new.parts c.visit_part_with-found.result)
    (sym (branch_read c.args.boxes.now c.args.branches.now c.loop-i.i c.index-branches-i.result c.loop-i-test.true c.index-branches-i.is)) c.visit_part_with-found.ensures) c.in_err-add_found.ensures)

pub visit_choice-loop-i-preserved : goal.visit_choice-loop-i-preserved
visit_choice-loop-i-preserved t c =
    branch_goes (branch_of (map (outline c.args.boxes.now) c.args.branches.now)) c.args.faces.now c.args.variant.now c.args.parts.now c.loop-i.i c.loop-i.parts c.visit_part_with-found.new.parts c.loop-i.flow c.add_found.new.sets c.as_slice-in-loop-i.result.now c.loop-i.invariant
    (c.as_slice-in-loop-i.ensures ∙ c.in_ok-sent.ensures ∙ ap (chosen_of c.args.faces.now c.loop-i.i c.args.variant.now) c.as_slice.ensures
    ∙ sent_read c.args.faces.now c.loop-i.i c.args.variant.now c.index-faces-i.result (omega (arith, as_many c.args.boxes.now c.args.branches.now c.args.faces.now c.requires.sound, c.loop-i-test.true)) c.index-faces-i.is)
    c.visit_part_with-found.result (subst (λ (o : Outline). PartVisitedAll o c.loop-i.i c.as_slice-in-loop-i.result.now c.loop-i.parts c.visit_part_with-found.new.parts c.visit_part_with-found.result)
    (sym (branch_read c.args.boxes.now c.args.branches.now c.loop-i.i c.index-branches-i.result c.loop-i-test.true c.index-branches-i.is)) c.visit_part_with-found.ensures) c.in_ok-add_found.ensures

pub visit_choice-returns : goal.visit_choice-returns
visit_choice-returns t c place =
    let many = as_many c.args.boxes.now c.args.branches.now c.args.faces.now c.requires.sound in
    subst (λ (flow : List Labels). FormVisited (Choice place c.args.faces.now (branch_of (map (outline c.args.boxes.now) c.args.branches.now))) c.args.variant.now c.args.parts.now (Ok (c.loop-i.parts, flow))) (sym c.into_seq.ensures)
    (going_ends (branch_of (map (outline c.args.boxes.now) c.args.branches.now)) c.args.faces.now c.args.variant.now c.args.parts.now (Choice place c.args.faces.now (branch_of (map (outline c.args.boxes.now) c.args.branches.now))) place c.loop-i.i c.loop-i.parts c.loop-i.flow refl (face_found c.args.faces.now c.args.variant.now c.has_face.result c.has_face.ensures c.if-not-has_face.false) (omega (arith, many, c.loop-i-test.false)) c.loop-i.invariant)

pub visit_star-returns-in_err-add : goal.visit_star-returns-in_err-add
visit_star-returns-in_err-add t c =
    let p = err_from_is_err_and c.from_residual.result c.from_residual.ensures.1 in
    rw (p.1, p.2) (closed_stops (outline c.args.boxes.now c.args.body.now) c.args.exit.now (is_guarded c.args.guard.now) c.args.variant.now c.args.parts.now c.in_err-add.field-0.0
    (close_add_stops c.args.exit.now (is_guarded c.args.guard.now) (outline c.args.boxes.now c.args.body.now) c.args.variant.now (part_at c.args.parts.now 0) c.new-members.result c.add.new.sets c.args.variant.now c.in_err-add.field-0.0 c.new-members.ensures c.in_err-add.ensures))

pub visit_star-loop-i-init : goal.visit_star-loop-i-init
visit_star-loop-i-init t c =
    close_begins c.args.exit.now (is_guarded c.args.guard.now) (outline c.args.boxes.now c.args.body.now) c.args.variant.now (part_at c.args.parts.now 0) c.new-members.result c.add.new.sets c.args.variant.now c.new-members.ensures refl c.in_ok-add.ensures

pub visit_star-visit_member-requires : goal.visit_star-visit_member-requires
visit_star-visit_member-requires t c =
    (omega arith, (c.requires, omega arith))

pub visit_star-returns-in_err-visit_member : goal.visit_star-returns-in_err-visit_member
visit_star-returns-in_err-visit_member t c =
    let p = err_from_is_err_and c.from_residual-in_err-visit_member.result c.from_residual-in_err-visit_member.ensures.1 in
    rw (p.1, p.2) (closed_stops (outline c.args.boxes.now c.args.body.now) c.args.exit.now (is_guarded c.args.guard.now) c.args.variant.now c.args.parts.now c.in_err-visit_member.field-0.0
    (subst (λ (b : Bool). Turned c.args.exit.now b (outline c.args.boxes.now c.args.body.now) c.args.variant.now (part_at c.args.parts.now 0) c.loop-i.i c.loop-i.parts c.loop-i.members c.visit_member.new.parts c.visit_member.new.members (Err c.in_err-visit_member.field-0.0)) (c.is_some.ensures ∙ guard_some c.args.guard.now) (c.in_err-visit_member.ensures c.args.variant.now (part_at c.args.parts.now 0)) c.loop-i.invariant))

pub visit_star-loop-i-preserved : goal.visit_star-loop-i-preserved
visit_star-loop-i-preserved t c =
    (subst (λ (b : Bool). Turned c.args.exit.now b (outline c.args.boxes.now c.args.body.now) c.args.variant.now (part_at c.args.parts.now 0) c.loop-i.i c.loop-i.parts c.loop-i.members c.visit_member.new.parts c.visit_member.new.members (Ok tt)) (c.is_some.ensures ∙ guard_some c.args.guard.now) (c.in_ok-visit_member.ensures c.args.variant.now (part_at c.args.parts.now 0)) c.loop-i.invariant)

pub visit_star-returns : goal.visit_star-returns
visit_star-returns t c =
    exit_any (Star c.args.exit.now (is_guarded c.args.guard.now) (outline c.args.boxes.now c.args.body.now)) c.args.exit.now (is_guarded c.args.guard.now) (outline c.args.boxes.now c.args.body.now) c.args.variant.now c.args.parts.now c.loop-i.parts c.as_slice.result.now c.with_exit.result refl
    (subst (λ (ms : List Labels). Closes c.args.exit.now (is_guarded c.args.guard.now) (outline c.args.boxes.now c.args.body.now) c.args.variant.now (part_at c.args.parts.now 0) (part_at c.loop-i.parts 0) ms) (sym c.as_slice.ensures)
    (close_ends c.args.exit.now (is_guarded c.args.guard.now) (outline c.args.boxes.now c.args.body.now) c.args.variant.now (part_at c.args.parts.now 0) (part_at c.loop-i.parts 0) c.loop-i.members c.loop-i.i c.len.result c.len.ensures c.loop-i-test.false c.loop-i.invariant))
    c.with_exit.ensures

pub visit_member-at-requires : goal.visit_member-at-requires
visit_member-at-requires t c =
    c.requires.there

pub visit_member-visit_part-found-requires : goal.visit_member-visit_part-found-requires
visit_member-visit_part-found-requires t c =
    (omega arith, (c.requires.formed, omega arith))

pub visit_member-returns-in_err-member : goal.visit_member-returns-in_err-member
visit_member-returns-in_err-member t c =
    let p = err_from_is_err_and c.from_residual.result c.from_residual.ensures.1 in
    rw (p.1, p.2) (λ v before at. tt)

pub visit_member-returns-then-leaves : goal.visit_member-returns-then-leaves
visit_member-returns-then-leaves t c v before =
    λ at. close_passes c.args.exit.now c.args.guarded (outline c.args.boxes.now c.args.body.now) v before (part_at c.args.parts.now 0) c.args.members.now c.args.i c.in_ok-member.member (c.at.ensures ∙ ap (λ (m : Labels). Some m) (sym c.in_ok-member.ensures)) at c.leaves.result c.leaves.ensures c.if-leaves.true

pub visit_member-returns : goal.visit_member-returns
visit_member-returns t c v before =
    member_any c.args.exit.now c.args.guarded (outline c.args.boxes.now c.args.body.now) v before c.args.i c.args.parts.now c.visit_part-found.new.parts c.args.members.now _ c.in_ok-member.member (c.at.ensures ∙ ap (λ (m : Labels). Some m) (sym c.in_ok-member.ensures)) c.leaves.result c.leaves.ensures c.if-leaves.false c.visit_part-found.result c.add_found.result c.visit_part-found.ensures c.add_found.ensures
