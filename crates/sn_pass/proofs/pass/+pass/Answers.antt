use Rattle.std.proofs.lemmas.List.{append-nil}
use Rattle.std.proofs.Math.Nat.{max-le, le-max_left, le-max_right}
use Rattle.std.proofs.Common.{length, ◌≤◌, arith, max, take, false, ◌+◌, FitsSigned, w64, ◌-◌, ◌≡◌, ◌<◌, ◌++◌, ◌∷◌, [], append_assoc, List, refl, sym, ap, subst, ◌∙◌, map, rules}
use Rattle.std.specs.Vec.Iter.{drain_items}
use Rattle.sn_net.specs.WellFormed.{FitsBoxes}
use Rattle.sn_pass.specs.Passing.{IsAtChoice, IsTapped, Passes, PassesAll}
use Rattle.sn_net.specs.declared.net.Net.TheViews.{the_lemmas}
use Rattle.sn_net.specs.declared.net.Net.{Net}
use Rattle.sn_net.specs.declared.net.Net.TheVariants.{Split}
use Rattle.sn_net.proofs.net.Net.TheLaws.{the_size}
use Rattle.sn_model.specs.Meaning.{tree}
use Rattle.sn_pass.specs.Flowing.{flows}
use Rattle.sn_pass.specs.declared.flowing.Flowing.{Flowing}
use Rattle.sn_pass.specs.Levels.{entries}
use Rattle.sn_pass.specs.Output.{given}
use Rattle.sn_pass.specs.States.{at_value, held}
use Rattle.sn_pass.proofs.Arms.{always_ok, both_ok, child_passes, choice_goes_to, choice_none, choice_some, chosen_here, goes_through, is_series, passes_all_at, serial_arm, split_none, split_some, star_arm, whole_range}
use Rattle.sn_pass.proofs.States.{held-Levels}
use Rattle.sn_pass.proofs.StarLoop.{IsSoFar, at_levels, enters_turned, leaves_turned, so_far_begins, so_far_ends, so_far_enters, so_far_leaves, top_within, turned_falls}
use Rattle.std.proofs.lemmas.Int.{to_z-of_z}
use Rattle.std.proofs.lemmas.Result.{on_ok_weaker}
use Rattle.sn_record.specs.Record.{Entries}
use Rattle.sn_net.specs.Dispatchers.{level}
use Rattle.sn_net.specs.Item.{ModelItem, Rec}
use Rattle.sn_net.specs.declared.net.Merge.{Merge}
use Rattle.sn_net.specs.declared.net.Merge.TheVariants.{Det}
use Rattle.sn_pass.specs.Waiting.{stack_of}
use Rattle.sn_pass.specs.declared.waiting.Waiting.{Waiting}
use Rattle.std.specs.Prelude.{OnOk, Option}
use Rattle.std.specs.Ordering.{int_eq}
use Rattle.sn_pass.specs.Held.{LevelsOf}
use Rattle.sn_pass.specs.Keeping.{child_of, left_of, right_of}
use Rattle.sn_pass.specs.declared.kept.Kept.{Kept}
use Rattle.sn_pass.specs.declared.kept.Kept.TheVariants as kept
use Rattle.sn_streams.specs.Keys.{Branch, Value}
use Rattle.sn_pass.proofs.Passed.{through_none}
use Rattle.sn_net.proofs.Fits.{box_there, filter_closed}
use Rattle.sn_model.specs.Run.{boxes_of, depth_of, setting_of}
use Rattle.sn_pass.proofs.Parts.{at_choice, at_split, at_star, branch_at_place, branch_stands, branch_there, left_fits, right_fits, split_body_fits, star_body_fits}
use Rattle.sn_pass.proofs.pass.+pass.Goals as goal

pub pass-pass_box-requires : goal.pass-pass_box-requires
pass-pass_box-requires t c = record {
  there = box_there (boxes_of c.args.walk.now.run.now) c.in-Box.place c.in-Box.number (subst (FitsBoxes (boxes_of c.args.walk.now.run.now)) c.in-Box.is c.requires.formed);
  inputs = c.requires.inputs;
}

pub pass-pass_filter-requires : goal.pass-pass_filter-requires
pass-pass_filter-requires t c = filter_closed (boxes_of c.args.walk.now.run.now) c.in-Filter.filter (subst (FitsBoxes (boxes_of c.args.walk.now.run.now)) c.in-Filter.is c.requires.formed)

pub pass-pass_series-requires : goal.pass-pass_series-requires
pass-pass_series-requires t c = (
  (
      let left : the_size c.get.result.now < the_size c.args.net.now = search (rules, the_lemmas) in
      let right : the_size c.get-in-Serial.result.now < the_size c.args.net.now = search (rules, the_lemmas) in
      let most : max (the_size c.get.result.now) (the_size c.get-in-Serial.result.now) ≤ the_size c.args.net.now - 1 = max-le (omega (arith, left)) (omega (arith, right)) in
      omega (arith, left, most)
      ),
  (
    left_fits (boxes_of c.args.walk.now.run.now) c.args.net.now c.requires.formed c.in-Serial.left c.in-Serial.right c.get.result.now c.in-Serial.is c.get.ensures,
    (
      right_fits (boxes_of c.args.walk.now.run.now) c.args.net.now c.requires.formed c.in-Serial.left c.in-Serial.right c.get-in-Serial.result.now c.in-Serial.is c.get-in-Serial.ensures,
      c.requires.inputs,
    ),
  ),
)

pub pass-returns-in-Serial : goal.pass-returns-in-Serial
pass-returns-in-Serial t c =
    subst (λ (net : Net). OnOk c.pass_series.result (Passes (tree (setting_of c.args.walk.now.run.now) net) (held c.args.kept.now) (held c.pass_series.new.kept) (flows c.args.item) (given c.args.out.now) (given c.pass_series.new.out)))
    (sym (is_series c.args.net.now c.in-Serial.left c.in-Serial.right c.get.result.now c.get-in-Serial.result.now c.in-Serial.is c.get.ensures c.get-in-Serial.ensures)) c.pass_series.ensures

pub pass-pass_choice-requires : goal.pass-pass_choice-requires
pass-pass_choice-requires t c = (
  search (rules, the_lemmas),
  (
    c.requires.formed,
    (
      c.requires.inputs,
      (c.in-Choice.merge, c.in-Choice.is),
    ),
  ),
)

pub pass-pass_star-requires : goal.pass-pass_star-requires
pass-pass_star-requires t c = (
  search (rules, the_lemmas),
  (
    star_body_fits (boxes_of c.args.walk.now.run.now) c.args.net.now c.requires.formed c.in-Star.place c.in-Star.merge c.in-Star.body c.get-in-Star.result.now c.in-Star.exit c.in-Star.guard c.in-Star.is c.get-in-Star.ensures,
    (
      c.requires.inputs,
      at_star (boxes_of c.args.walk.now.run.now) c.args.net.now c.requires.formed c.in-Star.place c.in-Star.merge c.in-Star.body c.in-Star.exit c.in-Star.guard c.in-Star.is,
    ),
  ),
)

pub pass-returns-in-Star : goal.pass-returns-in-Star
pass-returns-in-Star t c =
    on_ok_weaker c.pass_star.result
    (star_arm (setting_of c.args.walk.now.run.now) c.args.net.now c.in-Star.body c.get-in-Star.result.now c.in-Star.place c.in-Star.merge c.in-Star.exit c.in-Star.guard (held c.args.kept.now) (held c.pass_star.new.kept)
    (flows c.args.item) (given c.args.out.now) (given c.pass_star.new.out) c.in-Star.is c.get-in-Star.ensures) c.pass_star.ensures

pub pass-pass_split-requires : goal.pass-pass_split-requires
pass-pass_split-requires t c = (
  search (rules, the_lemmas),
  (
    c.requires.formed,
    (
      c.requires.inputs,
      (c.in-Split.merge, subst (λ (body : Net). c.args.net.now ≡ Split c.in-Split.place c.in-Split.merge body c.in-Split.tag) (sym c.get-in-Split.ensures) c.in-Split.is),
    ),
  ),
)

pub pass_series-pass-requires : goal.pass_series-pass-requires
pass_series-pass-requires t c = (omega (arith, le-max_left (the_size c.args.left.now) (the_size c.args.right.now)), (c.requires.left, c.requires.inputs))

pub pass_series-pass_each-requires : goal.pass_series-pass_each-requires
pass_series-pass_each-requires t c = (omega (arith, le-max_right (the_size c.args.left.now) (the_size c.args.right.now)), (c.requires.right, c.requires.inputs))

pub pass_series-returns : goal.pass_series-returns
pass_series-returns t c =
    both_ok c.keep_parts.result _ _ _
    (serial_arm (setting_of c.args.walk.now.run.now) c.args.left.now c.args.right.now (held c.args.kept.now) (held c.keep_parts.new.kept)
    (held c.into_parts-left_state.result.0) (held c.into_parts-left_state.result.1) (held c.pass.new.kept) (held c.pass_each.new.kept) (flows c.args.item)
    (given c.pass.new.out) (given c.args.out.now) (given c.pass_each.new.out) (given c.begin-before.new.self)
    (c.into_parts-left_state.ensures.left ∙ ap (λ (k : Kept). left_of (held k)) c.replace.ensures.value)
    (c.into_parts-left_state.ensures.right ∙ ap (λ (k : Kept). right_of (held k)) c.replace.ensures.value) (ap (map flows) c.begin-before.ensures.anew)
    c.in_ok-pass.ensures
    (passes_all_at (tree (setting_of c.args.walk.now.run.now) c.args.right.now) (held c.into_parts-left_state.result.1) (held c.pass_each.new.kept) _ _ _ _ (given c.pass_each.new.out)
    (ap (map flows) c.end-between.ensures.since) (ap (map flows) (c.end-between.ensures.back ∙ c.begin-before.ensures.before)) c.in_ok-pass_each.ensures))
    c.keep_parts.ensures.left c.keep_parts.ensures.right

pub pass_choice-choose-requires : goal.pass_choice-choose-requires
pass_choice-choose-requires t c =
    subst (IsAtChoice c.args.choice.now) (sym c.as_slice.ensures) (at_choice (boxes_of c.args.walk.now.run.now) c.args.choice.now c.requires.formed c.args.place c.requires.parts.0 c.args.branches.now c.args.faces.now c.requires.parts.1)

pub pass_choice-returns-in-None : goal.pass_choice-returns-in-None
pass_choice-returns-in-None t c =
    choice_none (setting_of c.args.walk.now.run.now) c.args.choice.now c.args.place c.requires.parts.0 c.args.branches.now c.args.faces.now c.requires.parts.1 (held c.args.kept.now) (flows c.args.item) (given c.args.out.now) (map flows c.choose.new.out) c.in_ok-picked.field-0 (chosen_here c.args.place c.as_slice.result.now c.args.faces.now (flows c.args.item) (given c.args.out.now) (map flows c.choose.new.out) c.in_ok-picked.field-0 c.as_slice.ensures c.in_ok-picked.ensures) c.in-None.is

pub pass_choice-bounds-nets-number : goal.pass_choice-bounds-nets-number
pass_choice-bounds-nets-number t c =
    let goes = choice_goes_to (setting_of c.args.walk.now.run.now) c.args.choice.now c.args.place c.requires.parts.0 c.args.branches.now c.args.faces.now c.requires.parts.1 (held c.args.kept.now) (flows c.args.item) (given c.args.out.now) (map flows c.choose.new.out) c.in_ok-picked.field-0 (chosen_here c.args.place c.as_slice.result.now c.args.faces.now (flows c.args.item) (given c.args.out.now) (map flows c.choose.new.out) c.in_ok-picked.field-0 c.as_slice.ensures c.in_ok-picked.ensures) c.in-Some.picked c.in-Some.is in
    subst (λ (ns : List Net). c.in-Some.picked.0 < length ns) (sym c.as_slice-nets.ensures) (branch_there (boxes_of c.args.walk.now.run.now) c.args.choice.now c.requires.formed c.args.place c.requires.parts.0 c.args.branches.now c.args.faces.now c.requires.parts.1 c.in-Some.picked.0 goes.there)

pub pass_choice-pass_branch-requires : goal.pass_choice-pass_branch-requires
pass_choice-pass_branch-requires t c =
    let goes = choice_goes_to (setting_of c.args.walk.now.run.now) c.args.choice.now c.args.place c.requires.parts.0 c.args.branches.now c.args.faces.now c.requires.parts.1 (held c.args.kept.now) (flows c.args.item) (given c.args.out.now) (map flows c.choose.new.out) c.in_ok-picked.field-0 (chosen_here c.args.place c.as_slice.result.now c.args.faces.now (flows c.args.item) (given c.args.out.now) (map flows c.choose.new.out) c.in_ok-picked.field-0 c.as_slice.ensures c.in_ok-picked.ensures) c.in-Some.picked c.in-Some.is in
    let below = branch_there (boxes_of c.args.walk.now.run.now) c.args.choice.now c.requires.formed c.args.place c.requires.parts.0 c.args.branches.now c.args.faces.now c.requires.parts.1 c.in-Some.picked.0 goes.there in
    let inside : c.in-Some.picked.0 < length c.as_slice-nets.result.now = subst (λ (ns : List Net). c.in-Some.picked.0 < length ns) (sym c.as_slice-nets.ensures) below in (
      search (rules, the_lemmas, inside),
      (
        branch_at_place (boxes_of c.args.walk.now.run.now) c.args.choice.now c.requires.formed c.args.place c.requires.parts.0 c.args.branches.now c.args.faces.now c.requires.parts.1 c.as_slice-nets.result.now c.in-Some.picked.0 c.index-nets-number.result c.as_slice-nets.ensures below c.index-nets-number.is,
        c.requires.inputs,
      ),
    )

pub pass_choice-returns : goal.pass_choice-returns
pass_choice-returns t c =
    let goes = choice_goes_to (setting_of c.args.walk.now.run.now) c.args.choice.now c.args.place c.requires.parts.0 c.args.branches.now c.args.faces.now c.requires.parts.1 (held c.args.kept.now) (flows c.args.item) (given c.args.out.now) (map flows c.choose.new.out) c.in_ok-picked.field-0 (chosen_here c.args.place c.as_slice.result.now c.args.faces.now (flows c.args.item) (given c.args.out.now) (map flows c.choose.new.out) c.in_ok-picked.field-0 c.as_slice.ensures c.in_ok-picked.ensures) c.in-Some.picked c.in-Some.is in
    let there = branch_stands (boxes_of c.args.walk.now.run.now) c.args.choice.now c.requires.formed c.args.place c.requires.parts.0 c.args.branches.now c.args.faces.now c.requires.parts.1 c.as_slice-nets.result.now c.in-Some.picked.0 c.index-nets-number.result c.as_slice-nets.ensures
    (branch_there (boxes_of c.args.walk.now.run.now) c.args.choice.now c.requires.formed c.args.place c.requires.parts.0 c.args.branches.now c.args.faces.now c.requires.parts.1 c.in-Some.picked.0 goes.there) c.index-nets-number.is in
    both_ok c.pass_branch.result _ _ _
    (choice_some (setting_of c.args.walk.now.run.now) c.args.choice.now c.args.place c.requires.parts.0 c.args.branches.now c.args.faces.now c.requires.parts.1 (held c.args.kept.now) (flows c.args.item) (given c.args.out.now) (map flows c.choose.new.out) c.in_ok-picked.field-0 (chosen_here c.args.place c.as_slice.result.now c.args.faces.now (flows c.args.item) (given c.args.out.now) (map flows c.choose.new.out) c.in_ok-picked.field-0 c.as_slice.ensures c.in_ok-picked.ensures)
    c.in-Some.picked c.index-nets-number.result (held c.pass_branch.new.kept) (given c.pass_branch.new.out) c.in-Some.is there) c.pass_branch.ensures.passes c.pass_branch.ensures.others

pub pass_split-split-requires : goal.pass_split-split-requires
pass_split-split-requires t c = at_split (boxes_of c.args.walk.now.run.now) c.args.whole.now c.requires.formed c.args.place c.requires.parts.0 c.args.body.now c.args.tag c.requires.parts.1

pub pass_split-returns-in-None : goal.pass_split-returns-in-None
pass_split-returns-in-None t c =
    split_none (setting_of c.args.walk.now.run.now) c.args.whole.now c.args.body.now c.args.place c.requires.parts.0 c.args.tag c.requires.parts.1 (held c.args.kept.now) (flows c.args.item) (given c.args.out.now) (map flows c.split.new.out) c.in_ok-picked.field-0 c.in_ok-picked.ensures c.in-None.is

pub pass_split-pass_replica-requires : goal.pass_split-pass_replica-requires
pass_split-pass_replica-requires t c = (
  omega arith,
  (
    split_body_fits (boxes_of c.args.walk.now.run.now) c.args.whole.now c.requires.formed c.args.place c.requires.parts.0 c.args.body.now c.args.body.now c.args.tag c.requires.parts.1 refl,
    c.requires.inputs,
  ),
)

pub pass_split-returns : goal.pass_split-returns
pass_split-returns t c =
    let fits : FitsSigned w64 c.in-Some.picked.0 = search rules in
    let same = to_z-of_z w64 c.in-Some.picked.0 fits in
    both_ok c.pass_replica.result _ _ _
    (split_some (setting_of c.args.walk.now.run.now) c.args.whole.now c.args.body.now c.args.place c.requires.parts.0 c.args.tag c.requires.parts.1
    (held c.args.kept.now) (flows c.args.item) (given c.args.out.now) (map flows c.split.new.out) c.in_ok-picked.field-0 c.in_ok-picked.ensures
    c.in-Some.picked (held c.pass_replica.new.kept) (given c.pass_replica.new.out) c.in-Some.is)
    (rw same at c.pass_replica.ensures.passes) (rw same at c.pass_replica.ensures.others)

pub pass_each-loop-item-init : goal.pass_each-loop-item-init
pass_each-loop-item-init t c = (refl, through_none (tree (setting_of c.args.walk.now.run.now) c.args.net.now) (held c.args.kept.now) (given c.args.out.now))

pub pass_each-loop-item-preserved : goal.pass_each-loop-item-preserved
pass_each-loop-item-preserved t c = (
  append_assoc c.loop-item.yielded (c.in-Some.item ∷ []) (drain_items c.next.new.self)
      ∙ ap (λ items. c.loop-item.yielded ++ items) (sym c.in-Some.ensures.steps.0) ∙ c.loop-item.invariant.0,
  goes_through (tree (setting_of c.args.walk.now.run.now) c.args.net.now) (held c.args.kept.now) (held c.loop-item.kept) (held c.pass.new.kept)
      c.loop-item.yielded c.in-Some.item (given c.args.out.now) (given c.loop-item.out) (given c.pass.new.out) c.loop-item.invariant.1 c.in_ok-pass.ensures,
)

pub pass_each-returns : goal.pass_each-returns
pass_each-returns t c =
    let lent : drain_items c.into_iter-item-iterator.result ≡ drain_items c.drain-item-items.result = ap drain_items c.into_iter-item-iterator.ensures.into_iter_gives in
    let whole : drain_items c.into_iter-item-iterator.result ≡ c.args.items = lent ∙ c.drain-item-items.ensures.rest ∙ whole_range c.into_vec-items.result.len c.into_vec-items.result.items (search rules) ∙ c.into_vec-items.ensures in
    let all : c.loop-item.yielded ≡ c.args.items =
    sym (append-nil c.loop-item.yielded) ∙ ap (λ items. c.loop-item.yielded ++ items) (sym c.in-None.ensures.steps.0) ∙ c.loop-item.invariant.0 ∙ whole in
    always_ok c.put_by.result _
    (subst (λ (grown : List ModelItem). PassesAll (tree (setting_of c.args.walk.now.run.now) c.args.net.now) (held c.args.kept.now) (held c.loop-item.kept) (map flows c.args.items) (given c.args.out.now) grown)
    (sym (ap (map flows) c.put_by.ensures))
    (subst (λ (items : List Flowing). PassesAll (tree (setting_of c.args.walk.now.run.now) c.args.net.now) (held c.args.kept.now) (held c.loop-item.kept) (map flows items) (given c.args.out.now) (given c.loop-item.out)) all c.loop-item.invariant.1))

pub pass_branch-returns-clause-passes : goal.pass_branch-returns-clause-passes
pass_branch-returns-clause-passes t c =
    on_ok_weaker c.keep_branch.result
    (λ put. child_passes (tree (setting_of c.args.walk.now.run.now) c.args.branch.now) (held c.take_at-state.result) (child_of (held c.args.kept.now) (Branch c.args.number)) (held c.pass.new.kept)
    (child_of (held c.keep_branch.new.kept) (Branch c.args.number)) (Rec c.args.taken) (given c.args.out.now) (given c.pass.new.out)
    (c.take_at-state.ensures.taken ∙ c.into_branches-branches.ensures c.args.number ∙ ap (λ (k : Kept). child_of (held k) (Branch c.args.number)) c.replace.ensures.value)
    put c.in_ok-pass.ensures) c.keep_branch.ensures.put

pub pass_branch-returns-clause-others : goal.pass_branch-returns-clause-others
pass_branch-returns-clause-others t c =
    on_ok_weaker c.keep_branch.result
    (λ others j apart. others j apart ∙ c.take_at-state.ensures.others j apart ∙ c.into_branches-branches.ensures j ∙ ap (λ (k : Kept). child_of (held k) (Branch j)) c.replace.ensures.value)
    c.keep_branch.ensures.others

pub pass_replica-keep_replica-requires : goal.pass_replica-keep_replica-requires
pass_replica-keep_replica-requires t c = c.take_replica-state.ensures.gone

pub pass_replica-returns-clause-passes : goal.pass_replica-returns-clause-passes
pass_replica-returns-clause-passes t c =
    let fits : FitsSigned w64 c.args.value = search rules in
    let same = to_z-of_z w64 c.args.value fits in
    on_ok_weaker c.keep_replica.result
    (λ put. child_passes (tree (setting_of c.args.walk.now.run.now) c.args.body.now) (held c.take_replica-state.result) (child_of (held c.args.kept.now) (Value c.args.value)) (held c.pass.new.kept)
    (child_of (held c.keep_replica.new.kept) (Value c.args.value)) (Rec c.args.taken) (given c.args.out.now) (given c.pass.new.out)
    (subst (λ z. held c.take_replica-state.result ≡ at_value c.into_replicas-replicas.result z) same c.take_replica-state.ensures.taken
    ∙ c.into_replicas-replicas.ensures c.args.value ∙ ap (λ (k : Kept). child_of (held k) (Value c.args.value)) c.replace.ensures.value)
    (subst (λ z. child_of (held c.keep_replica.new.kept) (Value z) ≡ held c.pass.new.kept) same put) c.in_ok-pass.ensures)
    c.keep_replica.ensures.put

pub pass_replica-returns-clause-others : goal.pass_replica-returns-clause-others
pass_replica-returns-clause-others t c =
    let fits : FitsSigned w64 c.args.value = search rules in
    let same = to_z-of_z w64 c.args.value fits in
    on_ok_weaker c.keep_replica.result
    (λ others k other. subst (λ z. int_eq k z ≡ false → child_of (held c.keep_replica.new.kept) (Value k) ≡ at_value c.take_replica-state.new.replicas k) same (others k) other
    ∙ subst (λ z. int_eq k z ≡ false → at_value c.take_replica-state.new.replicas k ≡ at_value c.into_replicas-replicas.result k) same (c.take_replica-state.ensures.others k) other
    ∙ c.into_replicas-replicas.ensures k ∙ ap (λ (q : Kept). child_of (held q) (Value k)) c.replace.ensures.value)
    c.keep_replica.ensures.others

pub pass_star-loop-next-init : goal.pass_star-loop-next-init
pass_star-loop-next-init t c =
    so_far_begins c.args.place c.args.exit.now c.args.guard.now (tree (setting_of c.args.walk.now.run.now) c.args.body.now) c.depth-depth.result (at_levels c.into_levels-levels.result.items) (flows c.args.item) (given c.args.out.now) (given c.args.out.now) c.into_levels-levels.result.items c.push.new.self.items refl refl
    (ap stack_of (c.in_ok-push.ensures.items ∙ ap (λ (xs : List Waiting). xs ++ record { level = 0; item = c.args.item } ∷ []) c.new-waiting.ensures.items))

pub pass_star-overflow_sub-depth : goal.pass_star-overflow_sub-depth
pass_star-overflow_sub-depth t c =
    top_within c.args.place c.args.exit.now c.args.guard.now (tree (setting_of c.args.walk.now.run.now) c.args.body.now) c.depth-depth.result (at_levels c.into_levels-levels.result.items) (flows c.args.item) (given c.args.out.now) c.loop-next.waiting.items c.pop.new.self.items c.in-Some.next c.in-Some.ensures.items c.loop-next.invariant.within

pub pass_star-loop-next-smaller-in-None : goal.pass_star-loop-next-smaller-in-None
pass_star-loop-next-smaller-in-None t c =
    turned_falls c.args.place c.args.exit.now c.args.guard.now (tree (setting_of c.args.walk.now.run.now) c.args.body.now) c.depth-depth.result Det c.loop-next.levels.items c.loop-next.levels.items (stack_of c.loop-next.waiting.items) (stack_of c.pop.new.self.items) _
    (leaves_turned c.args.place c.args.exit.now c.args.guard.now (tree (setting_of c.args.walk.now.run.now) c.args.body.now) c.depth-depth.result Det c.loop-next.levels.items c.loop-next.waiting.items c.pop.new.self.items c.in-Some.next (given c.loop-next.out) (map flows c.tap.new.out) c.in-Some.ensures.items
    (subst (λ (o : Option Entries). IsTapped c.args.place c.args.exit.now c.args.guard.now (c.depth-depth.result - c.in-Some.next.level) (flows c.in-Some.next.item) (given c.loop-next.out) (map flows c.tap.new.out) o) c.in-None.is c.in_ok-taken.ensures))

pub pass_star-loop-next-preserved-in-None : goal.pass_star-loop-next-preserved-in-None
pass_star-loop-next-preserved-in-None t c =
    so_far_leaves c.args.place c.args.exit.now c.args.guard.now (tree (setting_of c.args.walk.now.run.now) c.args.body.now) c.depth-depth.result (at_levels c.into_levels-levels.result.items) (flows c.args.item) (given c.args.out.now) c.loop-next.levels.items c.loop-next.waiting.items c.pop.new.self.items c.in-Some.next (given c.loop-next.out) (map flows c.tap.new.out) c.in-Some.ensures.items c.loop-next.invariant
    (subst (λ (o : Option Entries). IsTapped c.args.place c.args.exit.now c.args.guard.now (c.depth-depth.result - c.in-Some.next.level) (flows c.in-Some.next.item) (given c.loop-next.out) (map flows c.tap.new.out) o) c.in-None.is c.in_ok-taken.ensures)

pub pass_star-loop-next-smaller : goal.pass_star-loop-next-smaller
pass_star-loop-next-smaller t c =
    turned_falls c.args.place c.args.exit.now c.args.guard.now (tree (setting_of c.args.walk.now.run.now) c.args.body.now) c.depth-depth.result Det c.loop-next.levels.items c.settle.new.levels.items (stack_of c.loop-next.waiting.items) (stack_of c.settle.new.waiting.items) []
    (enters_turned c.args.place c.args.exit.now c.args.guard.now (tree (setting_of c.args.walk.now.run.now) c.args.body.now) c.depth-depth.result Det c.loop-next.levels.items c.settle.new.levels.items c.loop-next.waiting.items c.pop.new.self.items c.settle.new.waiting.items c.in-Some.next c.in-Some-2.taken (given c.loop-next.out) (map flows c.tap.new.out) c.in-Some.ensures.items
    (top_within c.args.place c.args.exit.now c.args.guard.now (tree (setting_of c.args.walk.now.run.now) c.args.body.now) c.depth-depth.result (at_levels c.into_levels-levels.result.items) (flows c.args.item) (given c.args.out.now) c.loop-next.waiting.items c.pop.new.self.items c.in-Some.next c.in-Some.ensures.items c.loop-next.invariant.within)
    (subst (λ (o : Option Entries). IsTapped c.args.place c.args.exit.now c.args.guard.now (c.depth-depth.result - c.in-Some.next.level) (flows c.in-Some.next.item) (given c.loop-next.out) (map flows c.tap.new.out) o) c.in-Some-2.is c.in_ok-taken.ensures)
    (record {
      mid = c.take_at-state.new.states.items;
      state = held c.take_at-state.result;
      later = held c.pass.new.kept;
      made = given c.pass.new.out;
      taken = c.take_at-state.ensures.taken;
      took = c.take_at-state.ensures.others;
      passed = subst (λ (none : List ModelItem). Passes (tree (setting_of c.args.walk.now.run.now) c.args.body.now) (held c.take_at-state.result) (held c.pass.new.kept) (Rec c.in-Some-2.taken) none (given c.pass.new.out)) (ap (map flows) c.begin-before.ensures.anew) c.in_ok-pass.ensures;
      put = c.in_ok-settle.ensures.put;
      others = c.in_ok-settle.ensures.others;
      waits = c.in_ok-settle.ensures.waits ∙ ap (λ (made : List Flowing). entries (c.in-Some.next.level + 1) (map flows made) ++ stack_of c.pop.new.self.items) c.end-made.ensures.since;
    }))

pub pass_star-loop-next-preserved : goal.pass_star-loop-next-preserved
pass_star-loop-next-preserved t c =
    subst (λ (grown : List ModelItem). IsSoFar c.args.place c.args.exit.now c.args.guard.now (tree (setting_of c.args.walk.now.run.now) c.args.body.now) c.depth-depth.result (at_levels c.into_levels-levels.result.items) (flows c.args.item) (given c.args.out.now) grown c.settle.new.levels.items c.settle.new.waiting.items)
    (sym (ap (map flows) (c.in_ok-settle.ensures.same ∙ c.end-made.ensures.back ∙ c.begin-before.ensures.before)))
    (so_far_enters c.args.place c.args.exit.now c.args.guard.now (tree (setting_of c.args.walk.now.run.now) c.args.body.now) c.depth-depth.result (at_levels c.into_levels-levels.result.items) (flows c.args.item) (given c.args.out.now) c.loop-next.levels.items c.settle.new.levels.items c.loop-next.waiting.items c.pop.new.self.items c.settle.new.waiting.items c.in-Some.next c.in-Some-2.taken (given c.loop-next.out) (map flows c.tap.new.out) c.in-Some.ensures.items c.loop-next.invariant
    (subst (λ (o : Option Entries). IsTapped c.args.place c.args.exit.now c.args.guard.now (c.depth-depth.result - c.in-Some.next.level) (flows c.in-Some.next.item) (given c.loop-next.out) (map flows c.tap.new.out) o) c.in-Some-2.is c.in_ok-taken.ensures)
    (record {
      mid = c.take_at-state.new.states.items;
      state = held c.take_at-state.result;
      later = held c.pass.new.kept;
      made = given c.pass.new.out;
      taken = c.take_at-state.ensures.taken;
      took = c.take_at-state.ensures.others;
      passed = subst (λ (none : List ModelItem). Passes (tree (setting_of c.args.walk.now.run.now) c.args.body.now) (held c.take_at-state.result) (held c.pass.new.kept) (Rec c.in-Some-2.taken) none (given c.pass.new.out)) (ap (map flows) c.begin-before.ensures.anew) c.in_ok-pass.ensures;
      put = c.in_ok-settle.ensures.put;
      others = c.in_ok-settle.ensures.others;
      waits = c.in_ok-settle.ensures.waits ∙ ap (λ (made : List Flowing). entries (c.in-Some.next.level + 1) (map flows made) ++ stack_of c.pop.new.self.items) c.end-made.ensures.since;
    }))

pub pass_star-returns : goal.pass_star-returns
pass_star-returns t c =
    let done : c.loop-next.waiting.items ≡ [] = c.in_default.ensures.items ∙ ap (λ (xs : List Waiting). xs ++ []) (c.in_default.ensures.rest ∙ ap (λ n. take (n - 1) c.loop-next.waiting.items) c.in_default.ensures.cases.0) in
    subst (λ (k : Kept). (m : Merge) → Passes (level c.args.place m c.args.exit.now c.args.guard.now (tree (setting_of c.args.walk.now.run.now) c.args.body.now) (depth_of c.args.walk.now.run.now)) (held c.args.kept.now) (held k) (flows c.args.item) (given c.args.out.now) (given c.loop-next.out)) (sym c.keep.ensures)
    (subst (λ depth. (m : Merge) → Passes (level c.args.place m c.args.exit.now c.args.guard.now (tree (setting_of c.args.walk.now.run.now) c.args.body.now) depth) (held c.args.kept.now) (held (kept.Levels c.loop-next.levels)) (flows c.args.item) (given c.args.out.now) (given c.loop-next.out)) c.depth-depth.ensures.depth
    (so_far_ends c.args.place c.args.exit.now c.args.guard.now (tree (setting_of c.args.walk.now.run.now) c.args.body.now) c.depth-depth.result (held c.args.kept.now) (held (kept.Levels c.loop-next.levels)) (map held c.into_levels-levels.result.items) (flows c.args.item) (given c.args.out.now) (given c.loop-next.out) c.loop-next.levels.items c.loop-next.waiting.items
    (subst (λ (k : Kept). LevelsOf (held k) (map held c.into_levels-levels.result.items)) c.replace.ensures.value c.into_levels-levels.ensures)
    (held-Levels c.loop-next.levels) done c.loop-next.invariant))
