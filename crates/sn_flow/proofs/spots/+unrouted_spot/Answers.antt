use Rattle.std.proofs.Common.{◌≡◌, ◌<◌, List, get_or, length, map, sym, ap, ◌∙◌, rules, arith}
use Rattle.std.proofs.lemmas.Option.{get_or_from_slice_get, slice_get_within}
use Rattle.sn_net.specs.declared.net.Net.TheViews.{the_lemmas}
use Rattle.sn_typing.specs.Outline.{branch_of, is_guarded, outline}
use Rattle.sn_flow.specs.declared.table.Table.{Table}
use Rattle.sn_flow.specs.Spots.{least, spots}
use Rattle.sn_flow.specs.Tables.{child, part_at}
use Rattle.sn_flow.proofs.Formed.{as_many, branch_formed, branch_got, choice_is, left_formed, right_formed, serial_is, sound_choice, split_formed, split_is, star_formed, star_is}
use Rattle.sn_flow.proofs.Walking.{branch_walked, choice_walked, here_spots, series_walked, softer, split_walked, star_walked}
use Rattle.sn_flow.proofs.spots.+unrouted_spot.Goals as goal

pub unrouted_spot-requires : goal.unrouted_spot-requires
unrouted_spot-requires t c =
    (search (rules, the_lemmas), (left_formed c.args.boxes.now c.args.net.now c.requires.formed c.in-Serial.left c.in-Serial.right c.get.result.now c.in-Serial.is c.get.ensures, c.requires.nothing))

pub unrouted_spot-requires-in-Serial : goal.unrouted_spot-requires-in-Serial
unrouted_spot-requires-in-Serial t c =
    (search (rules, the_lemmas), (right_formed c.args.boxes.now c.args.net.now c.requires.formed c.in-Serial.left c.in-Serial.right c.get-in-Serial.result.now c.in-Serial.is c.get-in-Serial.ensures, c.requires.nothing))

pub unrouted_spot-requires-in-loop-i : goal.unrouted_spot-requires-in-loop-i
unrouted_spot-requires-in-loop-i t c =
    let item : c.at.result.now ≡ get_or c.in-Choice.branches c.loop-i.i c.at.result.now = sym (get_or_from_slice_get c.in-Choice.branches c.loop-i.i c.at.result.now c.at.result.now c.at.ensures) in
    let below : c.loop-i.i < length c.in-Choice.branches = slice_get_within c.in-Choice.branches c.loop-i.i c.at.result.now c.at.ensures in
    (search (rules, the_lemmas, item, below), (branch_formed c.args.boxes.now c.args.net.now c.requires.formed c.in-Choice.place c.in-Choice.merge c.in-Choice.branches c.in-Choice.faces c.in-Choice.is c.loop-i.i c.at.result.now c.at.ensures, c.requires.nothing))

pub unrouted_spot-requires-in-Star : goal.unrouted_spot-requires-in-Star
unrouted_spot-requires-in-Star t c =
    (search (rules, the_lemmas), (star_formed c.args.boxes.now c.args.net.now c.requires.formed c.in-Star.place c.in-Star.merge c.in-Star.body c.in-Star.exit c.in-Star.guard c.get-in-Star.result.now c.in-Star.is c.get-in-Star.ensures, c.requires.nothing))

pub unrouted_spot-requires-in-Split : goal.unrouted_spot-requires-in-Split
unrouted_spot-requires-in-Split t c =
    (search (rules, the_lemmas), (split_formed c.args.boxes.now c.args.net.now c.requires.formed c.in-Split.place c.in-Split.merge c.in-Split.body c.in-Split.tag c.get-in-Split.result.now c.in-Split.is c.get-in-Split.ensures, c.requires.nothing))

pub returns-in_ok-unrouted_spot-in-Serial : goal.returns-in_ok-unrouted_spot-in-Serial
returns-in_ok-unrouted_spot-in-Serial t c =
    softer (c.unrouted_spot-in-Serial.new.best ≡ least c.unrouted_spot.new.best (spots (outline c.args.boxes.now c.get-in-Serial.result.now) c.part_of-second.result.now)) (c.unrouted_spot-in-Serial.new.best ≡ least c.args.best.now (spots (outline c.args.boxes.now c.args.net.now) c.args.table.now)) c.unrouted_spot-in-Serial.result
    (λ e. series_walked (outline c.args.boxes.now c.args.net.now) c.args.table.now c.args.best.now c.row_spot.new.best c.as_slice.result.now c.as_slice.ensures c.in_ok-row_spot.ensures (outline c.args.boxes.now c.get.result.now) (outline c.args.boxes.now c.get-in-Serial.result.now)
    (serial_is c.args.boxes.now c.args.net.now c.in-Serial.left c.in-Serial.right c.get.result.now c.get-in-Serial.result.now c.in-Serial.is c.get.ensures c.get-in-Serial.ensures)
    c.part_of-part.result.now c.part_of-second.result.now (c.part_of-part.ensures ∙ ap (λ (ps : List Table). part_at ps 0) c.as_slice-parts.ensures) (c.part_of-second.ensures ∙ ap (λ (ps : List Table). part_at ps 1) c.as_slice-parts.ensures)
    c.unrouted_spot.new.best c.unrouted_spot-in-Serial.new.best c.in_ok-unrouted_spot-in-Serial.ensures e)
    c.unrouted_spot-in-Serial.ensures

pub loop-i-preserved : goal.loop-i-preserved
loop-i-preserved t c =
    branch_walked (λ j. spots ((branch_of (map (outline c.args.boxes.now) c.in-Choice.branches)) j) (child c.args.table.now j)) c.loop-i.i c.row_spot.new.best c.loop-i.best c.unrouted_spot-in-loop-i.new.best
    (spots (outline c.args.boxes.now c.at.result.now) c.part_of-part-in-loop-i.result.now) c.loop-i.invariant
    (here_spots (outline c.args.boxes.now c.at.result.now) ((branch_of (map (outline c.args.boxes.now) c.in-Choice.branches)) c.loop-i.i) c.part_of-part-in-loop-i.result.now (child c.args.table.now c.loop-i.i)
    (sym (branch_got c.args.boxes.now c.in-Choice.branches c.loop-i.i c.at.result.now c.at.ensures)) (c.part_of-part-in-loop-i.ensures ∙ ap (λ (ps : List Table). part_at ps c.loop-i.i) c.as_slice-parts.ensures))
    c.in_ok-unrouted_spot-in-Choice.ensures

pub returns-after-loop-i : goal.returns-after-loop-i
returns-after-loop-i t c =
    let many = as_many c.args.boxes.now c.in-Choice.branches c.in-Choice.faces (sound_choice c.args.boxes.now c.args.net.now c.requires.formed c.in-Choice.place c.in-Choice.merge c.in-Choice.branches c.in-Choice.faces c.in-Choice.is) in
    choice_walked (outline c.args.boxes.now c.args.net.now) c.args.table.now c.args.best.now c.row_spot.new.best c.as_slice.result.now c.as_slice.ensures c.in_ok-row_spot.ensures c.in-Choice.place c.in-Choice.faces (branch_of (map (outline c.args.boxes.now) c.in-Choice.branches))
    (choice_is c.args.boxes.now c.args.net.now c.in-Choice.place c.in-Choice.merge c.in-Choice.branches c.in-Choice.faces c.in-Choice.is)
    c.loop-i.i (omega (arith, many, c.loop-i-test.false, c.len-i-end.ensures, c.loop-i.auto.i-end)) c.loop-i.best c.loop-i.invariant

pub returns-in-Star : goal.returns-in-Star
returns-in-Star t c =
    softer (c.unrouted_spot-in-Star.new.best ≡ least c.row_spot.new.best (spots (outline c.args.boxes.now c.get-in-Star.result.now) c.part_of-part.result.now)) (c.unrouted_spot-in-Star.new.best ≡ least c.args.best.now (spots (outline c.args.boxes.now c.args.net.now) c.args.table.now)) c.unrouted_spot-in-Star.result
    (λ e. star_walked (outline c.args.boxes.now c.args.net.now) c.args.table.now c.args.best.now c.row_spot.new.best c.as_slice.result.now c.as_slice.ensures c.in_ok-row_spot.ensures c.in-Star.exit (is_guarded c.in-Star.guard) (outline c.args.boxes.now c.get-in-Star.result.now)
    (star_is c.args.boxes.now c.args.net.now c.in-Star.place c.in-Star.merge c.in-Star.body c.in-Star.exit c.in-Star.guard c.get-in-Star.result.now c.in-Star.is c.get-in-Star.ensures)
    c.part_of-part.result.now (c.part_of-part.ensures ∙ ap (λ (ps : List Table). part_at ps 0) c.as_slice-parts.ensures) c.unrouted_spot-in-Star.new.best e)
    c.unrouted_spot-in-Star.ensures

pub returns-in-Split : goal.returns-in-Split
returns-in-Split t c =
    softer (c.unrouted_spot-in-Split.new.best ≡ least c.row_spot.new.best (spots (outline c.args.boxes.now c.get-in-Split.result.now) c.part_of-part.result.now)) (c.unrouted_spot-in-Split.new.best ≡ least c.args.best.now (spots (outline c.args.boxes.now c.args.net.now) c.args.table.now)) c.unrouted_spot-in-Split.result
    (λ e. split_walked (outline c.args.boxes.now c.args.net.now) c.args.table.now c.args.best.now c.row_spot.new.best c.as_slice.result.now c.as_slice.ensures c.in_ok-row_spot.ensures c.in-Split.place c.in-Split.tag (outline c.args.boxes.now c.get-in-Split.result.now)
    (split_is c.args.boxes.now c.args.net.now c.in-Split.place c.in-Split.merge c.in-Split.body c.in-Split.tag c.get-in-Split.result.now c.in-Split.is c.get-in-Split.ensures)
    c.part_of-part.result.now (c.part_of-part.ensures ∙ ap (λ (ps : List Table). part_at ps 0) c.as_slice-parts.ensures) c.unrouted_spot-in-Split.new.best e)
    c.unrouted_spot-in-Split.ensures
