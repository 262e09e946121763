use Rattle.std.proofs.Common.{◌∙◌, ◌+◌, ap, not, take}
use Rattle.sn_input.specs.Numbered.{with_entries}
use Rattle.sn_input.proofs.Rooms.{one_known, one_new, with_more}
use Rattle.sn_input.proofs.room.count_new.Goals as goal
use Rattle.sn_input.proofs.room.count_new.Goals.{then-is_none+in_ok-enter, else-is_none}

pub loop-entry-preserved : goal.loop-entry-preserved
loop-entry-preserved c =
    let names = c.args.names.now in
    let entries = c.args.entries.now in
    let i = c.loop-entry.entry-index in
    let entry = c.entry-item.result in
    let all = with_entries names (take i entries) in
    let later = with_entries names (take (i + 1) entries) in
    let grows = with_more names entries i entry c.loop-entry-test.true c.entry-item.is in
    elim c.if-is_none.branch [
      | then-is_none+in_ok-enter w ↦ one_new names c.loop-entry.fresh all later entry.label.name c.as_slice-name.result.now c.as_slice-name.ensures grows c.loop-entry.invariant c.find.result _ c.if-is_none.fresh c.find.ensures.number (c.is_none.ensures ∙ ap not w.if-is_none.true) (w.fresh-is ∙ w.in_ok-enter.ensures.ok)
      | else-is_none w ↦ one_known names c.loop-entry.fresh all later entry.label.name c.as_slice-name.result.now c.as_slice-name.ensures grows c.loop-entry.invariant c.find.result _ c.if-is_none.fresh c.find.ensures.number (c.is_none.ensures ∙ ap not w.if-is_none.false) w.fresh-is
    ]
