use Rattle.std.proofs.Common.{◌≡◌, ◌++◌, take}
use Rattle.std.specs.List.{flat_map}
use Rattle.sn_explain.specs.Rendered.{note_row}
use Rattle.sn_explain.proofs.render.push_notes.Given as goal

abbrev pub invariant-loop-note : goal.invariant-loop-note
invariant-loop-note l = l.out ≡ l.initial.out ++ flat_map (note_row l.paint l.digits) (take l.note-index l.notes)
