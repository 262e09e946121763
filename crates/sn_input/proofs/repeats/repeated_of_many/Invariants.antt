use Rattle.std.proofs.Common.{◌≡◌, take, drop}
use Rattle.std.specs.List.{list_any}
use Rattle.sn_record_parser.specs.declared.entry.WrittenLabel.{WrittenLabel}
use Rattle.sn_input.proofs.Repeating.{labels_of}
use Rattle.sn_input.specs.Numbered.{same_label, first_repeat, repeated}
use Rattle.sn_input.specs.Seen.{has_seen}
use Rattle.sn_input.proofs.repeats.repeated_of_many.Given as goal

abbrev pub invariant-loop-entry : goal.invariant-loop-entry
invariant-loop-entry l = record {
  so_far : first_repeat (labels_of (take l.entry-index l.entries)) (labels_of (drop l.entry-index l.entries)) ≡ repeated l.entries;
  seen : (label : WrittenLabel) → has_seen l.seen label ≡ list_any (same_label label) (labels_of (take l.entry-index l.entries));
}
