use Rattle.std.proofs.Common.{◌≡◌, take}
use Rattle.std.specs.List.{filter}
use Rattle.sn_record.specs.LabelSet.{contains}
use Rattle.sn_record.proofs.record.copy_within.Given as goal

abbrev pub invariant-loop-entry : goal.invariant-loop-entry
invariant-loop-entry l = l.copies.items ≡ filter (λ e. contains l.labels e.0) (take l.entry-index l.entries)
