use Rattle.std.proofs.Common.{◌≡◌, take, not}
use Rattle.std.specs.List.{filter}
use Rattle.sn_record.specs.LabelSet.{contains}
use Rattle.sn_record.proofs.label_set.LabelSet.minus.Given as goal

abbrev pub invariant-loop-entry : goal.invariant-loop-entry
invariant-loop-entry l = l.rest.items ≡ filter (λ e. not (contains l.other e.0)) (take l.entry-index l.entry-items)
