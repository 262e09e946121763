use Rattle.std.proofs.Common.{◌≡◌, take}
use Rattle.std.specs.List.{filter}
use Rattle.sn_record.specs.Record.{is_missing}
use Rattle.sn_record.proofs.record.copy_missing.Given as goal

abbrev pub invariant-loop-entry : goal.invariant-loop-entry
invariant-loop-entry l = l.copies.items ≡ filter (λ e. is_missing l.named l.values e.0) (take l.entry-index l.entries)
