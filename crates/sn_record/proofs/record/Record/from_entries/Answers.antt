use Rattle.std.proofs.Common.{subst, sym}
use Rattle.sn_record.specs.Record.{IsRecord}
use Rattle.sn_record.proofs.Records.{IsRecord-from_entries}
use Rattle.sn_record.proofs.record.Record.from_entries.Goals as goal

pub invariant_of-result : goal.invariant_of-result
invariant_of-result c = subst IsRecord (sym c.in_ok-values.ensures) (IsRecord-from_entries c.args.entries.items c.requires)
