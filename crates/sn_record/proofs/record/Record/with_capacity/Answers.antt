use Rattle.std.proofs.Common.{sym, subst}
use Rattle.sn_record.specs.Record.{IsRecord}
use Rattle.sn_record.proofs.Records.{IsRecord-empty}
use Rattle.sn_record.proofs.record.Record.with_capacity.Goals as goal

pub invariant_of-result : goal.invariant_of-result
invariant_of-result c = subst IsRecord (sym c.in_ok-values.ensures) IsRecord-empty
