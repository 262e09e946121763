use Rattle.sn_record.proofs.Records.{FitsLabel-slice_get}
use Rattle.sn_record.proofs.record.Record.at.Goals as goal

pub returns-clause-fits : goal.returns-clause-fits
returns-clause-fits c = FitsLabel-slice_get _ c.args.i _ _ c.self.invariant c.at.ensures
