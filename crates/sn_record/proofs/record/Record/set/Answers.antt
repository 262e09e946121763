use Rattle.sn_record.proofs.Records.{IsRecord-set}
use Rattle.sn_record.proofs.record.Record.set.Goals as goal

pub invariant_of-self : goal.invariant_of-self
invariant_of-self c = IsRecord-set c.insert.result _ _ _ _ c.self.invariant c.requires c.insert.ensures.ok c.insert.ensures.err
