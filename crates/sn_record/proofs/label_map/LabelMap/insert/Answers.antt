use Rattle.std.proofs.Common.{arith}
use Rattle.std.proofs.lemmas.Grind.{common_steps}
use Rattle.sn_record.proofs.Maps.{from_sorted-put, get-from_sorted}
use Rattle.sn_record.proofs.label_map.LabelMap.insert.Goals as goal

pub returns-clause-ok : goal.returns-clause-ok
returns-clause-ok g c = grind (arith, common_steps, from_sorted-put, c.self.invariant, c.put.ensures.ok)

pub returns-clause-old : goal.returns-clause-old
returns-clause-old g c = grind (arith, common_steps, get-from_sorted, c.self.invariant, c.put.ensures.old)
