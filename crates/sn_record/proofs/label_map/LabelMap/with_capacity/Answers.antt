use Rattle.std.proofs.Common.{ap, ◌∙◌}
use Rattle.std.specs.FinMap as map
use Rattle.sn_record.proofs.Maps.{from_sorted-empty}
use Rattle.sn_record.proofs.label_map.LabelMap.with_capacity.Goals as goal

pub returns : goal.returns
returns g c = ap map.from_sorted c.in_ok-entries.ensures.items ∙ from_sorted-empty
