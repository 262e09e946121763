use Rattle.std.proofs.Common.{ap, ◌∙◌}
use Rattle.std.specs.FinMap as map
use Rattle.sn_record.proofs.Maps.{from_sorted-empty}
use Rattle.sn_record.proofs.label_map.LabelMap.new.Goals as goal

pub returns : goal.returns
returns g c = ap map.from_sorted c.new.ensures.items ∙ from_sorted-empty
