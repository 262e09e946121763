use Rattle.std.proofs.Common.{◌∙◌, ap}
use Rattle.std.specs.FinMap as map
use Rattle.sn_record.proofs.Maps.{from_sorted-in_order}
use Rattle.sn_record.proofs.label_map.LabelMap.from_entries.Goals as goal

pub returns : goal.returns
returns g c = ap map.from_sorted c.shrink_to_fit.ensures.items ∙ from_sorted-in_order c.args.entries.items c.in_ok-entries.entries.items c.in_ok-entries.ensures
