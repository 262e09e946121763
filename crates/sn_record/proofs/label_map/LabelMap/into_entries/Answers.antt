use Rattle.std.proofs.Common.{◌∙◌, ap, sym}
use Rattle.std.specs.FinMap as map
use Rattle.sn_record.proofs.Maps.{entries-from_sorted}
use Rattle.sn_record.proofs.label_map.LabelMap.into_entries.Goals as goal

pub returns : goal.returns
returns g c = sym (entries-from_sorted c.self.inside.entries.items c.self.invariant) ∙ ap map.entries c.self.view_is
