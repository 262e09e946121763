use Rattle.std.proofs.Common.{sym, ◌∙◌}
use Rattle.sn_record.proofs.Maps.{entries-from_sorted}
use Rattle.sn_record.proofs.label_map.LabelMap.as_slice.Goals as goal

pub returns : goal.returns
returns g c = c.as_slice.ensures.value ∙ rw (← c.self.view_is) (sym (entries-from_sorted _ c.self.invariant))
