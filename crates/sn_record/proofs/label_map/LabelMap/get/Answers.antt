use Rattle.std.proofs.Common.{sym, ◌∙◌, ap}
use Rattle.std.specs.FinMap.{find}
use Rattle.sn_record.specs.Label.{label_cmp}
use Rattle.sn_record.proofs.Maps.{get-from_sorted}
use Rattle.sn_record.proofs.label_map.LabelMap.get.Goals as goal

pub returns : goal.returns
returns g c = c.find.ensures ∙ ap (find label_cmp c.args.label) c.as_slice.ensures.value ∙ rw (← c.self.view_is) (sym (get-from_sorted _ _ c.self.invariant))
