use Rattle.std.proofs.Common.{◌∙◌, ap}
use Rattle.std.specs.FinMap as map
use Rattle.sn_record.proofs.Maps.{is_sorted-same, from_sorted-same}
use Rattle.sn_record.proofs.label_set.LabelSet.copy.Goals as goal

pub from_sorted-requires : goal.from_sorted-requires
from_sorted-requires c = is_sorted-same c.args.self.now _ (c.in_ok-entries.ensures.items ∙ c.as_slice.ensures ∙ ap map.entries c.self.view_is)

pub returns : goal.returns
returns c = c.from_sorted.ensures ∙ from_sorted-same c.args.self.now _ (c.in_ok-entries.ensures.items ∙ c.as_slice.ensures ∙ ap map.entries c.self.view_is)
