use Rattle.std.proofs.Common.{◌∙◌, subst, sym}
use Rattle.sn_record.specs.Record.{IsRecord}
use Rattle.sn_record.proofs.Maps.{is_sorted-same, from_sorted-same}
use Rattle.sn_record.proofs.record.Record.copy.Goals as goal

pub from_sorted-requires : goal.from_sorted-requires
from_sorted-requires c = is_sorted-same c.self.inside.values _ (c.in_ok-entries.ensures ∙ c.as_slice.ensures)

pub invariant_of-result : goal.invariant_of-result
invariant_of-result c = subst IsRecord (sym (c.from_sorted.ensures ∙ from_sorted-same c.self.inside.values _ (c.in_ok-entries.ensures ∙ c.as_slice.ensures))) c.self.invariant

pub returns : goal.returns
returns c = c.from_sorted.ensures ∙ from_sorted-same c.self.inside.values _ (c.in_ok-entries.ensures ∙ c.as_slice.ensures) ∙ c.self.view_is
