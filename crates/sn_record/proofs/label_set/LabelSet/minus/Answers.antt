use Rattle.std.proofs.Common.{◌∙◌, ap, not, arith}
use Rattle.std.proofs.lemmas.List.{take_all}
use Rattle.std.specs.List.{filter}
use Rattle.std.specs.FinMap as map
use Rattle.sn_record.specs.LabelSet.{contains}
use Rattle.sn_record.proofs.Maps.{is_sorted-kept, from_sorted-kept}
use Rattle.sn_record.proofs.label_set.LabelSet.minus.Goals as goal

pub from_sorted-requires : goal.from_sorted-requires
from_sorted-requires c =
    is_sorted-kept (λ l. not (contains c.args.other.now l)) c.args.self.now _
    (c.loop-entry.invariant ∙ ap (filter (λ e. not (contains c.args.other.now e.0))) (take_all c.loop-entry.entry-index _ (omega arith) ∙ c.as_slice-entry-items.ensures ∙ ap map.entries c.self.view_is))

pub returns : goal.returns
returns c =
    c.from_sorted.ensures
    ∙ from_sorted-kept (λ l. not (contains c.args.other.now l)) c.args.self.now _
    (c.loop-entry.invariant ∙ ap (filter (λ e. not (contains c.args.other.now e.0))) (take_all c.loop-entry.entry-index _ (omega arith) ∙ c.as_slice-entry-items.ensures ∙ ap map.entries c.self.view_is))
