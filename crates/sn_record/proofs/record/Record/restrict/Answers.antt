use Rattle.std.proofs.Common.{◌∙◌, ap, subst, sym}
use Rattle.std.specs.List.{filter}
use Rattle.sn_record.specs.LabelSet.{contains}
use Rattle.sn_record.specs.Record.{IsRecord, restrict}
use Rattle.sn_record.proofs.Maps.{is_sorted-kept, from_sorted-kept}
use Rattle.sn_record.proofs.Records.{IsRecord-retain_keys}
use Rattle.sn_record.proofs.record.Record.restrict.Goals as goal

pub from_sorted-requires : goal.from_sorted-requires
from_sorted-requires c =
    is_sorted-kept (contains c.args.variant.now) c.self.inside.values _
    (c.in_ok-entries.ensures ∙ ap (filter (λ e. contains c.args.variant.now e.0)) c.as_slice.ensures)

pub invariant_of-result : goal.invariant_of-result
invariant_of-result c =
    let part = c.from_sorted.ensures ∙ from_sorted-kept (contains c.args.variant.now) c.self.inside.values _ (c.in_ok-entries.ensures ∙ ap (filter (λ e. contains c.args.variant.now e.0)) c.as_slice.ensures) in
    subst IsRecord (sym part) (IsRecord-retain_keys c.self.inside.values (contains c.args.variant.now) c.self.invariant)

pub returns : goal.returns
returns c =
    c.from_sorted.ensures
    ∙ from_sorted-kept (contains c.args.variant.now) c.self.inside.values _ (c.in_ok-entries.ensures ∙ ap (filter (λ e. contains c.args.variant.now e.0)) c.as_slice.ensures)
    ∙ ap (λ r. restrict r c.args.variant.now) c.self.view_is
