use Rattle.std.proofs.Common.{◌≡◌, ◌∙◌, ap, not, subst, sym}
use Rattle.std.specs.List.{filter}
use Rattle.sn_record.specs.LabelSet.{contains}
use Rattle.sn_record.specs.Record.{IsRecord, overlay, inherit}
use Rattle.sn_record.proofs.Maps.{is_sorted-kept, from_sorted-kept}
use Rattle.sn_record.proofs.Records.{IsRecord-inherit}
use Rattle.sn_record.proofs.record.Record.inheriting_owned.Goals as goal

pub from_sorted-inherited-requires : goal.from_sorted-inherited-requires
from_sorted-inherited-requires c =
    is_sorted-kept (λ l. not (contains c.args.named.now l)) c.from.inside.values _
    (c.without_named.ensures ∙ ap (filter (λ e. not (contains c.args.named.now e.0))) c.into_entries.ensures)

pub invariant_of-result : goal.invariant_of-result
invariant_of-result c =
    let kept = from_sorted-kept (λ l. not (contains c.args.named.now l)) c.from.inside.values _ (c.without_named.ensures ∙ ap (filter (λ e. not (contains c.args.named.now e.0))) c.into_entries.ensures) in
    let whole : c.in_ok-values.values ≡ inherit c.from.inside.values c.args.named.now c.self.inside.values =
    c.in_ok-values.ensures ∙ ap (overlay c.self.inside.values) (c.from_sorted-inherited.ensures ∙ kept) in
    subst IsRecord (sym whole) (IsRecord-inherit c.from.inside.values c.args.named.now c.self.inside.values c.from.invariant c.self.invariant)

pub returns : goal.returns
returns c =
    let kept = from_sorted-kept (λ l. not (contains c.args.named.now l)) c.from.inside.values _ (c.without_named.ensures ∙ ap (filter (λ e. not (contains c.args.named.now e.0))) c.into_entries.ensures) in
    c.in_ok-values.ensures ∙ ap (overlay c.self.inside.values) (c.from_sorted-inherited.ensures ∙ kept)
    ∙ (λ i. inherit (c.from.view_is i) c.args.named.now (c.self.view_is i))
