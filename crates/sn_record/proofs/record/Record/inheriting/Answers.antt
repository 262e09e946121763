use Rattle.std.proofs.Common.{◌≡◌, ◌∙◌, ap, subst, sym}
use Rattle.std.specs.List.{filter}
use Rattle.sn_record.specs.Record.{IsRecord, is_missing, overlay, inherit}
use Rattle.sn_record.proofs.Maps.{is_sorted-kept, from_sorted-kept}
use Rattle.sn_record.proofs.Records.{inherit-missing, IsRecord-inherit}
use Rattle.sn_record.proofs.record.Record.inheriting.Goals as goal

pub from_sorted-requires : goal.from_sorted-requires
from_sorted-requires c =
    let missing = is_missing c.args.named.now c.self.inside.values in
    is_sorted-kept missing c.from.inside.values c.in_ok-missing.missing.items (c.in_ok-missing.ensures ∙ ap (filter (λ e. missing e.0)) c.as_slice.ensures)

pub invariant_of-result : goal.invariant_of-result
invariant_of-result c =
    let missing = is_missing c.args.named.now c.self.inside.values in
    let kept = from_sorted-kept missing c.from.inside.values c.in_ok-missing.missing.items (c.in_ok-missing.ensures ∙ ap (filter (λ e. missing e.0)) c.as_slice.ensures) in
    let whole : c.in_ok-values.values ≡ inherit c.from.inside.values c.args.named.now c.self.inside.values =
    c.in_ok-values.ensures ∙ ap (overlay c.self.inside.values) (c.from_sorted.ensures ∙ kept) ∙ inherit-missing c.from.inside.values c.args.named.now c.self.inside.values in
    subst IsRecord (sym whole) (IsRecord-inherit c.from.inside.values c.args.named.now c.self.inside.values c.from.invariant c.self.invariant)

pub returns : goal.returns
returns c =
    let missing = is_missing c.args.named.now c.self.inside.values in
    let kept = from_sorted-kept missing c.from.inside.values c.in_ok-missing.missing.items (c.in_ok-missing.ensures ∙ ap (filter (λ e. missing e.0)) c.as_slice.ensures) in
    c.in_ok-values.ensures ∙ ap (overlay c.self.inside.values) (c.from_sorted.ensures ∙ kept) ∙ inherit-missing c.from.inside.values c.args.named.now c.self.inside.values
    ∙ (λ i. inherit (c.from.view_is i) c.args.named.now (c.self.view_is i))
