use Rattle.std.proofs.Common.{◌∙◌, ◌++◌, ap, sym}
use Rattle.std.specs.FinMap as map
use Rattle.sn_record.specs.Label.{label_cmp}
use Rattle.sn_record.proofs.Maps.{entries-from_sorted, from_sorted-in_order}
use Rattle.sn_record.proofs.label_map.LabelMap.union.Goals as goal

pub returns : goal.returns
returns g c =
    let first = sym (entries-from_sorted c.self.inside.entries.items c.self.invariant) ∙ ap map.entries c.self.view_is in
    let second = sym (entries-from_sorted c.other.inside.entries.items c.other.invariant) ∙ ap map.entries c.other.view_is in
    from_sorted-in_order (c.self.inside.entries.items ++ c.other.inside.entries.items) c.in_ok-entries.entries.items c.in_ok-entries.ensures
    ∙ (λ i. map.from_entries {R = label_cmp} (first i ++ second i))
