use Rattle.std.proofs.Common.{◌≡◌, ◌∙◌, ap}
use Rattle.std.specs.FinMap as map
use Rattle.sn_record.specs.LabelSet.{contains}
use Rattle.sn_record.proofs.Maps.{list_all-entries}
use Rattle.sn_record.proofs.label_set.LabelSet.is_subset.Goals as goal

pub loop-entry-init : goal.loop-entry-init
loop-entry-init c =
    let law = list_all-entries (contains c.args.other.now) c.args.self.now in
    let all : c.as_slice-entry-items.result.now ≡ map.entries c.args.self.now = c.as_slice-entry-items.ensures ∙ ap map.entries c.self.view_is in
    rw all (λ subset. law.1 subset, λ passes. law.0 passes)
