use Rattle.std.proofs.Common.{refl}
use Rattle.sn_type_parser.proofs.TypeSteps.{labels_more, labels_done}
use Rattle.sn_type_parser.proofs.types.in_variant.Goals as goal

pub returns-in-Ok-More : goal.returns-in-Ok-More
returns-in-Ok-More c =
    let a = c.args in
    let m = c.in-Ok-More in
    labels_more a.parts a.at a.labels m.labels a.token (rw m.field-0-is at m.ensures)

pub returns-in-Ok-Done : goal.returns-in-Ok-Done
returns-in-Ok-Done c =
    let a = c.args in
    let d = c.in-Ok-Done in
    λ w t. rw c.in_ok-parser-in-Ok-Done.ensures (labels_done a.parts _ a.at a.labels a.token d.labels (rw d.field-0-is at d.ensures) refl w t)
