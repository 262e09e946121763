use Rattle.sn_filter_parser.proofs.FilterSteps.{labels_more, labels_done}
use Rattle.sn_filter_parser.proofs.filter.in_pattern.Goals as goal

pub returns-in-Ok-More : goal.returns-in-Ok-More
returns-in-Ok-More c =
    let a = c.args in
    let m = c.in-Ok-More in
    labels_more a.at a.opening a.labels m.labels a.token (rw m.field-0-is at m.ensures)

pub returns-in-Ok-Done : goal.returns-in-Ok-Done
returns-in-Ok-Done c =
    let a = c.args in
    let d = c.in-Ok-Done in
    labels_done a.at a.opening a.labels a.token d.labels (rw d.field-0-is at d.ensures)
