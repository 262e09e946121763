use Rattle.sn_filter_parser.proofs.FilterSteps.{items_more, items_done}
use Rattle.sn_filter_parser.proofs.filter.in_items.Goals as goal

pub returns-in-Ok-More : goal.returns-in-Ok-More
returns-in-Ok-More c =
    let a = c.args in
    let m = c.in-Ok-More in
    items_more a.at a.opening a.begun a.templates.of a.templates.so_far a.items m.items a.token (rw m.field-0-is at m.ensures)

pub returns-in-Ok-Done : goal.returns-in-Ok-Done
returns-in-Ok-Done c =
    let a = c.args in
    let d = c.in-Ok-Done in
    let next = c.in_ok-so_far-in-Ok-Done in
    items_done a.at a.opening a.begun a.templates.of a.templates.so_far next.so_far a.items a.token d.items (rw d.field-0-is at d.ensures) (rw c.with_place.ensures at next.ensures)
