use Rattle.sn_filter_parser.proofs.ItemSteps.{expr_step, tag_ends, steps_through}
use Rattle.sn_filter_parser.specs.declared.items.Mode.TheVariants.{Tagged, After}
use Rattle.sn_filter_parser.proofs.items.after_tag.Goals as goal

pub returns-in-Some : goal.returns-in-Some
returns-in-Some c =
    let a = c.args in
    expr_step a.items a.tag c.start.result a.token c.in-Some.field-0 c.in-Some.ensures c.start.ensures.from c.start.ensures.to

pub returns-in_ok-items-in-None : goal.returns-in_ok-items-in-None
returns-in_ok-items-in-None c =
    let a = c.args in
    let next = c.in_ok-items-in-None in
    let e = rw c.same.ensures at next.ensures in
    steps_through a.items next.items (Tagged a.tag) After a.token c.after.result (tag_ends a.items next.items a.tag a.token c.in-None.ensures e) c.after.ensures
