use Rattle.sn_filter_parser.proofs.ItemSteps.{assign_step, name_ends, steps_through}
use Rattle.sn_filter_parser.specs.declared.items.Mode.TheVariants.{Named, After}
use Rattle.sn_filter_parser.proofs.items.after_name.Goals as goal

pub returns-in-Some : goal.returns-in-Some
returns-in-Some c = assign_step c.args.items c.args.name c.args.token c.in-Some.field-0 c.in-Some.ensures

pub returns-in_ok-items-in-None : goal.returns-in_ok-items-in-None
returns-in_ok-items-in-None c =
    let a = c.args in
    let next = c.in_ok-items-in-None in
    let e = rw c.same.ensures at next.ensures in
    steps_through a.items next.items (Named a.name) After a.token c.after.result (name_ends a.items next.items a.name a.token c.in-None.ensures e) c.after.ensures
