use Rattle.sn_filter_parser.proofs.ItemSteps.{none_step, first_is_next, steps_through}
use Rattle.sn_filter_parser.specs.declared.items.Mode.TheVariants.{First, Item}
use Rattle.sn_filter_parser.proofs.items.first.Goals as goal

pub returns-in-Some : goal.returns-in-Some
returns-in-Some c = none_step c.args.items c.args.token c.in-Some.field-0 c.in-Some.ensures

pub returns-in-None : goal.returns-in-None
returns-in-None c =
    let a = c.args in
    steps_through a.items a.items First Item a.token c.item.result (first_is_next a.items a.token c.in-None.ensures) c.item.ensures
