use Rattle.sn_filter_parser.proofs.FilterSteps.{arrow_step, no_arrow}
use Rattle.sn_filter_parser.proofs.filter.arrow.Goals as goal

pub returns-in-Some : goal.returns-in-Some
returns-in-Some c =
    let a = c.args in
    arrow_step a.at c.in-Some.field-0 a.begun a.of c.no_row.result a.token c.in-Some.ensures c.no_row.ensures

pub returns-in-None : goal.returns-in-None
returns-in-None c = no_arrow c.args.at c.args.begun c.args.of c.args.token c.in-None.ensures
