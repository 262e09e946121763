use Rattle.sn_filter_parser.proofs.FilterSteps.{first_step, plain_step}
use Rattle.sn_filter_parser.proofs.filter.first.Goals as goal

pub returns-in-Some : goal.returns-in-Some
returns-in-Some c =
    let a = c.args in
    first_step a.at c.in-Some.field-0 a.pattern c.begun_with-begun.result a.token c.in-Some.ensures c.begun_with-begun.ensures

pub returns : goal.returns
returns c =
    let a = c.args in
    plain_step a.at a.pattern c.begun_with-begun.result a.token c.in_default.ensures c.begun_with-begun.ensures c.arrow.result c.arrow.ensures
