use Rattle.sn_filter_parser.proofs.FilterSteps.{semicolon_step}
use Rattle.sn_filter_parser.proofs.filter.after.Goals as goal

pub returns-in-Some : goal.returns-in-Some
returns-in-Some c =
    let a = c.args in
    semicolon_step a.at c.in-Some.field-0 a.begun a.templates.of a.templates.so_far a.token c.in-Some.ensures
