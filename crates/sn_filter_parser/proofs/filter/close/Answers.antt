use Rattle.sn_filter_parser.proofs.FilterSteps.{close_step, no_close}
use Rattle.sn_filter_parser.proofs.filter.close.Goals as goal

pub returns-in-Some : goal.returns-in-Some
returns-in-Some c other =
    let a = c.args in
    close_step a.at c.in-Some.field-0 a.begun a.all c.filter.result a.token c.in-Some.ensures c.filter.ensures

pub returns-in-None : goal.returns-in-None
returns-in-None c other = no_close c.args.at c.args.begun c.args.all c.args.token c.in-None.ensures other
