use Rattle.sn_filter_parser.proofs.FilterSteps.{open_step, no_pattern}
use Rattle.sn_filter_parser.proofs.filter.begin_pattern.Goals as goal

pub returns-in-Some : goal.returns-in-Some
returns-in-Some c =
    let a = c.args in
    let s = c.in-Some in
    open_step a.at s.opening c.start.result a.token s.ensures c.start.ensures.from c.start.ensures.to

pub returns : goal.returns
returns c = no_pattern c.args.at c.args.token c.in-None.ensures
