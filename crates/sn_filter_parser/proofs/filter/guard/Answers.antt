use Rattle.sn_filter_parser.proofs.FilterSteps.{guard_step, no_guard}
use Rattle.sn_filter_parser.proofs.filter.guard.Goals as goal

pub returns-in-Some : goal.returns-in-Some
returns-in-Some c =
    let a = c.args in
    guard_step a.at c.in-Some.field-0 a.begun c.start.result a.token c.in-Some.ensures c.start.ensures.from c.start.ensures.to

pub returns-in-None : goal.returns-in-None
returns-in-None c = no_guard c.args.at c.args.begun c.args.token c.in-None.ensures
