use Rattle.sn_filter_parser.proofs.FilterSteps.{else_step, if_step, no_arm_end}
use Rattle.sn_filter_parser.proofs.filter.after_arm.Goals as goal

pub returns-in-Some : goal.returns-in-Some
returns-in-Some c other =
    let a = c.args in
    if_step a.at c.in-Some.field-0 a.begun c.in_ok-begun.begun a.guard a.all a.token c.in-Some.ensures c.in_ok-begun.ensures

pub returns-in_default-keyword_at : goal.returns-in_default-keyword_at
returns-in_default-keyword_at c other =
    let a = c.args in
    no_arm_end a.at a.begun a.guard a.all a.token c.in_default.ensures c.in_default-keyword_at.ensures other

pub returns : goal.returns
returns c other =
    let a = c.args in
    let next = c.in_ok-begun-2 in
    else_step a.at c.in-Some-keyword_at.field-0 a.begun next.begun a.guard a.all a.token c.in-Some-keyword_at.ensures next.ensures
