use Rattle.sn_filter_parser.proofs.FilterSteps.{template_step, no_template}
use Rattle.sn_filter_parser.proofs.filter.begin_template.Goals as goal

pub returns-in-Some : goal.returns-in-Some
returns-in-Some c =
    let a = c.args in
    let s = c.in-Some in
    template_step a.at s.opening a.begun a.templates.of a.templates.so_far c.start.result a.token s.ensures c.start.ensures.from c.start.ensures.to

pub returns-in-None : goal.returns-in-None
returns-in-None c = no_template c.args.at c.args.begun c.args.templates.of c.args.templates.so_far c.args.token c.in-None.ensures
