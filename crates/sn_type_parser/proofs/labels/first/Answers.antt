use Rattle.sn_type_parser.specs.declared.labels.Mode.TheVariants.{First, Label}
use Rattle.sn_type_parser.proofs.LabelSteps.{done_first, first_is_next, steps_through, is_not}
use Rattle.sn_type_parser.proofs.labels.first.Goals as goal

pub returns-then-closes : goal.returns-then-closes
returns-then-closes c = done_first c.args.bracket c.args.labels c.args.token (c.closes.ensures.0 c.if-closes.true)

pub returns : goal.returns
returns c =
    let a = c.args in
    let n = is_not c.if-closes.false c.closes.ensures in
    steps_through a.bracket a.labels First Label a.token c.label.result (first_is_next a.bracket a.labels a.token n) c.label.ensures
