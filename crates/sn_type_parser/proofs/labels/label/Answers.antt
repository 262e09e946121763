use Rattle.std.proofs.Common.{sym}
use Rattle.sn_type_parser.proofs.LabelSteps.{label_step}
use Rattle.sn_type_parser.proofs.labels.label.Goals as goal

pub returns : goal.returns
returns c =
    let a = c.args in
    label_step a.bracket a.labels c.append.new.list a.token c.in-Some.label (sym c.in-Some.ensures) c.in_ok-append.ensures.ok
