use Rattle.sn_filter_parser.proofs.ItemSteps.{old_step, no_old}
use Rattle.sn_filter_parser.proofs.items.renamed.Goals as goal

pub returns-in_default : goal.returns-in_default
returns-in_default c = no_old c.args.items c.args.new c.args.token c.in_default.not-Name

pub returns : goal.returns
returns c =
    let a = c.args in
    let next = c.in_ok-items in
    let e = rw c.rename.ensures at next.ensures in
    old_step a.items next.items a.new c.in-Name.old a.token c.in-Name.is e
