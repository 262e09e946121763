use Rattle.std.proofs.Common.{sym, ap, ◌∙◌, rules, arith}
use Rattle.sn_view.specs.Parts.{part_below}
use Rattle.sn_node.proofs.Forms.{choice_form, get_past}
use Rattle.sn_node.proofs.parts.part_below.Goals as goal

pub returns-else-i-len : goal.returns-else-i-len
returns-else-i-len c =
    sym (ap (λ form. part_below form c.args.i) (choice_form c.args.net.now c.in-Choice.place c.in-Choice.merge c.in-Choice.branches c.in-Choice.faces c.in-Choice.is)
    ∙ get_past c.in-Choice.branches c.args.i (search (rules, arith)))
