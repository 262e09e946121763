use Rattle.std.proofs.Common.{ap, ◌∙◌}
use Rattle.sn_pass.specs.States.{held}
use Rattle.sn_pass.proofs.States.{held-Cell}
use Rattle.sn_pass.proofs.kept.keep_cell.Goals as goal

pub returns : goal.returns
returns c = ap held c.replace.ensures.after ∙ held-Cell c.args.holding
