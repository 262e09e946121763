use Rattle.sn_box_parser.proofs.Embedded.{assign_start}
use Rattle.sn_box_parser.proofs.Steps.{no_assign}
use Rattle.sn_box_parser.proofs.function.assign.Goals as goal

pub returns-in_default : goal.returns-in_default
returns-in_default c = λ w t. no_assign _ c.in_default.ensures

pub returns : goal.returns
returns c = rw c.in-Some.ensures (assign_start _ _ _ _ c.start.result (c.start.ensures.from, c.start.ensures.to))
