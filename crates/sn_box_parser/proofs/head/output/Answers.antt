use Rattle.sn_box_parser.proofs.Embedded.{tuple_start}
use Rattle.sn_box_parser.proofs.Steps.{no_tuple}
use Rattle.sn_box_parser.proofs.head.output.Goals as goal

pub returns-in_default : goal.returns-in_default
returns-in_default c = λ w t. no_tuple _ c.in_default.ensures

pub returns : goal.returns
returns c = rw c.in-Some.ensures (tuple_start _ _ _ c.start.ensures.from c.start.ensures.to)
