use Rattle.sn_parser.proofs.Steps.{no_name}
use Rattle.sn_parser.proofs.machine.named.Goals as goal

pub returns-in_default : goal.returns-in_default
returns-in_default c = λ w all. no_name _ c.in_default.ensures

pub returns : goal.returns
returns c = λ w all. rw c.in-Some.ensures (c.declaring.ensures w all)
