use Rattle.sn_net_parser.proofs.Steps.{dots_from, dots_to}
use Rattle.sn_net_parser.proofs.machine.Around.dots.Goals as goal

pub returns : goal.returns
returns c = λ w t. rw c.in_ok-level.ensures (dots_from, dots_to)
