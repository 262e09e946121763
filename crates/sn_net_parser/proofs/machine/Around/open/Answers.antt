use Rattle.sn_net_parser.proofs.Steps.{paren_from, paren_to}
use Rattle.sn_net_parser.proofs.machine.Around.«open».Goals as goal

pub returns : goal.returns
returns c = λ w t. rw (c.in_ok-push.ensures.ok, c.new.ensures) (paren_from, paren_to)
