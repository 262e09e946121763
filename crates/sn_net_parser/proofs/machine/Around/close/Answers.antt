use Rattle.sn_net_parser.proofs.Steps.{close_from, close_to, no_outer}
use Rattle.sn_net_parser.proofs.machine.Around.close.Goals as goal

pub returns-in_default : goal.returns-in_default
returns-in_default c = λ w t. rw c.in_default.ensures no_outer

pub returns : goal.returns
returns c = λ w t. rw (c.in-Some.ensures, c.parens.ensures, c.in_ok-inner.ensures) (close_from, close_to)
