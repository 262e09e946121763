use Rattle.std.proofs.Common.{refl}
use Rattle.sn_net_parser.proofs.Steps.{end_from, end_to, no_inside}
use Rattle.sn_net_parser.proofs.machine.Around.end.Goals as goal

pub returns-in-Some : goal.returns-in-Some
returns-in-Some c = λ w t. rw c.in-Some.ensures no_inside

pub returns : goal.returns
returns c = (refl, λ w t. rw (c.in_default.ensures, c.in_ok-network.ensures) (end_from, end_to))
