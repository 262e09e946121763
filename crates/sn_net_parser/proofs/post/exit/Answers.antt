use Rattle.sn_net_parser.proofs.Embedded.{exit_start}
use Rattle.sn_net_parser.proofs.Steps.{no_exit}
use Rattle.sn_net_parser.proofs.post.exit.Goals as goal

pub returns-in_default : goal.returns-in_default
returns-in_default c = λ w t. no_exit _ c.in_default.ensures

pub returns : goal.returns
returns c = rw c.in-Some.ensures (exit_start _ _ _ _ _ c.start.ensures.from c.start.ensures.to)
