use Rattle.sn_parser.proofs.Embedded.{network_start}
use Rattle.sn_parser.proofs.Steps.{no_connect}
use Rattle.sn_parser.proofs.net_decl.connect.Goals as goal

pub returns-in_default : goal.returns-in_default
returns-in_default c = λ w all. no_connect _ c.in_default.ensures

pub returns : goal.returns
returns c = rw c.in-Some.ensures (network_start _ _ c.args.net _ _ c.start.ensures.from c.start.ensures.to)
