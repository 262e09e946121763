use Rattle.sn_parser.proofs.machine.Around.finish.Goals as goal

pub returns-in-None : goal.returns-in-None
returns-in-None c = rw c.in-None.ensures c.finish_outermost.ensures
