use Rattle.sn_net_parser.proofs.Steps.{start_from, start_to}
use Rattle.sn_net_parser.proofs.machine.NetParser.start.Goals as goal

pub returns-clause-from : goal.returns-clause-from
returns-clause-from c = λ w us n. rw (c.new.ensures, c.new-2.ensures) start_from

pub returns-clause-to : goal.returns-clause-to
returns-clause-to c = λ w t. rw (c.new.ensures, c.new-2.ensures) start_to
