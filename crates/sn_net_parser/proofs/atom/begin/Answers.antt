use Rattle.sn_net_parser.proofs.Steps.{name_from, name_to}
use Rattle.sn_net_parser.proofs.atom.begin.Goals as goal

pub returns-in-Name : goal.returns-in-Name
returns-in-Name c = λ w t. rw (c.in-Name.is, c.name.ensures) (name_from, name_to)
