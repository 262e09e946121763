use Rattle.sn_parser.proofs.Steps.{box_from, box_to, net_from, net_to, no_keyword, sig_from, sig_to, type_from, type_to}
use Rattle.sn_parser.proofs.machine.begin.Goals as goal

pub returns-in-Box : goal.returns-in-Box
returns-in-Box c = λ w all. rw (c.in-Box.is, c.naming.ensures) (box_from, box_to)

pub returns-in-Net : goal.returns-in-Net
returns-in-Net c = λ w all. rw (c.in-Net.is, c.naming-in-Net.ensures) (net_from, net_to)

pub returns-in-Type : goal.returns-in-Type
returns-in-Type c = λ w all. rw (c.in-Type.is, c.naming-in-Type.ensures) (type_from, type_to)

pub returns-in-TypeSig : goal.returns-in-TypeSig
returns-in-TypeSig c = λ w all. rw (c.in-TypeSig.is, c.naming-in-TypeSig.ensures) (sig_from, sig_to)

pub returns-in_default : goal.returns-in_default
returns-in_default c = λ w all. no_keyword _ c.in_default.not-Box c.in_default.not-Net c.in_default.not-Type c.in_default.not-TypeSig
