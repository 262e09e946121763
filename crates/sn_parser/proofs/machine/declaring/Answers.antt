use Rattle.sn_parser.proofs.Embedded.{box_start}
use Rattle.sn_parser.proofs.Steps.{net_name_from, net_name_to, sig_name_from, sig_name_to, type_name_from, type_name_to}
use Rattle.sn_parser.proofs.machine.declaring.Goals as goal

pub returns-in-Box : goal.returns-in-Box
returns-in-Box c = rw c.in-Box.is (box_start _ _ _ _ c.start.ensures.from c.start.ensures.to)

pub returns-in-Net : goal.returns-in-Net
returns-in-Net c = λ w all. rw c.in-Net.is (net_name_from, net_name_to)

pub returns-in-Type : goal.returns-in-Type
returns-in-Type c = λ w all. rw c.in-Type.is (type_name_from, type_name_to)

pub returns-in-TypeSig : goal.returns-in-TypeSig
returns-in-TypeSig c = λ w all. rw c.in-TypeSig.is (sig_name_from, sig_name_to)
