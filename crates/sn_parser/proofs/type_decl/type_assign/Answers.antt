use Rattle.sn_parser.proofs.Embedded.{type_start}
use Rattle.sn_parser.proofs.Steps.{no_type}
use Rattle.sn_parser.proofs.type_decl.type_assign.Goals as goal

pub returns-in_default : goal.returns-in_default
returns-in_default c = λ w all. no_type _ c.in_default.ensures

pub returns : goal.returns
returns c = rw c.in-Some.ensures (type_start _ _ _ _ _ c.start.ensures.from c.start.ensures.to)
