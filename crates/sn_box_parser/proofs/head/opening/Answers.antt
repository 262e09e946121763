use Rattle.sn_box_parser.proofs.Steps.{no_opening, opening_from, opening_to}
use Rattle.sn_box_parser.proofs.head.opening.Goals as goal

pub returns-in_default : goal.returns-in_default
returns-in_default c = λ w t. no_opening _ c.in_default.ensures

pub returns : goal.returns
returns c = λ w t. rw c.in-Some.ensures (opening_from, opening_to)
