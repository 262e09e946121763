use Rattle.sn_box_parser.proofs.Steps.{arrow_from, arrow_to, no_arrow}
use Rattle.sn_box_parser.proofs.head.arrow.Goals as goal

pub returns-in_default : goal.returns-in_default
returns-in_default c = λ w t. no_arrow _ c.in_default.ensures

pub returns : goal.returns
returns c = λ w t. rw (c.in-Some.ensures, c.new.ensures) (arrow_from, arrow_to)
