use Rattle.sn_box_parser.proofs.Steps.{brace_from, brace_to, no_brace}
use Rattle.sn_box_parser.proofs.head.brace.Goals as goal

pub returns-in_default : goal.returns-in_default
returns-in_default c = λ w t. no_brace _ c.in_default.ensures

pub returns : goal.returns
returns c = λ w t. rw (c.in-Some.ensures, c.no_row.ensures) (brace_from, brace_to)
