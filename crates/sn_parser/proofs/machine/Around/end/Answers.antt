use Rattle.sn_parser.proofs.Steps.{end_from, end_to, no_end_inside}
use Rattle.sn_parser.proofs.machine.Around.end.Goals as goal

pub returns-in-Some : goal.returns-in-Some
returns-in-Some c = λ all. rw c.in-Some.ensures no_end_inside

pub returns : goal.returns
returns c = λ all. rw c.in_default.ensures (end_from, end_to)
