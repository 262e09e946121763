use Rattle.sn_box_parser.proofs.Steps.{bar_from, bar_to, no_after_output, outputs_from, outputs_to}
use Rattle.sn_box_parser.proofs.head.after_output.Goals as goal

pub returns-in-Some : goal.returns-in-Some
returns-in-Some c = λ w t. rw c.in-Some.ensures (bar_from, bar_to)

pub returns-in_default-symbol_at : goal.returns-in_default-symbol_at
returns-in_default-symbol_at c = λ w t. no_after_output _ c.in_default.ensures c.in_default-symbol_at.ensures

pub returns : goal.returns
returns c = λ w t. rw c.in-Some-symbol_at.ensures (outputs_from, outputs_to)
