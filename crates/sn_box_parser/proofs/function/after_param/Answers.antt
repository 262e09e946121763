use Rattle.sn_box_parser.proofs.Steps.{comma_from, comma_to, no_after_param, some_from, some_to}
use Rattle.sn_box_parser.proofs.function.after_param.Goals as goal

pub returns-in-Some : goal.returns-in-Some
returns-in-Some c = λ w t. rw c.in-Some.ensures (comma_from, comma_to)

pub returns-in_default-symbol_at : goal.returns-in_default-symbol_at
returns-in_default-symbol_at c = λ w t. no_after_param _ c.in_default.ensures c.in_default-symbol_at.ensures

pub returns : goal.returns
returns c = λ w t. rw c.in-Some-symbol_at.ensures (some_from, some_to)
