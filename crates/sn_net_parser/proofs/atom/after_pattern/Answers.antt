use Rattle.sn_net_parser.proofs.Steps.{comma_from, comma_to, cell_from, cell_to, no_after}
use Rattle.sn_net_parser.proofs.atom.after_pattern.Goals as goal

pub returns-in-Some : goal.returns-in-Some
returns-in-Some c = λ w t. rw c.in-Some.ensures (comma_from, comma_to)

pub returns-in_default-symbol_at : goal.returns-in_default-symbol_at
returns-in_default-symbol_at c = λ w t. no_after _ c.in_default.ensures c.in_default-symbol_at.ensures

pub returns : goal.returns
returns c = λ w t. rw (c.in-Some-symbol_at.ensures, c.sync.ensures) (cell_from, cell_to)
