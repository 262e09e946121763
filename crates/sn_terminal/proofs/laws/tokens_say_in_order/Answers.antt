use Rattle.sn_terminal.proofs.Saying.{say_join, say_split}
use Rattle.sn_terminal.proofs.laws.tokens_say_in_order.Goals as goal

pub returns-clause-joined : goal.returns-clause-joined
returns-clause-joined c = say_join

pub returns-clause-split : goal.returns-clause-split
returns-clause-split c = say_split
