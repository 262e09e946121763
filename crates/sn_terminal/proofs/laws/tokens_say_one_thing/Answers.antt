use Rattle.sn_terminal.proofs.Saying.{say_once, placed_say}
use Rattle.sn_terminal.proofs.laws.tokens_say_one_thing.Goals as goal

pub returns-clause-once : goal.returns-clause-once
returns-clause-once c = say_once

pub returns-clause-something : goal.returns-clause-something
returns-clause-something c = placed_say
